-- The next body row after the end of a line, and where the last row ends.
-- Assumes nothing.
use Prim.Native.Nat.{ℕ, ◌≤◌, ◌<◌}
use mathlib.Core.Path.{◌≡◌, refl, ap, sym, ◌∙◌}
use mathlib.Core.List.{List, [], ◌∷◌}
use native.Mathlib.Omega.{arith}
use borrow.Author.Tests.{eqb-true, eqb-false}
use lib.Dec.{eqb}
use lib.ListN.{drop}
use Rattle.tokenizer.specs.declared.event.Point.{Point}
use Rattle.tokenizer.specs.declared.event.Event.{Event}
use Rattle.tokenizer.specs.Points.{past, next_line}
use Rattle.tokenizer.specs.Lines.{Line, lines}
use Rattle.tokenizer.specs.Events.{GfmTableHead, GfmTableRow, leave, point_of}
use Rattle.tokenizer.specs.Places.{Placed, placed, end_of, lines_past}
use Rattle.tokenizer.specs.Moves.{rest_of, line_at, after, Inside}
use Rattle.tokenizer.proofs.Ends.{after-inside}
use Rattle.tokenizer.proofs.Places.{lines-from}
use Rattle.gfm_table.specs.Raw.{text_row}
use Rattle.edit_map.specs.Tables.{BodyRow, last_exit}
use Rattle.sheet.specs.Walk.{closes, line_end, body_rows}
use Rattle.sheet.specs.From.{here}
use Rattle.sheet.specs.declared.tables.Written.{Written}
use Rattle.sheet.specs.Spans.{last_point, last_stop}
use Rattle.sheet.specs.Placing.{point_at, AtEnd}
use Rattle.sheet.specs.Results.{body_after}
use Rattle.sheet.proofs.Tests.{test}
use Rattle.sheet.proofs.From.{past-last, past_more}
use Rattle.sheet.proofs.LastRow.{last-exit}
use Rattle.sheet.proofs.Stops.{rows_same, stop-stop, stop-past, stop-line, stop-here}

-- ## The last row

module _ (kind : ℕ → ℕ) (s : List ℕ) where
  -- the last exit does not lie before the point where the rows begin
  last_least : (e : Event) (l : Placed) (q : Point) (ls : List Line) → e.index ≤ q.index → e.index ≤ (last_exit e (body_rows kind l (placed q ls))).index
  unfolding last_exit body_rows placed
  last_least e l q [] h = omega arith
  last_least e l q (m ∷ ms) h =
      test (closes kind m.body) (λ b. rw b (omega arith))
      (λ b. rw b
      (omega (
        arith,
        h,
        last_least (leave GfmTableRow (past q m.body)) (record { at = q; line = m }) (next_line (past q m.body) m.end) ms (omega arith),
      )))

  pub past-onward : (p : Point) (e : Event) (l : Placed) → e.index ≤ (end_of (here s p)).index → e.index ≤ (last_exit e (body_rows kind l (lines_past s p))).index
  unfolding last_exit body_rows
  past-onward p e l h =
      test (eqb (line_at s p).end 0) (λ b. rw b (omega arith))
      (λ b. rw b (last_least e l (after s p) (lines (drop (after s p).index s)) (omega (arith, h))))

  -- the rows after the end of a line are those after the line
  pub stop-rows : (p : Point) → body_after kind s (end_of (here s p)) ≡ body_after kind s p
  stop-rows p = ap (body_rows kind (here s (end_of (here s p)))) (stop-past s p) ∙ rows_same kind (here s (end_of (here s p))) (here s p) (lines_past s p) (stop-line s p)

  pub stop_last_point : (p : Point) → last_point kind s (end_of (here s p)) ≡ last_point kind s p
  stop_last_point p = λ i. point_of (last_exit (leave GfmTableHead (stop-stop s p i)) (stop-rows p i))

-- ## The next row

module _ (kind : ℕ → ℕ) where
  -- what is next after a line that has ended: no row, or one
  data Next (s : List ℕ) (p : Point) : Type 0 where
    none : (body_after kind) s p ≡ [] → Next s p
    some : ((line_at s p).end ≡ 0 → ⊥) → body_after kind s p ≡ record { before = line_end (here s p); row = text_row kind (after s p) (rest_of s (after s p)) } ∷ body_after kind s (after s p) → Next s p

  next : (s : List ℕ) (p : Point) → Next s p
  unfolding body_rows
  next s p =
      test (eqb (line_at s p).end 0)
      (λ e. none (ap (body_rows kind (here s p)) (past-last s p (eqb-true (line_at s p).end 0 e))))
      (λ e.
      let z = eqb-false (line_at s p).end 0 e in
      let l = ap (body_rows kind (here s p)) (past_more s p z ∙ lines-from s (after s p)) in
      test (closes kind (rest_of s (after s p))) (λ b. none (l ∙ rw b)) (λ b. some z (l ∙ rw b)))

  -- where the last row is left
  last_none : (s : List ℕ) (p : Point) → body_after kind s p ≡ [] → last_point kind s p ≡ end_of (here s p)
  unfolding last_exit
  last_none s p e = ap (λ (bs : List BodyRow). point_of (last_exit (leave GfmTableHead (end_of (here s p))) bs)) e

  last_row : (s : List ℕ) (p q : Point) (r : BodyRow) (bs : List BodyRow) → body_after kind s p ≡ r ∷ bs → r.row.exit ≡ leave GfmTableRow q → last_point kind s p ≡ point_of (last_exit (leave GfmTableRow q) bs)
  unfolding last_exit
  last_row s p q r bs e f = ap (λ (cs : List BodyRow). point_of (last_exit (leave GfmTableHead (end_of (here s p))) cs)) e ∙ ap (λ (x : Event). point_of (last_exit x bs)) f

-- ## At the end of a line

-- where the next row starts and ends
module _ (s : List ℕ) where
  abbrev pub next_start : Written → Point
  next_start x = after s (point_at x)

  abbrev pub next_end : Written → Point
  next_end x = end_of (here s (next_start x))

module _ (kind : ℕ → ℕ) (s : List ℕ) where
  -- a row is next
  pub record Row (x : Written) : Type 0 where
    pub ended : (line_at s (point_at x)).end ≡ 0 → ⊥
    pub rows : body_after kind s (point_at x) ≡ record { before = line_end (here s (point_at x)); row = text_row kind (next_start s x) (rest_of s (next_start s x)) } ∷ body_after kind s (next_end s x)
    pub inside : Inside s (next_start s x)
    pub last : last_point kind s (point_at x) ≡ last_point kind s (next_end s x)
    pub long : x.at < (next_end s x).index

  -- none is
  pub last_here : (x : Written) → AtEnd s x → body_after kind s (point_at x) ≡ [] → last_point kind s (point_at x) ≡ point_at x
  last_here x h e = last_none kind s (point_at x) e ∙ stop-here s (point_at x) h.rest h.inside

  -- which of them is told by where the rows end
  module _ (stop : ℕ) where
    pub row_next : (x : Written) → AtEnd s x → stop ≡ last_stop kind s (point_at x) → x.at < stop → Row x
    row_next x h o l = go (next kind s (point_at x))
      where
        go : (Next kind) s (point_at x) → Row x
        go (none e) =
            absurd (
            let i = ap (λ (c : Point). c.index) (last_none kind s (point_at x) e ∙ stop-here s (point_at x) h.rest h.inside) in
            omega (arith, i, o, l)
            )
        go (some z e) =
            let p = point_at x in
            let q = next_start s x in
            let d = next_end s x in
            let r : BodyRow = record { before = line_end (here s p); row = text_row kind q (rest_of s q) } in
            let bs = body_after kind s d in
            let a : (body_after kind) s p ≡ r ∷ bs = e ∙ ap (λ (cs : List BodyRow). r ∷ cs) (sym (stop-rows kind s q)) in
            record {
              ended = z;
              rows = a;
              inside = after-inside s p z h.inside;
              last = last_row kind s p d r bs a refl ∙ last-exit (leave GfmTableRow d) (leave GfmTableHead (end_of (here s d))) bs (sym (stop-stop s q));
              long = omega (arith, z);
            }

    pub none_next : (x : Written) → AtEnd s x → stop ≡ last_stop kind s (point_at x) → stop ≤ x.at → body_after kind s (point_at x) ≡ []
    none_next x h o l = go (next kind s (point_at x))
      where
        go : (Next kind) s (point_at x) → body_after kind s (point_at x) ≡ []
        go (none e) = e
        go (some z e) =
            absurd (
            let p = point_at x in
            let q = after s p in
            let d = past q (rest_of s q) in
            let i = ap (λ (c : Point). c.index) (last_row kind s p d _ (body_after kind s q) e refl) in
            let j = past-onward kind s q (leave GfmTableRow d) (here s q) (omega arith) in
            omega (arith, i, j, o, l, z)
            )

-- How many tables, events and alignments a sheet has at most.
-- Assumes nothing.
use Prim.Native.Nat.{ℕ, suc, ◌+◌, ◌*◌, ◌≤◌, ◌<◌}
use mathlib.Core.Path.{◌≡◌, refl, ap}
use mathlib.Core.Bool.{Bool, true, false, cond}
use mathlib.Core.List.{List, [], ◌∷◌, ◌++◌}
use native.Mathlib.Omega.{arith}
use lib.Dec.{eqb}
use lib.ListN.{length, drop, length-append, length-drop}
use Rattle.tokenizer.specs.declared.event.Point.{Point}
use Rattle.tokenizer.specs.declared.event.Event.{Event}
use Rattle.tokenizer.specs.Events.{GfmTableRow, GfmTableDelimiterRow}
use Rattle.tokenizer.specs.Points.{past, next_line}
use Rattle.tokenizer.specs.Lines.{Line, starts_lf, on_first, crlf, lines, is_empty}
use Rattle.tokenizer.specs.Places.{Placed, placed, lines_from}
use Rattle.gfm_table.specs.Heads.{on_stretch, stretches, trimmed, unled, untrailed, values, alignments}
use Rattle.gfm_table.specs.Rows.{row_pieces, delimiter_pieces, both, raw_row}
use Rattle.gfm_table.specs.Raw.{text_row}
use Rattle.gfm_table.proofs.Plans.{row-few, delimiter-few, row-length}
use Rattle.edit_map.specs.Tables.{raw_body, raw_table}
use Rattle.sheet.specs.Walk.{Found, closes, line_end, body_rows, raw_of, aligned_of, table_of, opens, heads, rows}
use Rattle.sheet.proofs.Tests.{test}

-- ## A line

-- one value more than the dividers
stretch-some : (b : ℕ) (cs : List (List ℕ)) → 0 < length cs → length (on_stretch b cs) ≡ length cs
stretch-some b [] h = omega arith
stretch-some b (c ∷ cs) h = refl

module _ (kind : ℕ → ℕ) where
  stretches-few : (u : List ℕ) → (0 < length (stretches kind u)) × (length (stretches kind u) ≤ 1 + length u)
  unfolding stretches
  stretches-few [] = (omega arith, omega arith)
  stretches-few (b ∷ u) = go (eqb (kind b) 3) (stretches-few u)
    where
      go : (t : Bool) → (0 < length (stretches kind u)) × (length (stretches kind u) ≤ 1 + length u)
          → (0 < length (cond t ([] ∷ stretches kind u) (on_stretch b (stretches kind u)))) × (length (cond t ([] ∷ stretches kind u) (on_stretch b (stretches kind u))) ≤ 1 + suc (length u))
      go true h = (omega arith, omega arith)
      go false h = let e = stretch-some b (stretches kind u) h.0 in (omega arith, omega arith)

  trimmed-length : (cs : List (List ℕ)) → length (trimmed kind cs) ≡ length cs
  unfolding trimmed
  trimmed-length [] = refl
  trimmed-length (c ∷ cs) = ap suc (trimmed-length cs)

unled-few : (cs : List (List ℕ)) → length (unled cs) ≤ length cs
unled-few [] = omega arith
unled-few (c ∷ []) = omega arith
unled-few (c ∷ d ∷ cs) = test (is_empty c) (λ e. rw e (omega arith)) (λ e. rw e (omega arith))

untrailed-few : (cs : List (List ℕ)) → length (untrailed cs) ≤ length cs
unfolding untrailed
untrailed-few [] = omega arith
untrailed-few (c ∷ []) = test (is_empty c) (λ e. rw e (omega arith)) (λ e. rw e (omega arith))
untrailed-few (c ∷ d ∷ cs) = omega (arith, untrailed-few (d ∷ cs))

module _ (kind : ℕ → ℕ) where
  pub values-few : (u : List ℕ) → length (values kind u) ≤ 1 + length u
  values-few u =
      let cs = trimmed kind (stretches kind u) in
      omega (arith, untrailed-few (unled cs), unled-few cs, trimmed-length kind (stretches kind u), (stretches-few kind u).1)

  pub aligned-length : (cs : List (List ℕ)) → length (alignments kind cs) ≡ length cs
  unfolding alignments
  aligned-length [] = refl
  aligned-length (c ∷ cs) = ap suc (aligned-length cs)

-- ## Lines

-- what the lines can give: two events for each byte, four for each line
unfoldable pub weight : List Placed → ℕ
weight [] = 0
weight (l ∷ ls) = 2 * length l.line.body + 4 + weight ls

unfoldable line_weight : List Line → ℕ
line_weight [] = 0
line_weight (l ∷ ls) = 2 * length l.body + 4 + line_weight ls

placed-weight : (p : Point) (ls : List Line) → weight (placed p ls) ≡ line_weight ls
unfolding weight line_weight placed
placed-weight p [] = refl
placed-weight p (l ∷ ls) = ap (λ (n : ℕ). 2 * length l.body + 4 + n) (placed-weight (next_line (past p l.body) l.end) ls)

first-weight : (b : ℕ) (ls : List Line) → line_weight (on_first b ls) ≤ 2 + line_weight ls
unfolding line_weight
first-weight b [] = omega arith
first-weight b (l ∷ ls) = omega arith

crlf-weight : (ls : List Line) → line_weight (crlf ls) ≤ line_weight ls
unfolding line_weight
crlf-weight [] = omega arith
crlf-weight (l ∷ ls) = omega arith

lines-weight : (u : List ℕ) → line_weight (lines u) ≤ 6 * length u + 4
unfolding lines line_weight
lines-weight [] = omega arith
lines-weight (b ∷ u) =
    let h = lines-weight u in
    test (eqb b 10) (λ e. rw e (omega (arith, h)))
    (λ e. test (eqb b 13)
    (λ f. test (starts_lf u) (λ g. rw (e, f, g) (omega (arith, h, crlf-weight (lines u)))) (λ g. rw (e, f, g) (omega (arith, h))))
    (λ f. rw (e, f) (omega (arith, h, first-weight b (lines u)))))

pub from-weight : (s : List ℕ) (p : Point) → weight (lines_from s p) ≤ 6 * length s + 4
from-weight s p = omega (arith, placed-weight p (lines (drop p.index s)), lines-weight (drop p.index s), length-drop p.index s)

-- ## Tables

-- the events of a table: eight of its own, and two for each piece of its head's lines
table_parts : (x y : Event) (a b c d : List Event) → length (x ∷ (a ++ (b ++ (c ++ (y ∷ d))))) ≡ 2 + (length a + (length b + (length c + length d)))
table_parts x y a b c d = simp length-append (omega arith)

module _ (kind : ℕ → ℕ) where
  pub table-length : (l d : Placed) (ls : List Placed)
      → length (raw_table (table_of kind l d ls)) ≡ 8 + 2 * length (row_pieces kind false l.line.body) + 2 * length (delimiter_pieces kind d.line.body) + length (raw_body (body_rows kind d ls))
  table-length l d ls =
      let t = table_of kind l d ls in
      omega (
        arith,
        row-length GfmTableRow (row_pieces kind false) l.at l.line.body,
        row-length GfmTableDelimiterRow (delimiter_pieces kind) d.at d.line.body,
        table_parts t.entry t.exit (raw_row t.head) (both t.between) (raw_row t.delimiter) (raw_body t.body),
      )

pub body_parts : (x y : Event) (a b : List Event) → length ((x ∷ y ∷ []) ++ (a ++ b)) ≡ 2 + (length a + length b)
body_parts x y a b = simp length-append (omega arith)

-- all that is counted of some tables
abbrev pub tally : List Found → ℕ
tally fs = length fs + (length (raw_of fs) + length (aligned_of fs))

module _ (kind : ℕ → ℕ) where
  module _ (on : Bool) where
    mutual
      unfolding weight heads raw_of aligned_of raw_body body_rows

      pub heads-tally : (ls : List Placed) → tally (heads kind on ls) ≤ 2 * weight ls
      heads-tally [] = omega arith
      heads-tally (l ∷ []) = omega arith
      heads-tally (l ∷ d ∷ ls) =
          test (opens kind on l d)
          (λ e. rw e
          (omega (
            arith,
            rows-tally d ls,
            table-length kind l d ls,
            row-few kind false l.line.body,
            delimiter-few kind d.line.body,
            values-few kind d.line.body,
            aligned-length kind (values kind d.line.body),
            length-append (raw_table (table_of kind l d ls)) (raw_of (rows kind on ls)),
            length-append (alignments kind (values kind d.line.body)) (aligned_of (rows kind on ls)),
          )))
          (λ e. rw e (omega (arith, heads-tally (d ∷ ls))))

      pub rows-tally : (l : Placed) (ls : List Placed) → length (raw_body (body_rows kind l ls)) + tally (rows kind on ls) ≤ 2 * weight ls
      rows-tally l [] = omega arith
      rows-tally l (m ∷ ls) =
          test (closes kind m.line.body) (λ e. rw e (omega (arith, heads-tally ls)))
          (λ e. rw e
          (omega (
            arith,
            rows-tally m ls,
            row-length GfmTableRow (row_pieces kind false) m.at m.line.body,
            row-few kind false m.line.body,
            body_parts (line_end l).entry (line_end l).exit (raw_row (text_row kind m.at m.line.body)) (raw_body (body_rows kind m ls)),
          )))

  -- so many bytes, so many counts
  module _ (s : List ℕ) (on : Bool) (p : Point) where
    pub from-tally : tally (heads kind on (lines_from s p)) ≤ 12 * length s + 8
    from-tally = omega (arith, heads-tally on (lines_from s p), from-weight s p)

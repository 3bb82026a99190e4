-- The raw events of rows, heads, bodies and tables, written to slots one part after the other.
-- Assumes nothing.
use Prim.Native.Nat.{ℕ, ◌+◌, ◌*◌, ◌≤◌, ◌<◌}
use mathlib.Core.Path.{◌≡◌, ap, sym, ◌∙◌}
use mathlib.Core.List.{List, [], ◌∷◌, ◌++◌, append_assoc}
use native.Mathlib.Omega.{arith}
use lib.ListN.{length, set, length-append}
use Rattle.tokenizer.specs.declared.event.Point.{Point}
use Rattle.tokenizer.specs.declared.event.Event.{Event}
use Rattle.tokenizer.specs.Points.{past}
use Rattle.tokenizer.specs.Events.{LineEnding, GfmTableHead, enter, leave}
use Rattle.tokenizer.specs.Slots.{wrote}
use Rattle.tokenizer.specs.Places.{end_of}
use Rattle.tokenizer.specs.Moves.{rest_of, line_at, after, Inside}
use Rattle.tokenizer.proofs.Ends.{body-inside, stop-rest}
use Rattle.tokenizer.proofs.Writing.{wrote_none, wrote_one, wrote-more, wrote-append}
use Rattle.gfm_table.specs.declared.stream.Part.{Part}
use Rattle.gfm_table.specs.declared.stream.Part.TheVariants.{Head, Delimiter, Body}
use Rattle.gfm_table.specs.Rows.{passed, both, all_both}
use Rattle.gfm_table.specs.Stream.{name_of, pieces_of}
use Rattle.gfm_table.specs.Places.{row_wrote}
use Rattle.gfm_table.proofs.Plans.{row-length}
use Rattle.edit_map.specs.Tables.{BodyRow, raw_body, raw_table}
use Rattle.sheet.specs.declared.tables.Written.{Written}
use Rattle.sheet.specs.Walk.{line_end}
use Rattle.sheet.specs.From.{here}
use Rattle.sheet.specs.Spans.{last_point, last_stop}
use Rattle.sheet.specs.Placing.{point_at, written_at, AtEnd, Few, break_events, row_events, next_events, heads_events, rows_after, table_at}
use Rattle.sheet.proofs.Stops.{stop-after, stop-line, stop-here}
use Rattle.sheet.proofs.NextRow.{stop-rows, stop_last_point, row_next, none_next, last_here}

-- ## Events between two others

module _ (k : ℕ) (a x : Event) (r n zs : List Event) where
  -- one, some, and one
  wrote_around : wrote k (a ∷ (r ++ (x ∷ []))) zs ≡ set (wrote (k + 1) r (set zs k a)) (k + 1 + length r) x
  wrote_around = wrote-more k a (r ++ (x ∷ [])) zs ∙ wrote-append (k + 1) r (x ∷ []) (set zs k a) ∙ wrote_one (k + 1 + length r) x (wrote (k + 1) r (set zs k a))

  -- one, some, others, and one
  wrote_twice : wrote k (a ∷ (r ++ (n ++ (x ∷ [])))) zs ≡ set (wrote (k + 1 + length r) n (wrote (k + 1) r (set zs k a))) (k + 1 + length r + length n) x
  wrote_twice =
      let ws = wrote (k + 1) r (set zs k a) in
      wrote-more k a (r ++ (n ++ (x ∷ []))) zs ∙ wrote-append (k + 1) r (n ++ (x ∷ [])) (set zs k a)
      ∙ wrote-append (k + 1 + length r) n (x ∷ []) ws ∙ wrote_one (k + 1 + length r + length n) x (wrote (k + 1 + length r) n ws)

  length_twice : length (a ∷ (r ++ (n ++ (x ∷ [])))) ≡ 2 + length r + length n
  length_twice = omega (arith, length-append r (n ++ (x ∷ [])), length-append n (x ∷ []))

-- two, and others
pub wrote_pair : (k : ℕ) (a b : Event) (r zs : List Event) → wrote k (a ∷ b ∷ r) zs ≡ wrote (k + 2) r (set (set zs k a) (k + 1) b)
wrote_pair k a b r zs = wrote-more k a (b ∷ r) zs ∙ wrote-more (k + 1) b r (set zs k a) ∙ ap (λ (j : ℕ). wrote j r (set (set zs k a) (k + 1) b)) (omega arith)

module _ (s : List ℕ) where
  -- the end of a line
  pub at-end : (p : Point) (k : ℕ) → Inside s p → AtEnd s (written_at (end_of (here s p)) k)
  at-end p k h = record { inside = body-inside s p h; rest = stop-rest s p }

  -- the two events of a line's end
  pub break-made : (w : Written) → AtEnd s w → (zs : List Event) → set (set zs w.slot (enter LineEnding (point_at w))) (w.slot + 1) (leave LineEnding (after s (point_at w))) ≡ wrote w.slot (break_events s (point_at w)) zs
  break-made w h zs =
      let p = point_at w in
      let x = leave LineEnding (after s p) in
      sym ((λ i. wrote w.slot (enter LineEnding (stop-here s p h.rest h.inside i) ∷ x ∷ []) zs) ∙ wrote-more w.slot (enter LineEnding p) (x ∷ []) zs ∙ wrote_one (w.slot + 1) x (set zs w.slot (enter LineEnding p)))

module _ (kind : ℕ → ℕ) (s : List ℕ) where
  -- ## A row

  pieces-length : (t : Part) (p : Point) (u : List ℕ) → length (all_both (passed p (pieces_of kind t u))) ≡ 2 * length (pieces_of kind t u)
  pieces-length t p u = omega (arith, row-length 7 (pieces_of kind t) p u, length-append (all_both (passed p (pieces_of kind t u))) (leave 7 (past p u) ∷ []))

  module _ (t : Part) (p : Point) (k : ℕ) where
    -- the slot of its exit
    abbrev pub exit_slot : ℕ
    exit_slot = k + 1 + 2 * length (pieces_of kind t (rest_of s p))

    pub row_slot_lem : exit_slot + 1 ≡ k + length (row_events kind s t p)
    row_slot_lem = omega (arith, row-length (name_of t) (pieces_of kind t) p (rest_of s p))

    pub row_made : (zs : List Event) → set (row_wrote kind s t p (k + 1) (set zs k (enter (name_of t) p))) exit_slot (leave (name_of t) (end_of (here s p))) ≡ wrote k (row_events kind s t p) zs
    row_made zs =
        let a = enter (name_of t) p in
        let x = leave (name_of t) (end_of (here s p)) in
        let r = all_both (passed p (pieces_of kind t (rest_of s p))) in
        ap (λ (j : ℕ). set (wrote (k + 1) r (set zs k a)) j x) (omega (arith, pieces-length t p (rest_of s p))) ∙ sym (wrote_around k a x r [] zs)

    pub row-few : Few k (row_events kind s t p) → (k < 1000000000000) × (k + 1 ≤ 4294967296) × (exit_slot < 1000000000000)
    row-few h = let e = row_slot_lem in (omega arith, omega arith, omega arith)

  -- ## A line end and the next row

  module _ (t : Part) (w : Written) where
    abbrev row : List Event
    row = row_events kind s t (after s (point_at w))

    pub next_slot : w.slot + 2 + length row ≡ w.slot + length (next_events kind s t (point_at w))
    next_slot = omega arith

    pub next-made : (zs : List Event) → wrote (w.slot + 2) row (wrote w.slot (break_events s (point_at w)) zs) ≡ wrote w.slot (next_events kind s t (point_at w)) zs
    next-made zs = sym (wrote-append w.slot (break_events s (point_at w)) row zs)

    pub next-few : Few w.slot (next_events kind s t (point_at w)) → (w.slot < 1000000000000) × Few (w.slot + 2) row
    next-few f = (omega arith, omega arith)

  -- ## A head

  -- the row after the end of a line is the one after the line
  stop-next : (t : Part) (p : Point) → next_events kind s t (end_of (here s p)) ≡ next_events kind s t p
  stop-next t p = λ i. both (stop-line s p i) ++ row_events kind s t (stop-after s p i)

  module _ (p : Point) (k : ℕ) where
    abbrev end : Point
    end = end_of (here s p)

    abbrev first : List Event
    first = row_events kind s Head p

    abbrev second : List Event
    second = next_events kind s Delimiter end

    head-length : length (heads_events kind s p) ≡ 2 + length first + length second
    head-length =
        length_twice 0 (enter GfmTableHead p) (leave GfmTableHead (end_of (here s (after s p)))) first (next_events kind s Delimiter p) []
        ∙ ap (λ (n : List Event). 2 + length first + length n) (sym (stop-next Delimiter p))

    pub head-end : written_at (end_of (here s (after s end))) (k + 1 + length first + length second + 1) ≡ written_at (end_of (here s (after s p))) (k + length (heads_events kind s p))
    head-end =
        let n : k + 1 + length first + length second + 1 ≡ k + length (heads_events kind s p) = omega (arith, head-length) in
        λ i. written_at (end_of (here s (stop-after s p i))) (n i)

    pub head-made : (zs : List Event)
        → set (wrote (k + 1 + length first) second (wrote (k + 1) first (set zs k (enter GfmTableHead p)))) (k + 1 + length first + length second) (leave GfmTableHead (end_of (here s (after s end))))
        ≡ wrote k (heads_events kind s p) zs
    head-made zs =
        let ws = wrote (k + 1) first (set zs k (enter GfmTableHead p)) in
        (λ i. set (wrote (k + 1 + length first) (stop-next Delimiter p i) ws) (k + 1 + length first + length (stop-next Delimiter p i)) (leave GfmTableHead (end_of (here s (stop-after s p i)))))
        ∙ sym (wrote_twice k (enter GfmTableHead p) (leave GfmTableHead (end_of (here s (after s p)))) first (next_events kind s Delimiter p) zs)

    pub head_few : Few k (heads_events kind s p) → (k < 1000000000000) × Few (k + 1) first × Few (k + 1 + length first) second × (k + 1 + length first + length second < 1000000000000)
    head_few f = let e = head-length in (omega arith, omega arith, omega arith, omega arith)

  -- ## A body

  pub stop_rows_after : (p : Point) → rows_after kind s (end_of (here s p)) ≡ rows_after kind s p
  stop_rows_after p = ap raw_body (stop-rows kind s p)

  -- where the rows end, and what all slots are then
  abbrev pub makes : Written → List Event → Written × List Event
  makes a zs = (written_at (last_point kind s (point_at a)) (a.slot + length (rows_after kind s (point_at a))), wrote a.slot (rows_after kind s (point_at a)) zs)

  -- after the next row
  abbrev pub onward : Written → Written
  onward a = written_at (end_of (here s (after s (point_at a)))) (a.slot + length (next_events kind s Body (point_at a)))

  module _ (stop : ℕ) where
    -- the end of a line, the end of the last row, and slots with small numbers
    abbrev pub Good : Written → Type 0
    Good a = AtEnd s a × (stop ≡ last_stop kind s (point_at a)) × Few a.slot (rows_after kind s (point_at a))

    -- a row is written
    pub record Goes (a : Written) : Type 0 where
      pub ended : (line_at s (point_at a)).end ≡ 0 → ⊥
      pub few : Few a.slot (next_events kind s Body (point_at a))
      pub good : Good (onward a)
      pub more : (zs : List Event) → makes a zs ≡ makes (onward a) (wrote a.slot (next_events kind s Body (point_at a)) zs)
      pub long : a.at < (onward a).at

    pub goes : (a : Written) → Good a → a.at < stop → Goes a
    unfolding raw_body
    goes a h l =
        let w = row_next kind s stop a h.0 h.1 l in
        let p = point_at a in
        let q = after s p in
        let n = next_events kind s Body p in
        let rest = rows_after kind s (end_of (here s q)) in
        let r : (rows_after kind) s p ≡ n ++ rest = ap raw_body w.rows in
        let m : a.slot + length (rows_after kind s p) ≡ a.slot + length n + length rest = omega (arith, ap {B = ℕ} length r, length-append n rest) in
        record {
          ended = w.ended;
          few = omega (arith, m, h.2);
          good = (at-end s q _ w.inside, h.1 ∙ ap (λ (x : Point). x.index) w.last, omega (arith, m, h.2));
          more = λ zs. let e = ap (λ (es : List Event). wrote a.slot es zs) r ∙ wrote-append a.slot n rest zs in λ i. (written_at (w.last i) (m i), e i);
          long = w.long;
        }

    -- none is left
    pub stops : (a : Written) (zs : List Event) → Good a → stop ≤ a.at → makes a zs ≡ (a, zs)
    unfolding raw_body
    stops a zs h l =
        let e = none_next kind s stop a h.0 h.1 l in
        let f = last_here kind s a h.0 e in
        let n : a.slot + 0 ≡ a.slot = omega arith in
        ap (λ (bs : List BodyRow). (written_at (last_point kind s (point_at a)) (a.slot + length (raw_body bs)), wrote a.slot (raw_body bs) zs)) e
        ∙ (λ i. (written_at (f i) (n i), wrote_none a.slot zs i))

  -- ## A table

  joined : (r d b : List Event) (x y z : Event) → r ++ (x ∷ y ∷ (d ++ (z ∷ b))) ≡ (r ++ (x ∷ y ∷ (d ++ (z ∷ [])))) ++ b
  joined r d b x y z = ap (λ (es : List Event). r ++ (x ∷ y ∷ es)) (sym (append_assoc d (z ∷ []) b)) ∙ sym (append_assoc r (x ∷ y ∷ (d ++ (z ∷ []))) b)

  module _ (p : Point) (k : ℕ) where
    abbrev bottom : Point
    bottom = end_of (here s (after s p))

    table_parts : raw_table (table_at kind s p) ≡ heads_events kind s p ++ rows_after kind s bottom
    table_parts =
        ap (λ (es : List Event). enter GfmTableHead p ∷ es) (joined (row_events kind s Head p) (row_events kind s Delimiter (after s p)) (rows_after kind s (after s p)) (line_end (here s p)).entry (line_end (here s p)).exit (leave GfmTableHead bottom))
        ∙ ap (λ (es : List Event). heads_events kind s p ++ es) (sym (stop_rows_after (after s p)))

    table-length : k + length (heads_events kind s p) + length (rows_after kind s bottom) ≡ k + length (raw_table (table_at kind s p))
    table-length = omega (arith, ap {B = ℕ} length table_parts, length-append (heads_events kind s p) (rows_after kind s bottom))

    pub table-end : written_at (last_point kind s bottom) (k + length (heads_events kind s p) + length (rows_after kind s bottom)) ≡ written_at (last_point kind s (after s p)) (k + length (raw_table (table_at kind s p)))
    table-end = λ i. written_at (stop_last_point kind s (after s p) i) (table-length i)

    pub table-made : (zs : List Event) → wrote (k + length (heads_events kind s p)) (rows_after kind s bottom) (wrote k (heads_events kind s p) zs) ≡ wrote k (raw_table (table_at kind s p)) zs
    table-made zs = sym (ap (λ (es : List Event). wrote k es zs) table_parts ∙ wrote-append k (heads_events kind s p) (rows_after kind s bottom) zs)

    pub table-few : Few k (raw_table (table_at kind s p)) → Few k (heads_events kind s p) × Few (k + length (heads_events kind s p)) (rows_after kind s bottom)
    table-few f = let e = table-length in (omega arith, omega arith)

    pub table-stop : (last_stop kind) s bottom ≡ last_stop kind s (after s p)
    table-stop = ap (λ (x : Point). x.index) (stop_last_point kind s (after s p))

-- ## All tables

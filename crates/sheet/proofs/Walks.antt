-- The same lines read from two related points: the tables are as many, and alike. What two lines are that open a table.
-- Assumes nothing.
use Prim.Native.Nat.{ℕ, ◌<◌}
use mathlib.Core.Path.{◌≡◌, refl}
use mathlib.Core.List.{List, [], ◌∷◌}
use mathlib.Core.Bool.{Bool, true, false, cond, not, false≢true}
use lib.Dec.{eqb, ltb}
use lib.ListN.{length}
use borrow.Author.Tests.{eqb-true, ltb-true, not-true}
use Rattle.tokenizer.specs.declared.event.Point.{Point}
use Rattle.tokenizer.specs.Points.{past, next_line}
use Rattle.tokenizer.specs.Events.{LineEnding, GfmTableHead}
use Rattle.tokenizer.specs.Lines.{Line}
use Rattle.tokenizer.specs.Places.{Placed, placed}
use Rattle.gfm_table.specs.Rows.{Piece, passed, row_pieces, delimiter_pieces}
use Rattle.gfm_table.specs.Heads.{lone_divider, solid, permitted, is_delimiter_row, marked, all_values, values, head_cells}
use Rattle.gfm_table.specs.Raw.{row_at, text_row}
use Rattle.sheet.specs.Walk.{Found, closes, opens, found, line_end, body_rows, heads, rows}
use Rattle.sheet.specs.Demands.{Each, none, more}
use Rattle.sheet.proofs.Tests.{both_true, either_false}
use Rattle.sheet.proofs.Lists.{each_cond}
use Rattle.sheet.proofs.Alike.{AlikePassed, AlikeRow, AlikeBody, AlikeTable, enter_alike, leave_alike}

-- a line that starts at a point
abbrev pub starting : Point → Line → Placed
starting p l = record { at = p; line = l }

-- where the next line starts
abbrev pub onward : Point → Line → Point
onward p l = next_line (past p l.body) l.end

-- the table whose head line starts at a point
abbrev pub found_at : (ℕ → ℕ) → Bool → Point → Line → Line → List Line → Found
found_at kind on p l d ls = found kind on (starting p l) (starting (onward p l) d) (placed (onward (onward p l) d) ls)

-- a relation of points that is kept along a line and from a line to the next
pub record Kept (R : Point → Point → Type 0) : Type 0 where
  pub along : (p q : Point) (u : List ℕ) → R p q → R (past p u) (past q u)
  pub next : (p q : Point) (n : ℕ) → R p q → R (next_line p n) (next_line q n)

pub record AlikeFound (R : Point → Point → Type 0) (f g : Found) : Type 0 where
  pub table : AlikeTable R f.table g.table
  pub aligned : f.aligned ≡ g.aligned

module _ (kind : ℕ → ℕ) (R : Point → Point → Type 0) (K : Kept R) where
  pub passed_alike : {p q : Point} → R p q → (xs : List Piece) → Each (AlikePassed R) (passed p xs) (passed q xs)
  unfolding passed
  passed_alike h [] = none
  passed_alike {p} {q} h (x ∷ xs) =
      let k = K.along _ _ x.text h in
      more (record { entry = enter_alike R x.name h; exit = leave_alike R x.name k }) (passed_alike {p = past p x.text} {q = past q x.text} k xs)

  row_at_alike : (n : ℕ) (pieces : List ℕ → List Piece) {p q : Point} → R p q → (u : List ℕ) → AlikeRow R (row_at n pieces p u) (row_at n pieces q u)
  row_at_alike n pieces h u = record { entry = enter_alike R n h; pieces = passed_alike h (pieces u); exit = leave_alike R n (K.along _ _ u h) }

  text_row_alike : {p q : Point} → R p q → (u : List ℕ) → AlikeRow R (text_row kind p u) (text_row kind q u)
  text_row_alike = row_at_alike _ _

  onward-kept : {p q : Point} → R p q → (l : Line) → R (onward p l) (onward q l)
  onward-kept h l = K.next _ _ l.end (K.along _ _ l.body h)

  line_end_alike : {p q : Point} → R p q → (l : Line) → AlikePassed R (line_end (starting p l)) (line_end (starting q l))
  line_end_alike h l = record { entry = enter_alike R LineEnding (K.along _ _ l.body h); exit = leave_alike R LineEnding (onward-kept h l) }

  body_rows_alike : {p q : Point} → R p q → (l : Line) (ls : List Line)
      → Each (AlikeBody R) (body_rows kind (starting p l) (placed (onward p l) ls)) (body_rows kind (starting q l) (placed (onward q l) ls))
  unfolding body_rows placed
  body_rows_alike h l [] = none
  body_rows_alike {p} {q} h l (m ∷ ls) =
      let k = onward-kept h l in
      each_cond {b = closes kind m.body} refl none (more (record { before = line_end_alike h l; row = text_row_alike k m.body }) (body_rows_alike {p = onward p l} {q = onward q l} k m ls))

  -- body rows alone, whatever lines stand before them
  pub rows_alike : (k m : Placed) {p q : Point} → R p q → (ls : List Line)
      → Each (λ b c. AlikeRow R b.row c.row) (body_rows kind k (placed p ls)) (body_rows kind m (placed q ls))
  unfolding body_rows placed
  rows_alike k m h [] = none
  rows_alike k m {p} {q} h (l ∷ ls) = each_cond {b = closes kind l.body} refl none (more (text_row_alike h l.body) (rows_alike (starting p l) (starting q l) {p = onward p l} {q = onward q l} (onward-kept h l) ls))

  found_alike : (on : Bool) {p q : Point} → R p q → (l d : Line) (ls : List Line) → AlikeFound R (found_at kind on p l d ls) (found_at kind on q l d ls)
  found_alike on h l d ls =
      let k = onward-kept h l in
      record {
        table = record {
          entry = enter_alike R GfmTableHead h;
          head = text_row_alike h l.body;
          between = line_end_alike h l;
          delimiter = row_at_alike _ (delimiter_pieces kind) k d.body;
          exit = leave_alike R GfmTableHead (K.along _ _ d.body k);
          body = body_rows_alike k d ls;
        };
        aligned = refl;
      }

  mutual
    unfolding heads placed

    pub heads_alike : (on : Bool) {p q : Point} → R p q → (ls : List Line) → Each (AlikeFound R) (heads kind on (placed p ls)) (heads kind on (placed q ls))
    heads_alike on h [] = none
    heads_alike on h (l ∷ []) = none
    heads_alike on {p} {q} h (l ∷ d ∷ ls) =
        let k = onward-kept h l in
        each_cond {b = opens kind on (starting p l) (starting (onward p l) d)} refl (more (found_alike on h l d ls) (rest_alike on (onward-kept k d) ls)) (heads_alike on k (d ∷ ls))

    pub rest_alike : (on : Bool) {p q : Point} → R p q → (ls : List Line) → Each (AlikeFound R) (rows kind on (placed p ls)) (rows kind on (placed q ls))
    rest_alike on h [] = none
    rest_alike on h (l ∷ ls) = let k = onward-kept h l in each_cond {b = closes kind l.body} refl (heads_alike on k ls) (rest_alike on k ls)

-- ## Two lines that open a table

-- what is known of them
pub record Head (kind : ℕ → ℕ) (on : Bool) (l d : Line) : Type 0 where
  pub filled : closes kind l.body ≡ false
  pub ended : eqb l.end 0 ≡ false
  pub solid : lone_divider (solid (row_pieces kind false l.body)) ≡ false
  pub marked : marked kind d.body ≡ true
  pub some : 0 < length (values kind d.body)
  pub valid : all_values kind (values kind d.body) ≡ true
  pub count : length (values kind d.body) ≡ head_cells kind l.body

none-refused : (a b c d : Bool) → eqb (cond (not a) 3 (cond b 4 (cond (not c) 6 (cond (not d) 7 0)))) 0 ≡ true → (b ≡ false) × (c ≡ true) × (d ≡ true)
none-refused false b c d h = absurd (false≢true h)
none-refused true true c d h = absurd (false≢true h)
none-refused true false false d h = absurd (false≢true h)
none-refused true false true false h = absurd (false≢true h)
none-refused true false true true h = (refl, refl, refl)

pub opens-head : (kind : ℕ → ℕ) (on : Bool) (l d : Placed) → opens kind on l d ≡ true → Head kind on l.line d.line
opens-head kind on l d e =
    let u = d.line.body in
    let o = both_true _ _ e in
    let f = none-refused (permitted kind on l.line.body) _ (is_delimiter_row kind on u) (eqb (length (values kind u)) (head_cells kind l.line.body)) o.1 in
    let m = both_true (marked kind u) _ (both_true (permitted kind on u) _ f.1).1 in
    let v = both_true (ltb 0 (length (values kind u))) _ m.1 in
    record {
      filled = not-true _ o.0;
      ended = (either_false (eqb l.line.end 0) _ f.0).0;
      solid = (either_false (eqb l.line.end 0) _ f.0).1;
      marked = m.0;
      some = ltb-true 0 _ v.0;
      valid = v.1;
      count = eqb-true _ _ f.2;
    }

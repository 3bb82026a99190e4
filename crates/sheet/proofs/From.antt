-- The tables from a line on, one line at a time.
-- Assumes nothing.
use Prim.Native.Nat.{ℕ, ◌+◌, ◌≤◌, ◌<◌}
use mathlib.Core.Path.{◌≡◌, refl, ap, sym, ◌∙◌}
use mathlib.Core.Bool.{Bool, true, false, cond, ◌&&◌, ◌||◌, not, and-false, false≢true}
use mathlib.Core.List.{List, [], ◌∷◌}
use native.Mathlib.Omega.{arith}
use borrow.Author.Tests.{eq-eqb, ne_eqb, eqb-true, eqb-false, ltb-true}
use lib.Dec.{eqb, ltb}
use lib.ListN.{length, drop}
use Rattle.std.specs.Prelude.{Option, Some, None}
use Rattle.tokenizer.specs.declared.event.Point.{Point}
use Rattle.tokenizer.specs.declared.event.LineStart.{LineStart}
use Rattle.tokenizer.specs.Bytes.{Reads}
use Rattle.tokenizer.specs.Lines.{line_body, end_at, line_end}
use Rattle.tokenizer.specs.Points.{start_of}
use Rattle.tokenizer.specs.Places.{Placed, lines_from, lines_past, first_point}
use Rattle.tokenizer.specs.Moves.{rest_of, line_at, after, Inside}
use Rattle.tokenizer.proofs.Starts.{first-within}
use Rattle.tokenizer.proofs.Places.{lines-from}
use Rattle.tokenizer.proofs.Ends.{end_read, none_read, end-past, body-inside, after-inside}
use Rattle.gfm_table.specs.Rows.{row_pieces}
use Rattle.gfm_table.specs.Heads.{solid, permitted, lone_divider, marked, values, all_values, is_delimiter_row, head_cells}
use Rattle.gfm_table.specs.Delimiters.{value_count, positive}
use Rattle.gfm_table.specs.Places.{point_in}
use Rattle.gfm_table.proofs.ValuePlaces.{row-counted}
use Rattle.sheet.specs.Walk.{closes, opens, found, heads, rows}
use Rattle.sheet.specs.From.{AtLine, columns_of, Opens, here}

-- a sheet starts with a line
pub start-line : (s : List ℕ) → length s ≤ 65536 → AtLine s (first_point s)
start-line s h = record { inside = record { short = h; within = (first-within s).0; narrow = omega arith; lined = omega arith; flat = refl }; first = refl }

-- ## A line that ends a table is no head

heads-closed : (kind : ℕ → ℕ) (on : Bool) (l : Placed) (ls : List Placed) → closes kind l.line.body ≡ true → heads kind on (l ∷ ls) ≡ heads kind on ls
unfolding heads
heads-closed kind on l [] e = refl
heads-closed kind on l (d ∷ ls) e = rw e

-- ## The next line

module _ (s : List ℕ) (p : Point) where
  pub past-last : (line_at s p).end ≡ 0 → lines_past s p ≡ []
  past-last e = rw (eq-eqb (line_at s p).end 0 e)

  pub past_more : ((line_at s p).end ≡ 0 → ⊥) → lines_past s p ≡ lines_from s (after s p)
  past_more z = rw (ne_eqb (line_at s p).end 0 z)

  pub after_line : ((line_at s p).end ≡ 0 → ⊥) → Inside s p → AtLine s (after s p)
  after_line z h = record { inside = after-inside s p z h; first = refl }

-- the line of p has an end, and the next one starts at q
pub record Read (s : List ℕ) (p q : Point) : Type 0 where
  pub ended : (line_at s p).end ≡ 0 → ⊥
  pub next : q ≡ after s p
  pub at : AtLine s q

-- ## A line that is read: e is where its bytes end, n how long its line end is

module _ (s : List ℕ) (l i e n : ℕ) (f : e ≡ i + length (line_body (drop i s))) (g : n ≡ end_at (drop e s)) where
  abbrev from : Point
  from = point_in l i 1

  -- the line end is the line's
  pub read-end : n ≡ (line_at s from).end
  read-end = g ∙ ap (λ (j : ℕ). end_at (drop j s)) f ∙ end-past s from

  -- the next line starts behind it
  read_next : point_in (l + 1) (e + n) 1 ≡ after s from
  read_next = rw (read-end, f)

  module _ (h : AtLine s from) where
    -- both are in the sheet
    pub read-stop : e ≤ length s
    read-stop = rw f (body-inside s from h.inside).within

    -- it has an end, behind which the next line starts
    pub read : (n ≡ 0 → ⊥) → Read s from (point_in (l + 1) (e + n) 1)
    read z = let e = λ (w : (line_at s from).end ≡ 0). z (read-end ∙ w) in record { ended = e; next = read_next; at = rw read_next (after_line s from e h.inside) }

-- the same where the line end is told as an option
module _ (s : List ℕ) (l i e : ℕ) (o : Option ℕ) (f : e ≡ i + length (line_body (drop i s))) (g : o ≡ line_end (drop e s)) where
  pub read_none : o ≡ None → (line_at s (point_in l i 1)).end ≡ 0
  read_none h = sym (read-end s l i e 0 f (sym (none_read (drop e s) o g h)))

  pub read_some : (n : ℕ) → AtLine s (point_in l i 1) → o ≡ Some n → Read s (point_in l i 1) (point_in (l + 1) (e + n) 1)
  read_some n h k = let d = end_read (drop e s) o n g k in read s l i e n f d.0 h d.1

-- ## Heads

module _ (kind : ℕ → ℕ) (s : List ℕ) (p : Point) (on : Bool) where
  pub heads-last : (line_at s p).end ≡ 0 → heads kind on (lines_from s p) ≡ []
  unfolding heads
  heads-last e = rw (lines-from s p, past-last s p e)

  pub heads_at_closing : closes kind (rest_of s p) ≡ true → heads kind on (lines_from s p) ≡ heads kind on (lines_past s p)
  heads_at_closing e = rw (lines-from s p) (heads-closed kind on (here s p) (lines_past s p) e)

  module _ (z : (line_at s p).end ≡ 0 → ⊥) where
    pub heads-prose : opens kind on (here s p) (here s (after s p)) ≡ false → heads kind on (lines_from s p) ≡ heads kind on (lines_from s (after s p))
    unfolding heads
    heads-prose e = rw (lines-from s p, past_more s p z, lines-from s (after s p), e)

    heads_open : opens kind on (here s p) (here s (after s p)) ≡ true
        → heads kind on (lines_from s p) ≡ found kind on (here s p) (here s (after s p)) (lines_past s (after s p)) ∷ rows kind on (lines_past s (after s p))
    unfolding heads
    heads_open e = rw (lines-from s p, past_more s p z, lines-from s (after s p), e)

-- ## A line is tried as a head

-- by the answers: the head line's indent is permitted, it has no line end, it is a lone divider, it ends a table, the next line is a delimiter row, its values are as many as the cells
no-columns : (a e b c r : Bool) (n : ℕ) (t : Bool) → (r ≡ true → 0 < n) → cond (r && (a && not c)) (cond (not b && t) n 0) 0 ≡ 0
    → not c && eqb (cond (not a) 3 (cond (e || b) 4 (cond false 5 (cond (not r) 6 (cond (not t) 7 0))))) 0 ≡ false
no-columns a e b true r n t f g = refl
no-columns false e b false r n t f g = refl
no-columns true true b false r n t f g = refl
no-columns true false true false r n t f g = refl
no-columns true false false false false n t f g = refl
no-columns true false false false true n false f g = refl
no-columns true false false false true n true f g = absurd (omega (arith, f refl, g))

-- the same answers, with a line end
some-columns : (a b c r : Bool) (n : ℕ) (t : Bool) → (cond (r && (a && not c)) (cond (not b && t) n 0) 0 ≡ 0 → ⊥)
    → (not c && eqb (cond (not a) 3 (cond (false || b) 4 (cond false 5 (cond (not r) 6 (cond (not t) 7 0))))) 0 ≡ true) × (cond (r && (a && not c)) (cond (not b && t) n 0) 0 ≡ n)
some-columns true false false true n true f = (refl, refl)
some-columns a b c false n t f = absurd (f refl)
some-columns false b c true n t f = absurd (f refl)
some-columns true b true true n t f = absurd (f refl)
some-columns true true false true n t f = absurd (f refl)
some-columns true false false true n false f = absurd (f refl)

-- a delimiter row has values
row-some : (a b : Bool) (n : ℕ) (c : Bool) → a && (b && (ltb 0 n && c)) ≡ true → 0 < n
row-some true true n c h = go (ltb 0 n) refl h
  where
    go : (t : Bool) → ltb 0 n ≡ t → t && c ≡ true → 0 < n
    go true e k = ltb-true 0 n e
    go false e k = absurd (false≢true k)
row-some true false n c h = absurd (false≢true h)
row-some false b n c h = absurd (false≢true h)

module _ (kind : ℕ → ℕ) (s : List ℕ) (on : Bool) (p : Point) where
  abbrev head : List ℕ
  head = rest_of s p

  abbrev row : List ℕ
  row = rest_of s (after s p)

  -- no columns, no head
  pub columns-none : (columns_of kind) s on p.index (after s p).index ≡ 0 → opens kind on (here s p) (here s (after s p)) ≡ false
  columns-none =
      no-columns (permitted kind on head) (eqb (line_at s p).end 0) (lone_divider (solid (row_pieces kind false head))) (closes kind head) (is_delimiter_row kind on row) (length (values kind row))
      (eqb (length (values kind row)) (head_cells kind head)) (row-some (permitted kind on row) (marked kind row) (length (values kind row)) (all_values kind (values kind row)))

  -- some columns, a head with as many values
  columns-some : ((line_at s p).end ≡ 0 → ⊥) → (columns_of kind s on p.index (after s p).index ≡ 0 → ⊥)
      → (opens kind on (here s p) (here s (after s p)) ≡ true) × (columns_of kind s on p.index (after s p).index ≡ length (values kind row))
  columns-some z h =
      let y = some-columns (permitted kind on head) (lone_divider (solid (row_pieces kind false head))) (closes kind head) (is_delimiter_row kind on row) (length (values kind row)) (eqb (length (values kind row)) (head_cells kind head)) h in
      (rw (ne_eqb (line_at s p).end 0 z) y.0, y.1)

-- ## Its columns, counted

module _ {kind : ℕ → ℕ} (ok : Reads kind) (s : List ℕ) (on : Bool) (i d : ℕ) where
  abbrev counted : List ℕ
  counted = line_body (drop d s)

  -- the next line has no values
  pub columns_zero : 0 ≡ value_count kind counted → 0 ≡ columns_of kind s on i d
  columns_zero h = rw (row-counted ok counted on, ← h, and-false (permitted kind on counted))

  -- the head line's indent is not permitted
  pub columns-head : permitted kind on (line_body (drop i s)) ≡ false → 0 ≡ columns_of kind s on i d
  columns-head h = rw (h, and-false (is_delimiter_row kind on counted))

  -- the head line is blank or a remark
  pub columns-closed : closes kind (line_body (drop i s)) ≡ true → 0 ≡ columns_of kind s on i d
  columns-closed h = rw (h, and-false (permitted kind on (line_body (drop i s))), and-false (is_delimiter_row kind on counted))

-- no number is given for 0 alone
pub not_given : (n : ℕ) → None ≡ positive n → n ≡ 0
not_given n e = go (eqb n 0) refl e
  where
    go : (t : Bool) → eqb n 0 ≡ t → None ≡ cond t None (Some n) → n ≡ 0
    go true h k = eqb-true n 0 h
    go false h k = cc

-- the number that is given is the number itself
given : (n c : ℕ) → Some c ≡ positive n → (c ≡ n) × (n ≡ 0 → ⊥)
given n c e = go (eqb n 0) refl e
  where
    go : (t : Bool) → eqb n 0 ≡ t → Some c ≡ cond t None (Some n) → (c ≡ n) × (n ≡ 0 → ⊥)
    go true h k = cc
    go false h k = (cc, eqb-false n 0 h)

module _ (kind : ℕ → ℕ) where
  -- a head that is found at a line from which the same tables come
  pub opened-here : (s : List ℕ) (on : Bool) (p : Point) (w : LineStart) (d c : ℕ) → AtLine s (start_of w) → ((line_at s (start_of w)).end ≡ 0 → ⊥) → heads kind on (lines_from s (start_of w)) ≡ heads kind on (lines_from s p)
      → d ≡ (after s (start_of w)).index → Some c ≡ positive (columns_of kind s on w.at d) → Opens kind s on p (record { head = w; delimiter = d; columns = c })
  opened-here s on p w d c h z e f g =
      let q = start_of w in
      let n = given (columns_of kind s on w.at d) c g in
      let x : c ≡ columns_of kind s on w.at (after s q).index = n.0 ∙ ap (columns_of kind s on w.at) f in
      let y = columns-some kind s on q z (λ v. n.1 (ap (columns_of kind s on w.at) f ∙ v)) in
      record {
        at = h;
        ended = z;
        delimiter = f;
        columns = x ∙ y.1 ∙ ap (λ (j : ℕ). length (values kind (line_body (drop j s)))) (sym f);
        tables = sym e ∙ heads_open kind s q on z y.0;
      }

-- Beyond a blank line the reading is the same whatever lines come before it.
-- Assumes nothing.
use Prim.Native.Nat.{ℕ, ◌≤◌, ◌<◌}
use mathlib.Core.Path.{◌≡◌, refl, ap, ap₂, sym, ◌∙◌}
use mathlib.Core.List.{List, [], ◌∷◌, ◌++◌, head-eq_of_cons-eq, tail-eq_of_cons-eq}
use mathlib.Core.Bool.{Bool, true, false, false≢true}
use native.Mathlib.Omega.{arith}
use lib.Dec.{eqb}
use lib.ListN.{length, drop}
use lib.Seq.{drop_at, drop-drop}
use borrow.Author.Tests.{eqb-true, le-leb, lt-leb}
use Rattle.tokenizer.specs.declared.event.Point.{Point}
use Rattle.tokenizer.specs.Points.{start, column_past}
use Rattle.tokenizer.specs.Lines.{Line, lines, first_start, line_number, blank, is_empty, unindented}
use Rattle.tokenizer.specs.Places.{Placed, placed, placed_lines, first_point}
use Rattle.gfm_table.specs.Heads.{marked}
use Rattle.gfm_table.specs.Places.{point_in}
use Rattle.sheet.specs.Walk.{closes, opens, heads, rows, tables}
use Rattle.sheet.specs.Demands.{Each, LineFrom, blank_last, Fresh, tables_from, SameTable, Shifted, Beyond, BomPassed}
use Rattle.sheet.proofs.Lists.{each_weaken}
use Rattle.sheet.proofs.Alike.{raw_table_alike, resolved_table_alike}
use Rattle.sheet.proofs.Tests.{by_cases}
use Rattle.sheet.proofs.Closing.{blank-closes, closes_not, solid-length}
use Rattle.sheet.proofs.Walks.{starting, onward, Kept, heads_alike, opens-head}
use Rattle.sheet.proofs.Split.{after, Around, around, nil_ne_append}

-- ## The lines of a sheet that is cut at a placed line

record PlacedAt (p : Point) (all : List Line) (up : List Placed) (l : Placed) : Type 0 where
  ls : List Line
  ms : List Line
  split : all ≡ ls ++ l.line ∷ ms
  above : up ≡ placed p ls
  here : l.at ≡ after p ls

placed_at : (p : Point) (all : List Line) (up : List Placed) (l : Placed) (below : List Placed) → placed p all ≡ up ++ l ∷ below → PlacedAt p all up l
unfolding placed after
placed_at p [] up l below e = absurd (nil_ne_append up l below e)
placed_at p (m ∷ all) [] l below e =
    let h = head-eq_of_cons-eq e in
    record { ls = []; ms = all; split = ap (λ (z : Placed). z.line ∷ all) h; above = refl; here = sym (ap (λ (z : Placed). z.at) h) }
placed_at p (m ∷ all) (k ∷ up) l below e =
    let r = placed_at (onward p m) all up l below (tail-eq_of_cons-eq e) in
    record { ls = m ∷ r.ls; ms = r.ms; split = ap (λ (z : List Line). m ∷ z) r.split; above = ap₂ ◌∷◌ (sym (head-eq_of_cons-eq e)) r.above; here = r.here }

-- ## The walk beyond a blank line

-- a delimiter row is no blank line
pub marked-blank : (kind : ℕ → ℕ) (s : List ℕ) → marked kind s ≡ true → blank kind s ≡ false
unfolding marked unindented
marked-blank kind [] h = absurd (false≢true h)
marked-blank kind (b ∷ s) h =
    by_cases (λ z. is_empty z ≡ false) (eqb (kind b) 1) (λ e. marked-blank kind s (rw (eqb-true (kind b) 1 e) at h)) (λ e. refl)

pub after-le : (ls : List Line) (p : Point) → p.index ≤ (after p ls).index
unfolding after
after-le [] p = omega arith
after-le (l ∷ ls) p = omega (arith, after-le ls (onward p l))

module _ (kind : ℕ → ℕ) where
  pub blank_last-tail : (l : Placed) (ls : List Placed) → blank_last kind (l ∷ ls) ≡ true → blank_last kind ls ≡ true
  unfolding blank_last
  blank_last-tail l [] h = refl
  blank_last-tail l (m ∷ ls) h = h

  pub goes_on_lem : (p : Point) (l : Line) (ls : List Line) → blank_last kind (placed p (l ∷ ls)) ≡ true → blank kind l.body ≡ false → 0 < length ls
  unfolding blank_last placed
  goes_on_lem p l [] h e = absurd (false≢true (sym e ∙ h))
  goes_on_lem p l (m ∷ ls) h e = omega arith

module _ (kind : ℕ → ℕ) (on : Bool) where
  -- the walk begins no table before the point where it stands
  mutual
    unfolding heads placed tables_from

    from_heads : (a : ℕ) (p : Point) (ls : List Line) → a ≤ p.index → tables_from a (heads kind on (placed p ls)) ≡ heads kind on (placed p ls)
    from_heads a p [] h = refl
    from_heads a p (l ∷ []) h = refl
    from_heads a p (l ∷ d ∷ ls) h =
        by_cases (λ z. tables_from a z ≡ z) (opens kind on (starting p l) (starting (onward p l) d))
        (λ e. rw (le-leb a p.index h, from-rows a (onward (onward p l) d) ls (omega arith)))
        (λ e. from_heads a (onward p l) (d ∷ ls) (omega arith))

    from-rows : (a : ℕ) (p : Point) (ls : List Line) → a ≤ p.index → tables_from a (rows kind on (placed p ls)) ≡ rows kind on (placed p ls)
    from-rows a p [] h = refl
    from-rows a p (l ∷ ls) h =
        by_cases (λ z. tables_from a z ≡ z) (closes kind l.body) (λ e. from_heads a (onward p l) ls (omega arith)) (λ e. from-rows a (onward p l) ls (omega arith))

  -- lines that end in a blank one leave the walk looking for a head, and their tables begin before the point after them
  mutual
    unfolding heads placed tables_from after blank_last

    past-heads : (p : Point) (ls k : List Line) → blank_last kind (placed p ls) ≡ true
        → tables_from (after p ls).index (heads kind on (placed p (ls ++ k))) ≡ heads kind on (placed (after p ls) k)
    past-heads p [] k h = from_heads p.index p k (omega arith)
    past-heads p (l ∷ []) [] h = refl
    past-heads p (l ∷ []) (d ∷ k) h = rw (blank-closes kind l.body h) (from_heads _ (onward p l) (d ∷ k) (omega arith))
    past-heads p (l ∷ d ∷ ls) k h =
        by_cases (λ z. tables_from (after p (l ∷ d ∷ ls)).index z ≡ heads kind on (placed (after p (l ∷ d ∷ ls)) k)) (opens kind on (starting p l) (starting (onward p l) d))
        (λ e.
        let o = opens-head kind on (starting p l) (starting (onward p l) d) e in
        let q = onward (onward p l) d in
        let early : p.index < (after q ls).index = omega (arith, after-le ls q, solid-length kind l.body o.filled) in
        rw (lt-leb (after q ls).index p.index early)
        (past-rows q ls k (blank_last-tail kind (starting (onward p l) d) (placed q ls) h) (goes_on_lem kind (onward p l) d ls h (marked-blank kind d.body o.marked))))
        (λ e. past-heads (onward p l) (d ∷ ls) k h)

    past-rows : (p : Point) (ls k : List Line) → blank_last kind (placed p ls) ≡ true → 0 < length ls
        → tables_from (after p ls).index (rows kind on (placed p (ls ++ k))) ≡ heads kind on (placed (after p ls) k)
    past-rows p [] k h n = absurd (omega arith)
    past-rows p (l ∷ ls) k h n =
        let g = blank_last-tail kind (starting p l) (placed (onward p l) ls) h in
        by_cases (λ z. tables_from (after p (l ∷ ls)).index z ≡ heads kind on (placed (after p (l ∷ ls)) k)) (closes kind l.body)
        (λ e. past-heads (onward p l) ls k g)
        (λ e. past-rows (onward p l) ls k g (goes_on_lem kind p l ls h (closes_not kind l.body e).0))

  -- what is read from a line with a blank line or none before it is read of the bytes from there on
  reading : (s : List ℕ) (up : List Placed) (l : Placed) (below : List Placed) → placed_lines s ≡ up ++ l ∷ below → blank_last kind up ≡ true
      → tables_from l.at.index (tables kind on s) ≡ heads kind on (placed l.at (lines (drop l.at.index s)))
  reading s up l below split gap = go (placed_at (first_point s) (lines (drop (first_start s) s)) up l below split)
    where
      cut : (c : PlacedAt (first_point s) (lines (drop (first_start s) s)) up l) → Around (drop (first_start s) s) c.ls l.line c.ms → lines (drop l.at.index s) ≡ l.line ∷ c.ms
      cut c d =
          ap (λ (i : ℕ). lines (drop i s)) (ap (λ (z : Point). z.index) c.here ∙ d.size (first_point s))
          ∙ ap lines (sym (drop-drop (length d.x) (first_start s) s))
          ∙ ap (λ (z : List ℕ). lines (drop (length d.x) z)) d.whole
          ∙ ap lines (drop_at d.x (l.line.body ++ d.y) (length d.x) refl)
          ∙ d.here

      go : PlacedAt (first_point s) (lines (drop (first_start s) s)) up l → tables_from l.at.index (tables kind on s) ≡ heads kind on (placed l.at (lines (drop l.at.index s)))
      go c =
          rw (cut c (around c.ls (drop (first_start s) s) l.line c.ms c.split), c.split, c.here)
          (past-heads (first_point s) c.ls (l.line ∷ c.ms) (rw c.above at gap))

  reading-from : (s : List ℕ) (a : ℕ) (u : Fresh kind s a) → tables_from a (tables kind on s) ≡ heads kind on (placed u.from.line.at (lines (drop a s)))
  reading-from s a u = let f = u.from in rw (sym f.from) (reading s f.above f.line f.below f.split u.gap)

pub shifted_kept : (m n a b : ℕ) → Kept (Shifted m n a b)
shifted_kept m n a b =
    record {
      along = λ u v s h. record { line = h.line; column = ap (λ c. column_past c s) h.column; index = omega arith; vs = refl };
      next = λ u v k h. record { line = omega arith; column = refl; index = omega arith; vs = refl };
    }

-- a line starts in column 1
pub after-column : (p : Point) (ls : List Line) → p.column ≡ 1 → p.vs ≡ 0 → ((after p ls).column ≡ 1) × ((after p ls).vs ≡ 0)
unfolding after
after-column p [] h k = (h, k)
after-column p (l ∷ ls) h k = after-column (onward p l) ls refl refl

from-column : (s : List ℕ) (a : ℕ) (u : LineFrom s a) → (u.line.at.column ≡ 1) × (u.line.at.vs ≡ 0)
from-column s a u =
    let p = first_point s in
    let c = placed_at p (lines (drop (first_start s) s)) u.above u.line u.below u.split in
    rw c.here (after-column p c.ls refl refl)

-- the same lines from two points on have the same tables, moved as the points are
same_tables : (kind : ℕ → ℕ) (on : Bool) {m n a b : ℕ} {p q : Point} → Shifted m n a b p q → (ls : List Line) → Each (SameTable (Shifted m n a b)) (heads kind on (placed p ls)) (heads kind on (placed q ls))
same_tables kind on {m} {n} {a} {b} h ls =
    each_weaken (λ f g k. record { raw = raw_table_alike _ k.table; resolved = resolved_table_alike _ k.table; aligned = k.aligned })
    (heads_alike kind _ (shifted_kept m n a b) on h ls)

pub beyond : (kind : ℕ → ℕ) → Beyond kind
beyond kind on s t a b u v e =
    let c = from-column s a u.from in
    let d = from-column t b v.from in
    let here : Shifted (line_number s a) (line_number t b) a b u.from.line.at v.from.line.at
    = record {
      line = omega (arith, u.from.number, v.from.number);
      column = c.0 ∙ sym d.0;
      index = omega (arith, u.from.from, v.from.from);
      vs = c.1 ∙ sym d.1;
    } in
    rw (reading-from kind on s a u, reading-from kind on t b v, e) (same_tables kind on here (lines (drop b t)))

pub bom-passed : (kind : ℕ → ℕ) → BomPassed kind
bom-passed kind on s h =
    let plain : tables kind on s ≡ heads kind on (placed start (lines s)) = ap (λ (i : ℕ). heads kind on (placed (point_in 1 i 1) (lines (drop i s)))) h in
    rw plain (same_tables kind on {m = 1} {n = 1} {a = 3} {b = 0} {p = point_in 1 3 1} (record { line = refl; column = refl; index = refl; vs = refl }) (lines s))

-- Lines that end a table: what the test of one tells.
-- Assumes nothing.
use Prim.Native.Nat.{ℕ, ◌+◌, ◌-◌, ◌≤◌, ◌<◌}
use mathlib.Core.Path.{◌≡◌, refl, ap, sym, ◌∙◌}
use mathlib.Core.Logic.{◌⊎◌, ⊎_elim}
use mathlib.Core.Bool.{Bool, true, false, not, and-false, true≢false, false≢true}
use mathlib.Core.List.{List, [], ◌∷◌}
use native.Mathlib.Omega.{arith}
use borrow.Author.Tests.{eq-eqb, ne_eqb, eqb-true, eqb-false, le-leb, lt-leb}
use lib.Dec.{eqb, leb}
use lib.ListN.{length, take, drop, get_or, length-drop}
use denote.Ref.{Bor}
use Rattle.std.specs.Prelude.{Option, Some, None, MatchOption, slice_range}
use Rattle.std.specs.List.{list_any}
use Rattle.tokenizer.specs.Bytes.{kind_of, is_end, Reads}
use Rattle.tokenizer.specs.Points.{column_after, column_past}
use Rattle.tokenizer.specs.Lines.{line_body, indent, unindented, blank}
use Rattle.tokenizer.proofs.Runs.{space_split}
use Rattle.tokenizer.proofs.Widths.{bytes-wide, same-indent}
use Rattle.tokenizer.proofs.Ahead.{Front, rest_end}
use Rattle.gfm_table.specs.Heads.{shallow}
use Rattle.gfm_table.specs.Places.{point_in}
use Rattle.gfm_table.proofs.Passing.{line_from}
use Rattle.edit_order.proofs.Bools.{and_true, or_true}
use Rattle.sheet.specs.Walk.{remark, closes}
use Rattle.sheet.proofs.Tests.{test, either_false}

module _ (kind : ℕ → ℕ) (u : List ℕ) where
  pub blank-closes : blank kind u ≡ true → closes kind u ≡ true
  unfolding closes
  blank-closes h = rw h

  pub remark-closes : remark kind u ≡ true → closes kind u ≡ true
  unfolding closes
  remark-closes h = rw h (or_true (blank kind u))

  -- a line that ends a table and is not blank is a remark
  pub closes-remark : closes kind u ≡ true → blank kind u ≡ false → remark kind u ≡ true
  unfolding closes
  closes-remark h e = rw e at h

  -- a line that is neither ends no table
  pub neither_closes : blank kind u ≡ false → remark kind u ≡ false → closes kind u ≡ false
  unfolding closes
  neither_closes h k = rw h k

  -- a line that ends no table is neither
  pub closes_not : closes kind u ≡ false → (blank kind u ≡ false) × (remark kind u ≡ false)
  unfolding closes
  closes_not h = either_false (blank kind u) (remark kind u) h

-- what stands behind the indent tells it
module _ (kind : ℕ → ℕ) (u : List ℕ) (b : ℕ) (v : List ℕ) (e : unindented kind u ≡ b ∷ v) where
  pub closes-quote : b ≡ 62 → closes kind u ≡ shallow kind u
  unfolding closes
  closes-quote h = rw (e, eq-eqb b 62 h) (and_true (shallow kind u))

  pub closes_other : (b ≡ 62 → ⊥) → closes kind u ≡ false
  unfolding closes
  closes_other h = rw (e, ne_eqb b 62 h) (and-false (shallow kind u))

-- ## How wide an indent is

-- 4 bytes are too wide for a remark
pub deep : (kind : ℕ → ℕ) (u : List ℕ) → (length (indent kind u) < 4 → ⊥) → shallow kind u ≡ false
deep kind u h = lt-leb (column_past 1 (indent kind u)) 4 (omega (arith, bytes-wide 1 (indent kind u)))

-- how wide it is does not depend on the kinds, if they can be read by
pub same-shallow : {kind : ℕ → ℕ} → Reads kind → (u : List ℕ) → shallow kind_of u ≡ shallow kind u
same-shallow ok u = ap (λ (w : List ℕ). leb (column_past 1 w) 4) (same-indent ok u)

-- a tab leads past column 4
tab_far : (c : ℕ) → 0 < c → 4 < column_after c 9
unfolding column_after
tab_far c h = omega arith

-- any other byte to the next column
byte-after : (c b : ℕ) → (b ≡ 9 → ⊥) → column_after c b ≡ c + 1
unfolding column_after
byte-after c b h = rw (ne_eqb b 9 h)

-- and no byte nowhere
none-past : (c : ℕ) (u : List ℕ) → length u ≡ 0 → column_past c u ≡ c
unfolding column_past
none-past c [] h = refl
none-past c (b ∷ u) h = absurd (omega arith)

-- whether a tab is among some bytes
abbrev tabbed : List ℕ → Bool
tabbed u = list_any (λ b. eqb b 9) u

-- one leads past column 4, and without one each byte is a column
far_past : (c : ℕ) (u : List ℕ) → 0 < c → tabbed u ≡ true → 4 < column_past c u
unfolding column_past
far_past c [] h e = absurd (false≢true e)
far_past c (b ∷ u) h e =
    test (eqb b 9)
    (λ f. let d = ap (λ (x : ℕ). column_after c x) (eqb-true b 9 f) in omega (arith, d, tab_far c h, bytes-wide (column_after c b) u))
    (λ f. let d = byte-after c b (eqb-false b 9 f) in far_past (column_after c b) u (omega (arith, d)) (rw f at e))

near_past : (c : ℕ) (u : List ℕ) → tabbed u ≡ false → column_past c u ≡ c + length u
unfolding column_past
near_past c [] e = omega arith
near_past c (b ∷ u) e =
    test (eqb b 9)
    (λ f. absurd (true≢false (rw f at e)))
    (λ f. let d = byte-after c b (eqb-false b 9 f) in omega (arith, d, near_past (column_after c b) u (rw f at e)))

-- so at most 3 bytes are at most 3 units wide where no tab is among them
narrow : (u : List ℕ) → length u < 4 → not (tabbed u) ≡ leb (column_past 1 u) 4
narrow u h =
    test (tabbed u)
    (λ e. rw e (sym (lt-leb (column_past 1 u) 4 (far_past 1 u (omega arith) e))))
    (λ e. rw e (sym (le-leb (column_past 1 u) 4 (omega (arith, near_past 1 u e, h)))))

module _ (kind : ℕ → ℕ) where
  -- the bytes of an indent
  indent_taken : (v : List ℕ) → take (length (indent kind (line_body v))) v ≡ indent kind (line_body v)
  unfolding indent line_body
  indent_taken [] = refl
  indent_taken (b ∷ v) =
      test (is_end b) (λ e. rw e)
      (λ e. test (eqb (kind b) 1) (λ f. rw (e, f) (ap (λ (l : List ℕ). b ∷ l) (indent_taken v))) (λ f. rw (e, f)))

  indent_within : (v : List ℕ) → length (indent kind (line_body v)) ≤ length v
  unfolding indent line_body
  indent_within [] = omega arith
  indent_within (b ∷ v) =
      test (is_end b) (λ e. rw e (omega arith))
      (λ e. test (eqb (kind b) 1) (λ f. rw (e, f) (omega (arith, indent_within v))) (λ f. rw (e, f) (omega arith)))

-- the bytes between two places, if they are in bounds, tell whether an indent is shallow
pub shallow_by : (s : List ℕ) (at e : ℕ) → (e ≡ at + length (indent kind_of (line_from s at))) × (e < at + 4) → (o : Option (Bor (List ℕ)))
    → MatchOption o ((e < at) ⊎ (length s < e)) (λ x. (at ≤ e) × (e ≤ length s) × (x.now ≡ slice_range s at e) × (length x.now + at ≡ e))
    → (r : Bool) → MatchOption o (r ≡ false) (λ x. r ≡ tabbed x.now) → not r ≡ shallow kind_of (line_from s at)
shallow_by s at e h (Some x) l r t =
    let u = indent kind_of (line_from s at) in
    let n : e - at ≡ length u = omega (arith, h.0) in
    ap not (t ∙ ap tabbed (l.2 ∙ ap (λ (k : ℕ). take k (drop at s)) n ∙ indent_taken kind_of (drop at s))) ∙ narrow u (omega (arith, h.0, h.1))
shallow_by s at e h None l r t =
    let u = indent kind_of (line_from s at) in
    let w = indent_within kind_of (drop at s) in
    let d = length-drop at s in
    let z : length u ≡ 0 = ⊎_elim (λ k. omega (arith, h.0, k)) (λ k. omega (arith, h.0, k, w, d)) l in
    ap not t ∙ sym (le-leb (column_past 1 u) 4 (let k = none-past 1 u z in omega (arith, k)))

-- ## The indent of the line at a place

module _ (kind : ℕ → ℕ) where
  -- behind it stands what is left of the line where its whitespace ends
  pub unindented-at : (s : List ℕ) (i e k : ℕ) → e ≡ i + length (indent kind (line_from s i)) → Front kind s e k → unindented kind (line_from s i) ≡ get_or s e 0 ∷ line_from s (e + 1)
  unindented-at s i e k h f =
      sym (rest_end (indent kind) (unindented kind) (space_split kind) s (point_in 0 i 1)) ∙ ap (line_from s) (sym h) ∙ f.line

-- a line that ends no table is not empty
pub solid-length : (kind : ℕ → ℕ) (u : List ℕ) → closes kind u ≡ false → 0 < length u
unfolding closes unindented
solid-length kind [] h = absurd (true≢false h)
solid-length kind (b ∷ u) h = omega arith

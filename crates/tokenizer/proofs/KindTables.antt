-- Tables of kinds: what their test goes by, and what a table that passes is.
-- Assumes nothing.
use Prim.Native.Nat.{ℕ, zero, suc, ◌+◌, ◌≤◌, ◌<◌}
use mathlib.Core.Path.{◌≡◌, refl, ap, sym, ◌∙◌}
use mathlib.Core.Bool.{Bool, true, false, cond, ◌&&◌, ◌||◌, not, true≢false, and-true, and_assoc}
use mathlib.Core.List.{List, [], ◌∷◌}
use native.Mathlib.Nat.{add-zero, zero-add, add-suc, suc-add, add_assoc, le_of_suc-le-suc}
use native.Mathlib.Numerals.{add-one}
use native.Mathlib.Omega.{arith}
use borrow.Author.Tests.{eq-eqb, ne_eqb, eqb-true, leb-true, le-leb, ltb-true, ltb-false}
use lib.Dec.{eqb, ltb}
use lib.ListN.{length, drop, get_or, drop_of_length-le, get_or-eq_default}
use lib.Seq.{drop-cons}
use Rattle.tokenizer.specs.declared.kinds.Tally.{Tally}
use Rattle.tokenizer.specs.Tallies.{one_if, no_tally, tally_step, tallied, Few, refusal_by}
use Rattle.tokenizer.specs.Bytes.{kind_of, is_end, tabulated, built_in, kind_in, each, known, exact, count, single, kinds_refusal, Passes}
use Rattle.tokenizer.proofs.Table.{lookup}

-- ## One pass

-- nothing is left
pub tally_done : (p : Tally) (b : ℕ) (t : List ℕ) → length t ≤ b → tallied p b (drop b t) ≡ p
unfolding each count
tally_done p b t l = rw (drop_of_length-le t l, and-true, and-true, add-zero, add-zero, add-zero, add-zero)

-- an entry and those behind it
pub tally-more : (p : Tally) (b : ℕ) (t : List ℕ) → b < length t → tallied (tally_step p b (get_or t b 0)) (b + 1) (drop (b + 1) t) ≡ tallied p b (drop b t)
unfolding each count
tally-more p b t l =
    rw (drop-cons t b 0 l, add-one, and_assoc, and_assoc, add_assoc, add_assoc, add_assoc, add_assoc)

-- a count grows by one at most
one-few : (n b j k : ℕ) → n ≤ b → n + one_if j k ≤ b + 1
one-few n b j k l = go (eqb j k)
  where
    go : (z : Bool) → n + cond z 1 0 ≤ b + 1
    go true = omega (arith, l)
    go false = omega (arith, l)

pub few-more : (p : Tally) (b k : ℕ) → Few p b → Few (tally_step p b k) (b + 1)
few-more p b k f =
    record {
      pipes = one-few p.pipes b k 3 f.pipes;
      backslashes = one-few p.backslashes b k 4 f.backslashes;
      hyphens = one-few p.hyphens b k 5 f.hyphens;
      colons = one-few p.colons b k 6 f.colons;
    }

-- the questions by the tally
pub tally_refuses : (t : List ℕ) → length t ≡ 256 → kinds_refusal t ≡ refusal_by (tallied no_tally 0 t) (kind_in t 62)
unfolding kinds_refusal
tally_refuses t e = rw (eq-eqb _ 256 e, zero-add, zero-add, zero-add, zero-add)

-- ## A table that passes

both : (a b : Bool) → (a && b) ≡ true → (a ≡ true) × (b ≡ true)
both true b e = (refl, e)
both false b e = absurd (true≢false (sym e))

-- a test that holds of each entry holds of one
each_at : (test : ℕ → ℕ → Bool) (i b : ℕ) (t : List ℕ) → each test i t ≡ true → b < length t → test (i + b) (get_or t b 0) ≡ true
unfolding each
each_at test i b [] e l = absurd (omega arith)
each_at test i zero (k ∷ t) e l = ap (λ (j : ℕ). test j k) (add-zero i) ∙ (both (test i k) (each test (suc i) t) e).0
each_at test i (suc b) (k ∷ t) e l = ap (λ (j : ℕ). test j (get_or t b 0)) (add-suc i b ∙ sym (suc-add i b)) ∙ each_at test (suc i) b t (both (test i k) (each test (suc i) t) e).1 (le_of_suc-le-suc l)

-- and one that holds of every entry holds of each
each_of : (test : ℕ → ℕ → Bool) (i : ℕ) (t : List ℕ) → ((b : ℕ) → b < length t → test (i + b) (get_or t b 0) ≡ true) → each test i t ≡ true
unfolding each
each_of test i [] h = refl
each_of test i (k ∷ t) h =
    let f : test i k ≡ true = ap (λ (j : ℕ). test j k) (sym (add-zero i)) ∙ h 0 (omega arith) in
    rw f (each_of test (suc i) t (λ b l. ap (λ (j : ℕ). test j (get_or t b 0)) (suc-add i b ∙ sym (add-suc i b)) ∙ h (suc b) (omega (arith, l))))

-- the kind k of byte b is 1 or 2 exactly as asked
abbrev Told : ℕ → ℕ → Type 0
Told b k = (eqb k 1 ≡ (eqb b 9 || eqb b 32)) × (eqb k 2 ≡ is_end b)

told : (b k : ℕ) → exact b k ≡ true → Told b k
told b k e = go (eqb b 9) (eqb b 32) (eqb b 10) (eqb b 13) (eqb k 1) (eqb k 2) refl refl refl refl refl refl
  where
    go : (x y v w m n : Bool) → eqb b 9 ≡ x → eqb b 32 ≡ y → eqb b 10 ≡ v → eqb b 13 ≡ w → eqb k 1 ≡ m → eqb k 2 ≡ n → Told b k
    go true y v w m n p q r s f g = let i = eqb-true b 9 p in let j = eqb-true k 1 (rw i at e) in rw (i, j) (refl, refl)
    go false true v w m n p q r s f g = let i = eqb-true b 32 q in let j = eqb-true k 1 (rw i at e) in rw (i, j) (refl, refl)
    go false false true w m n p q r s f g = let i = eqb-true b 10 r in let j = eqb-true k 2 (rw i at e) in rw (i, j) (refl, refl)
    go false false false true m n p q r s f g = let i = eqb-true b 13 s in let j = eqb-true k 2 (rw i at e) in rw (i, j) (refl, refl)
    go false false false false true n p q r s f g = absurd (true≢false (sym e ∙ rw (p, q, r, s, f)))
    go false false false false false true p q r s f g = absurd (true≢false (sym e ∙ rw (p, q, r, s, f, g)))
    go false false false false false false p q r s f g = rw (p, q, r, s, f, g) (refl, refl)

exact-told : (b k : ℕ) → Told b k → exact b k ≡ true
exact-told b k e = go (eqb b 9 || eqb b 32) (is_end b) e.0 e.1
  where
    go : (x y : Bool) → eqb k 1 ≡ x → eqb k 2 ≡ y → cond x (eqb k 1) (cond y (eqb k 2) (not (eqb k 1 || eqb k 2))) ≡ true
    go true y f g = f
    go false true f g = g
    go false false f g = rw (f, g)

clear : (a b c : Bool) → ◌≡◌ {A = ℕ} (cond (not a) 20 (cond (not b) 21 (cond (not c) 22 0))) 0 → (a ≡ true) × (b ≡ true) × (c ≡ true)
clear true true true e = (refl, refl, refl)
clear true true false e = absurd (omega (arith, e))
clear true false c e = absurd (omega (arith, e))
clear false b c e = absurd (omega (arith, e))

-- beyond a table there is no kind
none-beyond : (t : List ℕ) (b : ℕ) → length t ≡ 256 → 256 ≤ b → kind_in t b ≡ 0
unfolding kind_in
none-beyond t b e l = let m : length t ≤ b = omega (arith, e, l) in get_or-eq_default t 0 {n = b} m

beyond-told : (b : ℕ) → 256 ≤ b → Told b 0
beyond-told b l = rw (ne_eqb b 9 (λ z. omega arith), ne_eqb b 32 (λ z. omega arith), ne_eqb b 10 (λ z. omega arith), ne_eqb b 13 (λ z. omega arith)) (refl, refl)

-- a kind from 3 to 6 is one of four
four : (P : ℕ → Type 0) → P 3 → P 4 → P 5 → P 6 → (k : ℕ) → 3 ≤ k → k ≤ 6 → P k
four P a b c d zero l h = absurd (omega arith)
four P a b c d (suc zero) l h = absurd (omega arith)
four P a b c d (suc (suc zero)) l h = absurd (omega arith)
four P a b c d (suc (suc (suc zero))) l h = a
four P a b c d (suc (suc (suc (suc zero)))) l h = b
four P a b c d (suc (suc (suc (suc (suc zero))))) l h = c
four P a b c d (suc (suc (suc (suc (suc (suc zero)))))) l h = d
four P a b c d (suc (suc (suc (suc (suc (suc (suc k))))))) l h = absurd (omega arith)

module _ (t : List ℕ) where
  -- what none of the questions refuses is a table that passes
  pub passes : kinds_refusal t ≡ 0 → Passes t
  unfolding kinds_refusal kind_in
  passes e =
      let q = clear (eqb (length t) 256 && each known 0 t) (each exact 0 t) (single t) e in
      let a = both (eqb (length t) 256) (each known 0 t) q.0 in
      let n = eqb-true (length t) 256 a.0 in
      let c3 = both (eqb (count 3 t) 1) _ q.2 in
      let c4 = both (eqb (count 4 t) 1) _ c3.1 in
      let c5 = both (eqb (count 5 t) 1) _ c4.1 in
      let c6 = both (eqb (count 6 t) 1) _ c5.1 in
      let f : (b : ℕ) → Told b (kind_in t b) = λ b. entry n q.1 b (ltb b 256) refl in
      record {
        whole = n;
        most = λ b. small n a.1 b (ltb b 256) refl;
        reads = record { spaces = λ b. (f b).0; ends = λ b. (f b).1; quote = eqb-true (kind_in t 62) 0 c6.1 };
        one = four (λ k. count k t ≡ 1) (eqb-true _ 1 c3.0) (eqb-true _ 1 c4.0) (eqb-true _ 1 c5.0) (eqb-true _ 1 c6.0);
      }
    where
      entry : length t ≡ 256 → each exact 0 t ≡ true → (b : ℕ) (z : Bool) → ltb b 256 ≡ z → Told b (kind_in t b)
      entry n x b true z = let l = ltb-true b 256 z in told b (get_or t b 0) (ap (λ (j : ℕ). exact j (get_or t b 0)) (sym (zero-add b)) ∙ each_at exact 0 b t x (omega (arith, n, l)))
      entry n x b false z = let l = ltb-false b 256 z in rw (none-beyond t b n l) (beyond-told b l)

      small : length t ≡ 256 → each known 0 t ≡ true → (b : ℕ) (z : Bool) → ltb b 256 ≡ z → kind_in t b ≤ 6
      small n x b true z = let l = ltb-true b 256 z in leb-true (get_or t b 0) 6 (each_at known 0 b t x (omega (arith, n, l)))
      small n x b false z = omega (arith, none-beyond t b n (ltb-false b 256 z))

  -- and no table that passes is refused
  pub passed : Passes t → kinds_refusal t ≡ 0
  unfolding kinds_refusal kind_in
  passed p =
      let k = each_of known 0 t (λ b l. le-leb (get_or t b 0) 6 (p.most b)) in
      let x = each_of exact 0 t (λ b l. ap (λ (j : ℕ). exact j (get_or t b 0)) (zero-add b) ∙ exact-told b (get_or t b 0) (p.reads.spaces b, p.reads.ends b)) in
      rw (eq-eqb _ 256 p.whole, k, x, p.one 3 (omega arith) (omega arith), p.one 4 (omega arith) (omega arith), p.one 5 (omega arith) (omega arith), p.one 6 (omega arith) (omega arith), eq-eqb _ 0 p.reads.quote)

-- ## The built-in table

pub built_long : length built_in ≡ 256
unfolding tabulated
built_long = refl

beyond : (b : ℕ) → 256 ≤ b → kind_in built_in b ≡ kind_of b
unfolding kind_of
beyond b l =
    rw (none-beyond built_in b built_long l, ne_eqb b 9 (λ z. omega arith), ne_eqb b 32 (λ z. omega arith), ne_eqb b 10 (λ z. omega arith), ne_eqb b 13 (λ z. omega arith), ne_eqb b 124 (λ z. omega arith), ne_eqb b 92 (λ z. omega arith), ne_eqb b 45 (λ z. omega arith), ne_eqb b 58 (λ z. omega arith))

-- the built-in table lists the built-in kinds
pub built_in_lem : (b : ℕ) → kind_in built_in b ≡ kind_of b
unfolding kind_in
built_in_lem b = go (ltb b 256) refl
  where
    go : (z : Bool) → ltb b 256 ≡ z → kind_in built_in b ≡ kind_of b
    go true z = lookup kind_of 256 b (ltb-true b 256 z)
    go false z = beyond b (ltb-false b 256 z)

-- as functions
pub built_is : kind_in built_in ≡ kind_of
built_is = λ i b. built_in_lem b i

built_refused : kinds_refusal built_in ≡ 0
unfolding kinds_refusal each count kind_in tabulated kind_of
built_refused = refl

pub built_passes : Passes built_in
built_passes = passes built_in built_refused

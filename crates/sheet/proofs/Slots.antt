-- Slots for alignments that are filled one after the other, or part by part.
-- Assumes nothing.
use Prim.Native.Nat.{ℕ, suc, ◌+◌, ◌-◌, ◌≤◌, ◌<◌}
use mathlib.Core.Path.{◌≡◌, refl, ap, sym, ◌∙◌}
use mathlib.Core.List.{List, [], ◌∷◌, ◌++◌, append_assoc, append-nil}
use native.Mathlib.Nat.{add-zero, add-suc, suc-add}
use native.Mathlib.Numerals.{add-one}
use native.Mathlib.Omega.{arith}
use borrow.Author.Tests.{le-leb, lt-leb, leb-true}
use lib.Dec.{leb}
use borrow.Rule.Slice.PartMut.{mid_of, put_mid}
use lib.ListN.{length, take, drop, set, take-append-drop, length-take, length-append, length-drop, drop_of_length-le}
use lib.Seq.{take-suc-set, append_snoc, drop-set-lt, drop-drop, take_at, drop_at, take_all}
use Rattle.sheet.specs.Walk.{Found, aligned_of}
use Rattle.tokenizer.specs.Slots.{cleared}
use Rattle.sheet.specs.Aligning.{filled, filled_if, zeros}
use Rattle.sheet.specs.Writing.{aligned_from}
use Rattle.sheet.proofs.Tests.{test}

pub filled_none : (c : ℕ) (out : List ℕ) → filled c [] out ≡ out
filled_none c out = rw add-zero (take-append-drop c out)

-- one slot is written, and the rest is to be filled
pub filled_next : (c : ℕ) (v : ℕ) (xs out : List ℕ) → c < length out → filled (c + 1) xs (set out c v) ≡ filled c (v ∷ xs) out
filled_next c v xs out l = rw (add-one, take-suc-set out c v l, drop-set-lt (suc c + length xs) out c v (omega arith), append_snoc, suc-add, ← add-suc)

-- the last slot is written
pub filled-last : (c : ℕ) (v : ℕ) (out : List ℕ) → c < length out → set out c v ≡ filled c (v ∷ []) out
filled-last c v out l = sym (filled_none (c + 1) (set out c v)) ∙ filled_next c v [] out l

-- ## Zeros

-- all slots are cleared
pub cleared-zeros : (out : List ℕ) → cleared 0 0 out ≡ zeros (length out)
unfolding cleared
cleared-zeros [] = refl
cleared-zeros (x ∷ out) = ap {B = List ℕ} (λ (l : List ℕ). 0 ∷ l) (cleared-zeros out)

-- those behind some alignments are
cleared_behind : (xs zs : List ℕ) → cleared 0 (length xs) (xs ++ zs) ≡ xs ++ zeros (length zs)
unfolding cleared
cleared_behind [] zs = cleared-zeros zs
cleared_behind (x ∷ xs) zs = ap {B = List ℕ} (λ (l : List ℕ). x ∷ l) (cleared_behind xs zs)

-- ## Parts

module _ (n : ℕ) (xs out : List ℕ) (h : n + length xs ≤ length out) where
  upto-length : length (take n out ++ xs) ≡ n + length xs
  upto-length = simp (length-append, length-take) (omega arith)

  -- the slots are filled, and then the rest is
  pub filled_then : (zs : List ℕ) → filled (n + length xs) zs (filled n xs out) ≡ filled n (xs ++ zs) out
  filled_then zs =
      let k = n + length xs in
      let d = drop k out in
      let p = take n out ++ xs in
      let m : k + length zs ≡ n + length (xs ++ zs) = omega (arith, length-append xs zs) in
      ap (λ (l : List ℕ). take k l ++ (zs ++ drop (k + length zs) l)) (sym (append_assoc (take n out) xs d))
      ∙ ap (λ (l : List ℕ). l ++ (zs ++ drop (k + length zs) (p ++ d))) (take_at p d k upto-length)
      ∙ ap (λ (l : List ℕ). p ++ (zs ++ l)) (sym (drop-drop (length zs) k (p ++ d)) ∙ ap (drop (length zs)) (drop_at p d k upto-length) ∙ drop-drop (length zs) k out ∙ ap (λ (i : ℕ). drop i out) m)
      ∙ append_assoc (take n out) xs (zs ++ drop (n + length (xs ++ zs)) out)
      ∙ ap (λ (l : List ℕ). take n out ++ l) (sym (append_assoc xs zs (drop (n + length (xs ++ zs)) out)))

  pub filled-length : length (filled n xs out) ≡ length out
  filled-length = simp (length-append, length-take, length-drop) (omega arith)

  -- a part that is lent from n on, and filled at its front
  pub put_filled : (ys : List ℕ) → ys ≡ filled 0 xs (mid_of n (length out - n) out) → put_mid n (length out - n) out ys ≡ filled n xs out
  put_filled ys e =
      let k = length out - n in
      let r = drop n out in
      let l : length r ≤ k = omega (arith, length-drop n out) in
      let m : n + (0 + length xs) ≡ n + length xs = omega arith in
      ap (λ (y : List ℕ). take n out ++ (y ++ drop k r)) (e ∙ ap (filled 0 xs) (take_all k r l))
      ∙ ap (λ (z : List ℕ). take n out ++ ((xs ++ drop (0 + length xs) r) ++ z)) (drop_of_length-le r l)
      ∙ ap (λ (z : List ℕ). take n out ++ z) (append-nil (xs ++ drop (0 + length xs) r) ∙ ap (λ (z : List ℕ). xs ++ z) (drop-drop (0 + length xs) n out ∙ ap (λ (i : ℕ). drop i out) m))

-- ## Slots that are filled where there are enough

pub if-length : (n : ℕ) (xs out : List ℕ) → length (filled_if n xs out) ≡ length out
if-length n xs out = test (leb (n + length xs) (length out)) (λ e. rw e (filled-length n xs out (leb-true _ _ e))) (λ e. rw e)

pub if-fits : (n : ℕ) (xs out : List ℕ) → n + length xs ≤ length out → filled_if n xs out ≡ filled n xs out
if-fits n xs out h = rw (le-leb (n + length xs) (length out) h)

pub if_not : (n : ℕ) (xs out : List ℕ) → length out < n + length xs → filled_if n xs out ≡ out
if_not n xs out h = rw (lt-leb (n + length xs) (length out) h)

-- ## The alignments of all tables

pub aligned-length : (n : ℕ) (fs : List Found) (out : List ℕ) → length (aligned_from n fs out) ≡ length out
unfolding aligned_from
aligned-length n [] out = refl
aligned-length n (f ∷ fs) out = aligned-length (n + length f.aligned) fs (filled_if n f.aligned out) ∙ if-length n f.aligned out

pub aligned-fits : (n : ℕ) (fs : List Found) (out : List ℕ) → n + length (aligned_of fs) ≤ length out → aligned_from n fs out ≡ filled n (aligned_of fs) out
unfolding aligned_from aligned_of
aligned-fits n [] out h = sym (filled_none n out)
aligned-fits n (f ∷ fs) out h =
    let xs = f.aligned in
    let l : n + length xs + length (aligned_of fs) ≤ length out = omega (arith, h, length-append xs (aligned_of fs)) in
    let k : n + length xs ≤ length out = omega (arith, l) in
    ap (aligned_from (n + length xs) fs) (if-fits n xs out k)
    ∙ aligned-fits (n + length xs) fs (filled n xs out) (omega (arith, l, filled-length n xs out k))
    ∙ filled_then n xs out k (aligned_of fs)

-- the alignments of all tables, where there are slots enough, are kept when those behind them are cleared
pub aligned-kept : (fs : List Found) (ks : List ℕ) → length (aligned_of fs) ≤ length ks → cleared 0 (length (aligned_of fs)) (aligned_from 0 fs ks) ≡ aligned_of fs ++ zeros (length ks - length (aligned_of fs))
aligned-kept fs ks h =
    let xs = aligned_of fs in
    let z : 0 + length xs ≡ length xs = omega arith in
    ap (cleared 0 (length xs)) (aligned-fits 0 fs ks (omega (arith, h)) ∙ ap (λ (i : ℕ). xs ++ drop i ks) z)
    ∙ cleared_behind xs (drop (length xs) ks)
    ∙ ap (λ (i : ℕ). xs ++ zeros i) (length-drop (length xs) ks)

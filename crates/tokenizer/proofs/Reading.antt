-- The state of a loop that reads a list from the left. `all i s es` is what it makes of es from the state s, where i elements are read; `goal` is what it is to make of ys.
--     Turn             i elements are read, and the state is s, which fits
--     starts, goes_on_lem, is_done     before the first turn; after one more; where none is to come.        reads    what a turn knows of element i
-- Assumes nothing.
use mathlib.Core.Path.{◌≡◌, sym, ◌∙◌, ap}
use Prim.Native.Nat.{ℕ, ◌+◌, ◌-◌, ◌≤◌, ◌<◌, zero-le}
use native.Mathlib.Numerals.{add-one}
use native.Mathlib.Omega.{arith}
use mathlib.Core.WellFounded.InvImage
use mathlib.Core.WellFounded.{WellFounded}
use mathlib.Core.List.{List, [], ◌∷◌}
use lib.ListN.{length, get_or, drop, drop_of_length-le}
use lib.Seq.{drop-cons}
use lib.WfN.{lt-wf_rel}

-- what is left from i on begins with element i
pub left-from : {X : Type 0} (l : List X) (i : ℕ) (d : X) → i < length l → drop i l ≡ get_or l i d ∷ drop (i + 1) l
left-from l i d h = rw (add-one, ← drop-cons l i d h)

module _ {X S Z : Type 0} (OK : S → Type 0) (all : ℕ → S → List X → Z) (ys : List X) (goal : Z) where
  pub record Turn : Type 0 where
    pub i : ℕ
    pub s : S
    pub fits : OK s
    pub upto : i ≤ length ys
    pub inv : goal ≡ all i s (drop i ys)

  abbrev pub Fewer : Turn → Turn → Type 0
  Fewer a b = length ys - a.i < length ys - b.i

  pub Fewer_wf : WellFounded Fewer
  Fewer_wf = InvImage.wf (λ (t : Turn). length ys - t.i) lt-wf_rel.wf

  abbrev pub starts : (s : S) → OK s → goal ≡ all 0 s ys → Turn
  starts s ok g = record { i = 0; s = s; fits = ok; upto = zero-le; inv = g }

  -- what is known in a turn that reads element i
  pub reads : (t : Turn) → t.i < length ys → (d : X) → goal ≡ all t.i t.s (get_or ys t.i d ∷ drop (t.i + 1) ys)
  reads t l d = t.inv ∙ ap (all t.i t.s) (left-from ys t.i d l)

  abbrev pub goes_on_lem : (t : Turn) → t.i < length ys → (d : X) (s' : S) → OK s' → all t.i t.s (get_or ys t.i d ∷ drop (t.i + 1) ys) ≡ all (t.i + 1) s' (drop (t.i + 1) ys) → Turn
  goes_on_lem t l d s' ok g = record { i = t.i + 1; s = s'; fits = ok; upto = omega (arith, l); inv = reads t l d ∙ g }

  pub goes_on_less : (t : Turn) → t.i < length ys → length ys - (t.i + 1) < length ys - t.i
  goes_on_less t l = omega (arith, l)

  pub is_done : (t : Turn) → length ys ≤ t.i → all t.i t.s [] ≡ goal
  is_done t over = sym (t.inv ∙ ap (all t.i t.s) (drop_of_length-le ys over))

-- The state of a loop that changes a list from a place on, an element a turn. `makes i s zs` is what it makes of the list zs from the place i on, in the state s; `goal` is what it is to make of ys.
--     Turn             the place is i, the state is s, which fits, and the list is now zs
--     starts, goes_on_lem, is_done     before the first turn; after one more; where none is to come
-- Assumes nothing.
use mathlib.Core.Path.{◌≡◌, refl, sym, ◌∙◌}
use Prim.Native.Nat.{ℕ, ◌+◌, ◌-◌, ◌<◌, ◌^◌}
use native.Mathlib.Omega.{arith}
use mathlib.Core.WellFounded.InvImage
use mathlib.Core.WellFounded.{WellFounded}
use mathlib.Core.List.{List}
use lib.ListN.{length, set, length-set}
use lib.WfN.{lt-wf_rel}

module _ {X S : Type 0} (OK : S → Type 0) (makes : ℕ → S → List X → List X) (ys goal : List X) where
  pub record Turn : Type 0 where
    pub i : ℕ
    pub s : S
    pub zs : List X
    pub fits : OK s
    pub small : i < 2 ^ 64
    pub len : length zs ≡ length ys
    pub inv : goal ≡ makes i s zs

  abbrev pub Fewer : Turn → Turn → Type 0
  Fewer a b = length ys - a.i < length ys - b.i

  pub Fewer_wf : WellFounded Fewer
  Fewer_wf = InvImage.wf (λ (t : Turn). length ys - t.i) lt-wf_rel.wf

  abbrev pub starts : (i : ℕ) → i < 2 ^ 64 → (s : S) → OK s → goal ≡ makes i s ys → Turn
  starts i small s ok g = record { i = i; s = s; zs = ys; fits = ok; small = small; len = refl; inv = g }

  abbrev pub goes_on_lem : (t : Turn) → t.i < length ys → t.i + 1 < 2 ^ 64 → (e : X) (s' : S) → OK s' → makes t.i t.s t.zs ≡ makes (t.i + 1) s' (set t.zs t.i e) → Turn
  goes_on_lem t l small e s' ok g = record { i = t.i + 1; s = s'; zs = set t.zs t.i e; fits = ok; small = small; len = length-set t.zs t.i e ∙ t.len; inv = t.inv ∙ g }

  pub goes_on_less : (t : Turn) → t.i < length ys → length ys - (t.i + 1) < length ys - t.i
  goes_on_less t l = omega (arith, l)

  pub is_done : (t : Turn) → makes t.i t.s t.zs ≡ t.zs → t.zs ≡ goal
  is_done t e = sym (t.inv ∙ e)

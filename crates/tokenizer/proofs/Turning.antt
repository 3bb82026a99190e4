-- The state of a loop that goes on while a test of its state s holds, and lends a list to a call in each turn. `makes s zs` is what it makes of the state s and the list zs; `goal` is what it is to make of ys. `left s` falls.
--     Turn             the state is s, which fits, and the list is now zs
--     starts, goes_on_lem  before the first turn; after one more
-- Assumes nothing.
use mathlib.Core.Path.{◌≡◌, refl, ◌∙◌}
use Prim.Native.Nat.{ℕ, ◌<◌}
use mathlib.Core.WellFounded.InvImage
use mathlib.Core.WellFounded.{WellFounded}
use mathlib.Core.List.{List}
use lib.ListN.{length}
use lib.WfN.{lt-wf_rel}

module _ {X S Z : Type 0} (OK : S → Type 0) (left : S → ℕ) (makes : S → List X → Z) (ys : List X) (goal : Z) where
  pub record Turn : Type 0 where
    pub s : S
    pub zs : List X
    pub fits : OK s
    pub len : length zs ≡ length ys
    pub inv : goal ≡ makes s zs

  abbrev pub Fewer : Turn → Turn → Type 0
  Fewer a b = left a.s < left b.s

  pub Fewer_wf : WellFounded Fewer
  Fewer_wf = InvImage.wf (λ (t : Turn). left t.s) lt-wf_rel.wf

  abbrev pub starts : (s : S) → OK s → goal ≡ makes s ys → Turn
  starts s ok g = record { s = s; zs = ys; fits = ok; len = refl; inv = g }

  abbrev pub goes_on_lem : (t : Turn) (s' : S) (zs' : List X) → OK s' → length zs' ≡ length ys → makes t.s t.zs ≡ makes s' zs' → Turn
  goes_on_lem t s' zs' ok len g = record { s = s'; zs = zs'; fits = ok; len = len; inv = t.inv ∙ g }

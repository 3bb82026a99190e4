-- The answers of `settle`.
-- Assumes nothing.
use Prim.Native.Nat.{ℕ}
use mathlib.Core.Path.{◌≡◌, refl}
use mathlib.Core.List.{List}
use mathlib.Core.Bool.{Bool, true, false, cond}
use lib.Dec.{leb}
use Rattle.edit_order.specs.declared.edit_slots.Edit.{Edit}
use Rattle.std.specs.Prelude.{Some, None, Ok, Err, ok_or}
use Rattle.tokenizer.specs.declared.refusal.Refusal.TheVariants as Refusal
use Rattle.edit_order.specs.Edits.{edits_fit}
use Rattle.edit_order.specs.EditCount.{result_count, capped}
use Rattle.edit_map.specs.EditSettles.{settled}

module _ (len pool slots : ℕ) (es : List Edit) where
  pub settle_misfit : edits_fit len pool es ≡ false → Err Refusal.EditsDoNotFit ≡ settled len pool slots es
  unfolding settled
  settle_misfit f = rw f

  -- question 12 is answered by a count, where there is one
  pub settle_counted : edits_fit len pool es ≡ true → ok_or (capped slots (result_count len es)) Refusal.TooFewResultSlots ≡ settled len pool slots es
  unfolding settled
  settle_counted f = rw f (go (leb (result_count len es) slots))
    where
      go : (b : Bool) → ok_or (cond b (Some (result_count len es)) None) Refusal.TooFewResultSlots ≡ cond b (Ok (result_count len es)) (Err Refusal.TooFewResultSlots)
      go true = refl
      go false = refl

-- What `settle` leaves, and the run of the cursor from there on, are the answer, the edit slots and the result slots of an edit.
-- Assumes nothing.
use Prim.Native.Nat.{ℕ, zero-le}
use mathlib.Core.Path.{◌≡◌, refl, ap, sym, ◌∙◌}
use mathlib.Core.List.{List}
use mathlib.Core.Bool.{Bool, true, false}
use lib.ListN.{length, replicate}
use Rattle.tokenizer.specs.declared.event.Event.{Event}
use Rattle.tokenizer.specs.Events.{blank_event}
use Rattle.tokenizer.specs.Slots.{slots_of, cleared}
use Rattle.tokenizer.proofs.Blanks.{slots_none, cleared_all}
use Rattle.std.specs.Prelude.{Result, Ok, Err}
use Rattle.tokenizer.specs.declared.refusal.Refusal.{Refusal}
use Rattle.edit_order.specs.EditSlots.{edits_of}
use Rattle.edit_map.specs.declared.edit_walk.Cursor.TheVariants.{Between}
use Rattle.edit_order.specs.Edits.{edited_list, edits_fit}
use Rattle.edit_order.specs.EditOrder.{sorted}
use Rattle.edit_map.specs.EditAnswer.{answered, edit_answer, slots_after, records_of, edit_slots, edit_results}
use Rattle.edit_order.specs.EditCount.{result_count}
use Rattle.edit_map.specs.EditSettles.{settled}
use Rattle.edit_map.specs.EditCursor.{to_come, Ordered}
use Rattle.edit_order.proofs.EditSlots.{edits_held}
use Rattle.edit_order.proofs.EditOrder.{rises_sorted}
use Rattle.edit_order.proofs.EditSorted.{fits-sorted, edited-sorted}
use Rattle.edit_order.proofs.EditCounted.{result_count_lem}

module _ (list pool : List Event) (l : List ℕ) (n : ℕ) where
  abbrev fits : Bool
  fits = edits_fit (length list) (length pool) (edits_of l)

  pub settled-answer : (settled (length list) (length pool) n (edits_of l)) ≡ edit_answer list l pool n
  unfolding settled
  settled-answer = go fits refl
    where
      go : (b : Bool) → fits ≡ b → answered b (result_count (length list) (edits_of l)) n ≡ answered b (length (edited_list list pool (edits_of l))) n
      go true f = rw (result_count_lem (length list) (length pool) (edits_of l) f list pool refl refl)
      go false f = refl

  pub settled_slots : slots_after (settled (length list) (length pool) n (edits_of l)) l ≡ edit_slots list l pool n
  settled_slots = ap (λ (a : Result ℕ Refusal). slots_after a l) settled-answer

  -- accepted, they fit
  settled_fits : (k : ℕ) → settled (length list) (length pool) n (edits_of l) ≡ Ok k → fits ≡ true
  unfolding settled
  settled_fits k = go fits
    where
      go : (b : Bool) → answered b (result_count (length list) (edits_of l)) n ≡ Ok k → b ≡ true
      go true e = refl
      go false e = cc

  -- an accepted edit: the cursor may run over the sorted edits, and what comes is the edited list
  module _ (k : ℕ) (e : settled (length list) (length pool) n (edits_of l) ≡ Ok k) where
    sorted_now : edits_of (slots_after (settled (length list) (length pool) n (edits_of l)) l) ≡ sorted (edits_of l)
    sorted_now = rw e (edits_held (sorted (edits_of l)) l)

    pub settled_ready : Ordered (length list) (length pool) (edits_of (slots_after (settled (length list) (length pool) n (edits_of l)) l)) (Between 0 0)
    settled_ready =
        rw sorted_now
        (record { rise = rises_sorted (edits_of l); fit = fits-sorted (length list) (length pool) (edits_of l) ∙ settled_fits k e; stand = (zero-le, zero-le) })

    pub settled_results : slots_of n (to_come list pool (edits_of (slots_after (settled (length list) (length pool) n (edits_of l)) l)) (Between 0 0)) ≡ edit_results list l pool n
    settled_results =
        rw sorted_now (ap (slots_of n) (edited-sorted list pool (edits_of l)))
        ∙ ap (λ (a : Result ℕ Refusal). slots_of n (records_of a (edited_list list pool (edits_of l)))) (sym e ∙ settled-answer)

  -- a refused one leaves no record
  pub refused_results : (q : Refusal) → settled (length list) (length pool) n (edits_of l) ≡ Err q → (zs : List Event) → length zs ≡ n → cleared blank_event 0 zs ≡ edit_results list l pool n
  refused_results q e zs h =
      cleared_all zs ∙ ap (λ (k : ℕ). replicate k blank_event) h ∙ sym (slots_none n)
      ∙ ap (λ (a : Result ℕ Refusal). slots_of n (records_of a (edited_list list pool (edits_of l)))) (sym e ∙ settled-answer)

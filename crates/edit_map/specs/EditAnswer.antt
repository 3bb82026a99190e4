-- What an edit answers, and what it leaves in the edit slots and in the result slots.
use Rattle.std.specs.Prelude.{ℕ, List, [], Bool, cond, leb, length, Result, Ok, Err}
use Rattle.tokenizer.specs.declared.event.Event.{Event}
use Rattle.tokenizer.specs.Slots.{slots_of}
use Rattle.tokenizer.specs.declared.refusal.Refusal.{Refusal}
use Rattle.edit_order.specs.EditSlots.{edits_of, holding}
use Rattle.edit_order.specs.Edits.{edits_fit, edited_list}
use Rattle.edit_order.specs.EditOrder.{sorted}

-- questions 11 and 12, of a number of result records and of slots for them
abbrev pub answered : Bool → ℕ → ℕ → Result ℕ Refusal
answered fits count slots = cond fits (cond (leb count slots) (Ok count) (Err Refusal.TooFewResultSlots)) (Err Refusal.EditsDoNotFit)

-- the answer of an edit, where n result slots are lent
abbrev pub edit_answer : List Event → List ℕ → List Event → ℕ → Result ℕ Refusal
edit_answer list edits pool n =
    answered (edits_fit (length list) (length pool) (edits_of edits)) (length (edited_list list pool (edits_of edits))) n

-- the edit slots at exit: where accepted, the edits in order (02, U5) and the numbers behind them as they were; where refused, as they came
abbrev pub slots_after : Result ℕ Refusal → List ℕ → List ℕ
slots_after (Err q) l = l
slots_after (Ok n) l = holding (sorted (edits_of l)) l

-- the result records: none where refused
abbrev pub records_of : Result ℕ Refusal → List Event → List Event
records_of (Err q) xs = []
records_of (Ok n) xs = xs

-- the edit slots at exit
abbrev pub edit_slots : List Event → List ℕ → List Event → ℕ → List ℕ
edit_slots list edits pool n = slots_after (edit_answer list edits pool n) edits

-- the result slots at exit
abbrev pub edit_results : List Event → List ℕ → List Event → ℕ → List Event
edit_results list edits pool n = slots_of n (records_of (edit_answer list edits pool n) (edited_list list pool (edits_of edits)))

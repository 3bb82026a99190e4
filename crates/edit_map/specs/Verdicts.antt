-- What the calls make of their passes over the list.
use Rattle.std.specs.Prelude.{ℕ, List, cond, leb, Option, Some, None, Result, Ok, Err}
use Rattle.tokenizer.specs.declared.event.Event.{Event}
use Rattle.tokenizer.specs.declared.refusal.Refusal.{Refusal}
use Rattle.edit_map.specs.declared.infer_step.Aligning.{Aligning}
use Rattle.edit_map.specs.Accept.{accepts}
use Rattle.edit_map.specs.Cursors.{front, stepped, given_to}
use Rattle.edit_map.specs.AlignSteps.{is_found}

-- the answer of a stream by the number of records that it gave, if they had slots
abbrev pub streamed_by : Option ℕ → Result ℕ Refusal
streamed_by None = Err Refusal.TooFewResultSlots
streamed_by (Some k) = Ok k

-- the answer of the stream of a list, where it is accepted, over n slots
unfoldable pub streamed : List Event → ℕ → Result ℕ Refusal
streamed es n = cond (accepts es) (streamed_by (given_to es 0 n front)) (Err Refusal.NoRawTables)

-- the slots behind it; those of another list stay
unfoldable pub streamed_slots : List Event → List Event → List Event
streamed_slots es ys = cond (accepts es) (stepped es front ys) ys

-- the answer, where a table was read to its end
unfoldable pub told_of : Aligning → ℕ → Result ℕ Refusal
told_of s n = cond (is_found s.stage) (cond (leb s.count n) (Ok s.count) (Err Refusal.TooFewAlignmentSlots)) (Err Refusal.NoTableToAlign)

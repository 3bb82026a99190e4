-- What the calls `resolve` and `align` answer, and what stands in the slots that are lent to them.
use Rattle.std.specs.Prelude.{ℕ, ◌-◌, List, [], ◌++◌, cond, ◌&&◌, leb, length, replicate, Result, Ok, Err}
use Rattle.std.proofs.Math.Option.{Option, none, some}
use Rattle.tokenizer.specs.declared.event.Event.{Event}
use Rattle.tokenizer.specs.Slots.{slots_of}
use Rattle.tokenizer.specs.declared.refusal.Refusal.{Refusal}
use Rattle.edit_map.specs.Accept.{accepts}
use Rattle.edit_map.specs.TablesOf.{resolved_list}
use Rattle.edit_map.specs.Align.{alignments_at}

-- ## Resolve: a list, and n result slots

-- the number of result events, or the question that gets a "no"
unfoldable pub resolve_answer : List Event → ℕ → Result ℕ Refusal
resolve_answer es n =
    cond (accepts es)
    (cond (leb (length (resolved_list es)) n) (Ok (length (resolved_list es))) (Err Refusal.TooFewResultSlots))
    (Err Refusal.NoRawTables)

-- the result events, then blank ones; all blank where refused
unfoldable pub resolve_slots : List Event → ℕ → List Event
resolve_slots es n = slots_of n (cond (accepts es && leb (length (resolved_list es)) n) (resolved_list es) [])

-- ## Align: a list, the place of an event in it, and n alignment slots

-- the number of alignments, or the question that gets a "no"
abbrev pub aligned_of : Option (List ℕ) → ℕ → Result ℕ Refusal
aligned_of none n = Err Refusal.NoTableToAlign
aligned_of (some l) n = cond (leb (length l) n) (Ok (length l)) (Err Refusal.TooFewAlignmentSlots)

-- the answer for the event at i
unfoldable pub align_answer : List Event → ℕ → ℕ → Result ℕ Refusal
align_answer es i n = aligned_of (alignments_at es i) n

-- the alignments, then 0; all 0 where refused
abbrev pub aligned_slots : Option (List ℕ) → ℕ → List ℕ
aligned_slots none n = replicate n 0
aligned_slots (some l) n = cond (leb (length l) n) (l ++ replicate (n - length l) 0) (replicate n 0)

-- the slots for the event at i
unfoldable pub align_slots : List Event → ℕ → ℕ → List ℕ
align_slots es i n = aligned_slots (alignments_at es i) n

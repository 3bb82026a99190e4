-- What `sheet` answers, and what it leaves in the slots.
use Rattle.std.specs.Prelude.{ℕ, List, [], Bool, cond, eqb, ltb, length, Result}
use Rattle.tokenizer.specs.declared.event.Event.{Event}
use Rattle.tokenizer.specs.Bytes.{kind_in, kinds_refusal}
use Rattle.tokenizer.specs.declared.refusal.Refusal.{Refusal}
use Rattle.tokenizer.specs.Refusals.{length_refusal, answered}
use Rattle.tokenizer.specs.Slots.{slots_of}
use Rattle.gfm_table.specs.Calls.{or_else, slot_refusal}
use Rattle.sheet.specs.declared.calls.SheetCounts.{SheetCounts}
use Rattle.sheet.specs.Walk.{Found, tables, raw_of, resolved_of, aligned_of}
use Rattle.sheet.specs.Aligning.{aligned_into}
use Rattle.sheet.specs.Writing.{counts_of}

-- ## Questions

-- question 12, of result events
abbrev pub result_refusal : ℕ → List Event → ℕ
result_refusal n xs = cond (ltb n (length xs)) 12 0

-- question 14, of alignments
abbrev pub align_refusal : ℕ → List ℕ → ℕ
align_refusal n xs = cond (ltb n (length xs)) 14 0

-- ## The answer for the sheet s by the table of kinds t, with n raw slots, m result slots and k alignment slots

module _ (s t : List ℕ) (on : Bool) (n m k : ℕ) where
  -- the tables of the sheet
  abbrev pub sheet_tables : List Found
  sheet_tables = tables (kind_in t) on s

  -- the number of the first question that a sheet gets a "no" to, or 0
  abbrev pub sheet_number : ℕ
  sheet_number =
      or_else (kinds_refusal t)
      (or_else (length_refusal s)
      (or_else (slot_refusal n (raw_of sheet_tables))
      (or_else (result_refusal m (resolved_of sheet_tables)) (align_refusal k (aligned_of sheet_tables)))))

  -- the answer: accepted, the numbers of tables, raw events, result events and alignments
  abbrev pub sheet_of : Result SheetCounts Refusal
  sheet_of = answered sheet_number (counts_of sheet_tables)

  -- the raw slots: the events of all tables and then blanks, or blanks
  abbrev pub sheet_raw : List Event
  sheet_raw = slots_of n (cond (eqb sheet_number 0) (raw_of sheet_tables) [])

  -- the result slots, likewise
  abbrev pub sheet_results : List Event
  sheet_results = slots_of m (cond (eqb sheet_number 0) (resolved_of sheet_tables) [])

  -- the alignment slots: the alignments and then zeros, or zeros
  abbrev pub sheet_aligned : List ℕ
  sheet_aligned = aligned_into (eqb sheet_number 0) (aligned_of sheet_tables) k

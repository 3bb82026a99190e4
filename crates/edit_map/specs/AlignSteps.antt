-- The alignments of a table, record by record.
use Rattle.std.specs.Prelude.{ℕ, zero, suc, List, [], ◌∷◌, Bool, true, false, cond, ◌||◌, drop, Option, Some, None, is_some}
use Rattle.tokenizer.specs.declared.event.Event.{Event}
use Rattle.tokenizer.specs.Events.{GfmTable, GfmTableDelimiterCellValue, GfmTableDelimiterRow}
use Rattle.edit_map.specs.declared.infer_step.Stage.{Stage}
use Rattle.edit_map.specs.declared.infer_step.Stage.TheVariants.{Opening, Seeking, Outside, Entered, Inside, Found, Failed}
use Rattle.edit_map.specs.declared.infer_step.Aligning.{Aligning}
use Rattle.edit_map.specs.declared.infer_step.Alignment.{Alignment}
use Rattle.edit_map.specs.Base.{plus_of}
use Rattle.edit_map.specs.Align.{is_entry, is_exit, is_marker}

-- the alignment of a value, by the markers in front and behind
abbrev pub alignment_of : Bool → Bool → Alignment
alignment_of true true = Alignment.Center
alignment_of true false = Alignment.Left
alignment_of false true = Alignment.Right
alignment_of false false = Alignment.None

-- its number
abbrev pub number_of : Alignment → ℕ
number_of Alignment.None = 1
number_of Alignment.Left = 2
number_of Alignment.Right = 3
number_of Alignment.Center = 4

-- what a slot holds of it, or of none
abbrev pub slot_of : Option Alignment → ℕ
slot_of None = 0
slot_of (Some a) = number_of a

-- a record that gives no alignment
abbrev pub still : Stage → Bool → Aligning → Event → Aligning
still g f s e = record { stage = g; front = f; last = is_marker e; given = None; count = s.count; at = plus_of s.at 1 }

-- a value is left: it gives its alignment
abbrev pub gives : Bool → Aligning → Event → Aligning
gives f s e = record { stage = Outside; front = false; last = is_marker e; given = Some (alignment_of f s.last); count = plus_of s.count 1; at = plus_of s.at 1 }

-- a record inside a value that has a marker in front, or not
abbrev pub value_step : Bool → Aligning → Event → Aligning
value_step f s e =
    cond (is_exit GfmTableDelimiterRow e) (still Failed false s e)
    (cond (is_entry GfmTableDelimiterCellValue e) (still Failed false s e)
    (cond (is_exit GfmTableDelimiterCellValue e) (gives f s e) (still Inside f s e)))

-- a record of the delimiter row outside its values
abbrev pub outside_step : Aligning → Event → Aligning
outside_step s e =
    cond (is_exit GfmTableDelimiterRow e) (still Found false s e)
    (cond (is_entry GfmTableDelimiterCellValue e) (still Entered false s e)
    (cond (is_exit GfmTableDelimiterCellValue e) (still Failed false s e) (still Outside false s e)))

-- a record at a stage
abbrev pub align_in : Stage → Aligning → Event → Aligning
align_in Opening s e = cond (is_entry GfmTable e) (still Seeking false s e) (still Failed false s e)
align_in Seeking s e = cond (is_entry GfmTableDelimiterRow e) (still Outside false s e) (still Seeking false s e)
align_in Outside s e = outside_step s e
align_in Entered s e = value_step (is_marker e) s e
align_in Inside s e = value_step s.front s e
align_in Found s e = still Found false s e
align_in Failed s e = still Failed false s e

-- one record more
abbrev pub align_step : Aligning → Event → Aligning
align_step s e = align_in s.stage s e

-- a stage before the record at a place
abbrev pub start_at : Stage → ℕ → Aligning
start_at g i = record { stage = g; front = false; last = false; given = None; count = 0; at = i }

-- the same state, its last alignment taken
abbrev pub fresh : Aligning → Aligning
fresh s = record { stage = s.stage; front = s.front; last = s.last; given = None; count = s.count; at = s.at }

-- the delimiter row was read to its end
abbrev pub is_found : Stage → Bool
is_found Found = true
is_found _ = false

-- no further record counts
abbrev pub settled : Stage → Bool
settled Found = true
settled Failed = true
settled _ = false

-- no further record counts
abbrev pub done : Aligning → Bool
done s = settled s.stage

-- no further record counts, or the last one gave an alignment
abbrev pub pauses : Aligning → Bool
pauses s = settled s.stage || is_some s.given

-- records read up to where reading stops
unfoldable pub scan_all : (Aligning → Bool) → Aligning → List Event → Aligning
scan_all off s [] = s
scan_all off s (e ∷ es) = cond (off s) s (scan_all off (align_step s e) es)

-- the same from the place that a state holds
abbrev pub scan_of : List Event → (Aligning → Bool) → Aligning → Aligning
scan_of es off s = scan_all off (fresh s) (drop s.at es)

-- the alignments that n slots take from a state on, 0 past the last
unfoldable pub aligns_from : List Event → ℕ → Aligning → List ℕ
aligns_from es zero s = []
aligns_from es (suc n) s = slot_of (scan_of es pauses s).given ∷ aligns_from es n (scan_of es pauses s)

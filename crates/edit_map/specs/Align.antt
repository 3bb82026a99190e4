-- The alignments that a list of events tells, as question 13 asks for them.
use Rattle.std.specs.Prelude.{ℕ, List, [], ◌∷◌, Bool, true, false, cond, ◌&&◌, eqb, drop}
use Rattle.std.proofs.Math.Option.{Option, none, some}
use Rattle.tokenizer.specs.declared.event.Event.{Event}
use Rattle.tokenizer.specs.Events.{GfmTable, GfmTableDelimiterCellValue, GfmTableDelimiterMarker, GfmTableDelimiterRow}

-- a record that enters the name n
abbrev pub is_entry : ℕ → Event → Bool
is_entry n e = eqb e.kind 1 && eqb e.name n

-- a record that leaves the name n
abbrev pub is_exit : ℕ → Event → Bool
is_exit n e = eqb e.kind 2 && eqb e.name n

-- a record named as a marker
abbrev pub is_marker : Event → Bool
is_marker e = eqb e.name GfmTableDelimiterMarker

-- the first record is named as a marker
abbrev pub front : List Event → Bool
front [] = false
front (e ∷ es) = is_marker e

-- one alignment before others, if there are others
abbrev pub more : ℕ → Option (List ℕ) → Option (List ℕ)
more a none = none
more a (some rest) = some (a ∷ rest)

-- within a delimiter row: outside a value, or inside one that has a colon in front or not; `last` says that the record before is named as a marker
pub data Place : Type 0 where
  outside : Place
  inside : Bool → Place

-- 1 none, 2 left, 3 right, 4 centre, by the markers in front and behind
abbrev pub aligned : Bool → Bool → ℕ
aligned true true = 4
aligned true false = 2
aligned false true = 3
aligned false false = 1

-- the alignments of a delimiter row from a place in it on: none where it is not closed, or its values are not entered and left in turn
unfoldable pub row_alignments : Place → Bool → List Event → Option (List ℕ)
row_alignments outside last [] = none
row_alignments (inside f) last [] = none
row_alignments outside last (e ∷ es) =
    cond (is_exit GfmTableDelimiterRow e) (some [])
    (cond (is_entry GfmTableDelimiterCellValue e) (row_alignments (inside (front es)) (is_marker e) es)
    (cond (is_exit GfmTableDelimiterCellValue e) none
    (row_alignments outside (is_marker e) es)))
row_alignments (inside f) last (e ∷ es) =
    cond (is_exit GfmTableDelimiterRow e) none
    (cond (is_entry GfmTableDelimiterCellValue e) none
    (cond (is_exit GfmTableDelimiterCellValue e) (more (aligned f last) (row_alignments outside (is_marker e) es))
    (row_alignments (inside f) (is_marker e) es)))

-- the delimiter row behind the entry of a table
unfoldable pub after_entry : List Event → Option (List ℕ)
after_entry [] = none
after_entry (e ∷ es) = cond (is_entry GfmTableDelimiterRow e) (row_alignments outside false es) (after_entry es)

-- none where question 13 is answered no
abbrev pub table_alignments : List Event → Option (List ℕ)
table_alignments [] = none
table_alignments (e ∷ es) = cond (is_entry GfmTable e) (after_entry es) none

-- the alignments of the table that the event at i enters
abbrev pub alignments_at : List Event → ℕ → Option (List ℕ)
alignments_at es i = table_alignments (drop i es)

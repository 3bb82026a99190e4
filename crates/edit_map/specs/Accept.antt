-- Question 10 as an automaton over the records.
use Rattle.std.specs.Bool.{then_some}
use Rattle.std.specs.Prelude.{ℕ, List, [], ◌∷◌, Bool, true, false, cond, ◌&&◌, Option, Some, None, is_none, option_and_then}
use Rattle.tokenizer.specs.declared.event.Event.{Event}
use Rattle.tokenizer.specs.Events.{GfmTableHead, LineEnding}
use Rattle.gfm_table.specs.declared.stream.Part.{Part}
use Rattle.gfm_table.specs.Stream.{name_of}
use Rattle.edit_map.specs.declared.resolve_accept.Place.{Place}
use Rattle.edit_map.specs.declared.resolve_accept.Place.TheVariants.{Start, Entry, Fresh, Within, Between, HeadLeave, Closed}
use Rattle.edit_map.specs.declared.resolve_accept.Reading.{Reading}
use Rattle.edit_map.specs.Raw.{enters, leaves, row_piece, delimiter_piece}

-- the names of the pieces of a row of a kind
abbrev pub piece_of : Part → ℕ → Bool
piece_of Part.Head = row_piece
piece_of Part.Delimiter = delimiter_piece
piece_of Part.Body = row_piece

-- a place where nothing is to be left
abbrev pub at : Place → Part → Reading
at l p = record { place = l; part = p; due = None }

-- a line end is entered, before a row
abbrev pub ending : Part → Reading
ending p = record { place = Entry; part = p; due = Some LineEnding }

-- a piece is entered
abbrev pub entry_of : Part → Event → Option Reading
entry_of p e = then_some (piece_of p e.name && enters e.name e) (record { place = Within; part = p; due = Some e.name })

-- a row is left
abbrev pub after_row : Part → Reading
after_row Part.Head = at Between Part.Head
after_row Part.Delimiter = at HeadLeave Part.Delimiter
after_row Part.Body = at Closed Part.Head

-- one record, at a place where nothing is to be left; none where no list of raw tables has it there
abbrev pub read_in : Place → Part → Event → Option Reading
read_in Start p e = then_some (enters GfmTableHead e) (at Entry Part.Head)
read_in Entry p e = then_some (enters (name_of p) e) (at Fresh p)
read_in Fresh p e = entry_of p e
read_in Within p e = cond (leaves (name_of p) e) (Some (after_row p)) (entry_of p e)
read_in Between p e = then_some (enters LineEnding e) (ending Part.Delimiter)
read_in HeadLeave p e = then_some (leaves GfmTableHead e) (at Closed Part.Head)
read_in Closed p e = cond (enters LineEnding e) (Some (ending Part.Body)) (then_some (enters GfmTableHead e) (at Entry Part.Head))

-- one record, at a place where the name n is to be left first, or nothing is
abbrev pub read_due : Option ℕ → Place → Part → Event → Option Reading
read_due None l p e = read_in l p e
read_due (Some n) l p e = then_some (leaves n e) (at l p)

-- one record more
abbrev pub read_step : Reading → Event → Option Reading
read_step r e = read_due r.due r.place r.part e

-- some records; none where one of them is not read
unfoldable pub read_all : Reading → List Event → Option Reading
read_all r [] = Some r
read_all r (e ∷ es) = option_and_then (λ s. read_all s es) (read_step r e)

-- a list of raw tables may end here
abbrev pub whole : Place → Bool
whole Start = true
whole Closed = true
whole _ = false

-- what was read is a list of raw tables
abbrev pub accepted : Reading → Bool
accepted r = is_none r.due && whole r.place

-- the same, where all records were read
abbrev pub all_accepted : Option Reading → Bool
all_accepted None = false
all_accepted (Some r) = accepted r

-- question 10
abbrev pub accepts : List Event → Bool
accepts es = all_accepted (read_all (at Start Part.Head) es)

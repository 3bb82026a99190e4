-- The stream as the code runs it: by a cursor that holds a place of the list, and a look ahead where the mode asks for one.
use Rattle.std.specs.Prelude.{ℕ, zero, suc, List, [], ◌∷◌, Bool, true, false, cond, ◌||◌, ◌&&◌, not, eqb, drop, Option, Some, None}
use Rattle.std.specs.declared.ops.ControlFlow.{ControlFlow}
use Rattle.std.specs.declared.ops.ControlFlow.TheVariants.{Continue, Break}
use Rattle.tokenizer.specs.declared.event.Event.{Event}
use Rattle.tokenizer.specs.Slots.{event_at}
use Rattle.tokenizer.specs.Events.{GfmTableCellDivider, SpaceOrTab, blank_event}
use Rattle.edit_map.specs.declared.resolve_turn.Phase.{Phase}
use Rattle.edit_map.specs.declared.resolve_turn.Phase.TheVariants.{Out, Piece, RowExit, HeadExit}
use Rattle.gfm_table.specs.declared.stream.Part.TheVariants as Part
use Rattle.edit_map.specs.declared.resolve_turn.Mode.{Mode}
use Rattle.edit_map.specs.declared.resolve_turn.Turn.{Turn}
use Rattle.edit_map.specs.declared.resolve_look.Look.{Look}
use Rattle.edit_map.specs.declared.resolve_step.Cursor.{Cursor}
use Rattle.edit_map.specs.Base.{plus_of, is_text_name}
use Rattle.edit_map.specs.Turns.{is_out, plain, turn_of}

-- ## The look ahead

-- from the piece at hand: its own exit is 1 record ahead; at a divider a brief look is enough
abbrev pub look_start : Event → Look
look_start this = record { count = 1; ahead = 1; solid = false; brief = eqb this.name GfmTableCellDivider }

-- a look goes on behind a text, or ends there if it is brief
abbrev pub look_text : Look → ControlFlow Look Look
look_text l = cond l.brief (Break l) (Continue l)

-- one more record, n the count with it; a look ends at what is neither whitespace nor text
abbrev pub look_on : ℕ → Look → Event → ControlFlow Look Look
look_on n l e =
    cond (eqb e.name SpaceOrTab) (Continue (record { count = n; ahead = l.ahead; solid = l.solid; brief = l.brief }))
    (cond (is_text_name e.name) (look_text (record { count = n; ahead = n; solid = true; brief = l.brief }))
    (Break (record { count = l.count; ahead = l.ahead; solid = l.solid || eqb e.name GfmTableCellDivider; brief = l.brief })))

-- the records behind a piece, up to where the look ends
unfoldable pub look_all : ControlFlow Look Look → List Event → Look
look_all (Break l) es = l
look_all (Continue l) [] = l
look_all (Continue l) (e ∷ es) = look_all (look_on (plus_of l.count 1) l e) es

-- ## The cursor

-- the phase at a piece
abbrev pub is_piece : Phase → Bool
is_piece Piece = true
is_piece _ = false

-- a look ahead is asked for at a divider that may open a cell, and wherever a value may open
abbrev pub asks : Mode → Event → Bool
asks m this = is_piece m.phase && (not (eqb this.name SpaceOrTab) && (m.seen || not (eqb this.name GfmTableCellDivider)))

-- the phases whose turns read the next record
abbrev pub reads : Phase → Bool
reads RowExit = true
reads HeadExit = true
reads _ = false

-- the cursor after a turn
abbrev pub moves : Cursor → Turn → Cursor
moves c t = record { mode = t.mode; at = plus_of c.at t.by }

-- the look ahead of a cursor, where it asks for one
abbrev pub look_of : List Event → Cursor → Event → Look
look_of es c this = cond (asks c.mode this) (look_all (Continue (look_start this)) (drop (plus_of c.at 2) es)) (look_start this)

-- the next record, where it is read, or a blank one
abbrev pub next_at : List Event → Cursor → Event
next_at es c = cond (reads c.mode.phase) (event_at es (plus_of c.at 1)) blank_event

-- the turn at a cursor, by the record at hand, the next one and the look ahead
unfoldable pub turn_here : List Event → Cursor → Turn
turn_here es c = let l = look_of es c (event_at es c.at) in turn_of c.mode (event_at es c.at) (next_at es c) l.ahead l.solid

-- the cursor after it
abbrev pub next_of : List Event → Cursor → Cursor
next_of es c = moves c (turn_here es c)

-- no table follows: the stream is at its end
abbrev pub is_over : Cursor → Event → Bool
is_over c this = is_out c.mode.phase && eqb this.kind 0

-- the same in a list
abbrev pub over_at : List Event → Cursor → Bool
over_at es c = is_over c (event_at es c.at)

-- before the table at a place
abbrev pub cursor_at : ℕ → Cursor
cursor_at i = record { mode = plain Out Part.Head; at = i }

-- the stream's start
abbrev pub front : Cursor
front = cursor_at 0

-- slots filled by turns, one each, up to the end of the stream; those behind it stay
unfoldable pub stepped : List Event → Cursor → List Event → List Event
stepped es c [] = []
stepped es c (y ∷ ys) = cond (over_at es c) (y ∷ ys) ((turn_here es c).event ∷ stepped es (next_of es c) ys)

-- how many records the stream gives, where k have come and n slots are left; none where these are too few
unfoldable pub given_to : List Event → ℕ → ℕ → Cursor → Option ℕ
given_to es k zero c = cond (over_at es c) (Some k) None
given_to es k (suc n) c = cond (over_at es c) (Some k) (given_to es (suc k) n (next_of es c))

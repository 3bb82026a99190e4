-- The cells of a row, written to slots by the places of its bytes: one piece, or one text, in each step.
use Rattle.std.specs.Prelude.{ℕ, ◌+◌, List, ◌∷◌, ◌++◌, Bool, true, false, cond, ◌||◌, ◌&&◌, not, eqb, length, drop, Option, Some, None}
use Rattle.tokenizer.specs.declared.event.Point.{Point}
use Rattle.tokenizer.specs.declared.event.Event.{Event}
use Rattle.tokenizer.specs.Lines.{line_body}
use Rattle.tokenizer.specs.Moves.{rest_of}
use Rattle.tokenizer.specs.Points.{past}
use Rattle.tokenizer.specs.Slots.{past_if, event_if, wrote}
use Rattle.tokenizer.specs.Events.{Data, GfmTableCell, GfmTableCellText, GfmTableDelimiterCell, GfmTableDelimiterCellValue, SpaceOrTab, number, enter, leave}
use Rattle.gfm_table.specs.declared.stream.Part.{Part}
use Rattle.gfm_table.specs.declared.stream.Part.TheVariants.{Head, Delimiter, Body}
use Rattle.gfm_table.specs.declared.rows.Placed.{Placed}
use Rattle.gfm_table.specs.declared.rows.Reached.{Reached}
use Rattle.gfm_table.specs.Rows.{Passed, passed}
use Rattle.gfm_table.specs.Stream.{pieces_of}
use Rattle.gfm_table.specs.Places.{point_in, next_at}
use Rattle.edit_map.specs.declared.cell_steps.Within.{Within}
use Rattle.edit_map.specs.declared.cell_steps.Step.{Step}
use Rattle.edit_map.specs.Base.{is_text_name}
use Rattle.edit_map.specs.Tables.{cells, row_inner, delimiter_inner, cell_events}
use Rattle.edit_map.specs.Cells.{last_ahead, cell_opened}
use Rattle.edit_map.specs.Spans.{opens_at, text_next, pieces_from}

-- ## The two kinds of rows

-- the name of a row's cells
abbrev pub cell_of : Part → ℕ
cell_of Head = GfmTableCell
cell_of Delimiter = GfmTableDelimiterCell
cell_of Body = GfmTableCell

-- the name of what encloses a cell's text or value
abbrev pub value_of : Part → ℕ
value_of Head = GfmTableCellText
value_of Delimiter = GfmTableDelimiterCellValue
value_of Body = GfmTableCellText

-- the events inside a row's cell
abbrev pub inside_of : Part → List Passed → List Event
inside_of Head = row_inner
inside_of Delimiter = delimiter_inner
inside_of Body = row_inner

-- ## One step

module _ (kind : ℕ → ℕ) where
  -- where a cell's text is left that has reached the end of a piece
  abbrev pub text_left : List ℕ → Placed → Event
  text_left s x = let p = point_in 0 x.end x.column in (last_ahead (record { entry = enter Data p; exit = leave Data p }) (passed p (pieces_from kind s x.end))).exit

  -- a piece, or the whole text that it begins
  abbrev pub reach_of : List ℕ → Placed → Placed
  reach_of s x = cond (eqb (number x.name) Data) (record { name = x.name; end = (text_left s x).index; column = (text_left s x).column }) x

-- the step over the piece x: whether it opens a cell, whether a further mark comes, and where the step ends
abbrev pub step_from : Within → Placed → Bool → Bool → Placed → Step
step_from w x opens more y =
    let t = is_text_name (number x.name) in
    let d = eqb (number x.name) Data in
    record {
      at = w.at;
      column = w.column;
      slot = w.slot;
      name = x.name;
      linked = d;
      opens = opens;
      enters = t && (d || w.waits);
      leaves = t && not more;
      end = y.end;
      stop = y.column;
      seen = w.seen || not (eqb (number x.name) SpaceOrTab);
      waits = opens || (w.waits && not t);
    }

-- the step over a piece, if there is one
abbrev pub step_over : (ℕ → ℕ) → List ℕ → Within → Option Placed → Option Step
step_over kind s w None = None
step_over kind s w (Some x) =
    let n = number x.name in
    Some (step_from w x (opens_at kind s w.seen n x.end) ((is_text_name n && not (eqb n Data)) && text_next kind (line_body (drop x.end s))) (reach_of kind s x))

-- the step over the next piece of a row, if one is left
unfoldable pub step_of : (ℕ → ℕ) → List ℕ → Part → Within → Option Step
step_of kind s part w = step_over kind s w (next_at w.at w.column (pieces_of kind part (line_body (drop w.at s))))

-- the slot behind a step's events
abbrev pub next_of : Step → ℕ
next_of x = past_if x.leaves (past_if x.enters (past_if x.opens (past_if x.opens x.slot)) + 2)

-- before the first step of a row whose first cell is entered in the slot k
abbrev pub first_within : ℕ → ℕ → Within
first_within i k = record { at = i; column = 1; slot = k + 1; seen = false; waits = true }

-- behind a step, k the next slot
abbrev pub behind : ℕ → Step → Within
behind k x = record { at = x.end; column = x.stop; slot = k; seen = x.seen; waits = x.waits }

-- where a step starts, in the line l
abbrev pub start_of : ℕ → Step → Point
start_of l x = point_in l x.at x.column

-- where it ends
abbrev pub stop_of : ℕ → Step → Point
stop_of l x = point_in l x.end x.stop

-- the entry of a step's piece
abbrev pub entry_in : ℕ → Step → Event
entry_in l x = record { kind = 1; name = number x.name; line = l; column = x.column; index = x.at; vs = 0; link = cond x.linked 1 0 }

-- the events of a step: a cell is left and one is entered, a text or value is entered, the piece is entered and left, the text or value is left
abbrev pub step_events : Part → ℕ → Step → List Event
step_events part l x =
    cell_opened (cell_of part) x.opens (start_of l x) ++ (event_if x.enters (enter (value_of part) (start_of l x)) ++ (entry_in l x ∷ leave (number x.name) (stop_of l x) ∷ event_if x.leaves (leave (value_of part) (stop_of l x))))

-- the slots with them
abbrev pub step_put : Part → ℕ → Step → List Event → List Event
step_put part l x zs = wrote x.slot (step_events part l x) zs

-- ## A row

module _ (kind : ℕ → ℕ) where
  -- the events of a row's cells from a point on
  abbrev pub cells_at : List ℕ → Part → Point → List Event
  cells_at s part p = cell_events (cell_of part) (inside_of part) (past p (rest_of s p)) (cells false (passed p (pieces_of kind part (rest_of s p))))

  -- where they end that are written from the slot k on
  abbrev pub cells_end : List ℕ → Part → Point → ℕ → Reached
  cells_end s part p k =
      let e = past p (rest_of s p) in
      record { at = e.index; column = e.column; slot = k + length (cells_at s part p) }

  -- the slots with these events
  abbrev pub cells_wrote : List ℕ → Part → Point → ℕ → List Event → List Event
  cells_wrote s part p k zs = wrote k (cells_at s part p) zs

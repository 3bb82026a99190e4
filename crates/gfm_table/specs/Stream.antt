-- The raw events of a head or a row, one at a time.
use Rattle.std.specs.Prelude.{ℕ, zero, suc, ◌≤◌, List, [], ◌∷◌, false, cond, eqb, drop, Option, Some, None}
use Rattle.tokenizer.specs.declared.event.Point.{Point}
use Rattle.tokenizer.specs.declared.event.Event.{Event}
use Rattle.tokenizer.specs.Points.{past, next_line}
use Rattle.tokenizer.specs.Events.{LineEnding, GfmTableHead, GfmTableRow, GfmTableDelimiterRow, blank_event, number, named, enter, leave}
use Rattle.tokenizer.specs.Lines.{end_at}
use Rattle.tokenizer.specs.Moves.{rest_of, Inside}
use Rattle.gfm_table.specs.declared.stream.Part.{Part}
use Rattle.gfm_table.specs.declared.stream.Part.TheVariants.{Head, Delimiter, Body}
use Rattle.gfm_table.specs.declared.stream.Pieced.{Pieced}
use Rattle.gfm_table.specs.declared.stream.Cursor.{Cursor}
use Rattle.gfm_table.specs.declared.stream.Cursor.TheVariants.{Begin, Enter, Between, Entered, Ended, Broken}
use Rattle.gfm_table.specs.declared.stream.Stepped.{Stepped}
use Rattle.gfm_table.specs.Rows.{Piece, row_pieces, delimiter_pieces}

-- the name of a row
abbrev pub name_of : Part → ℕ
name_of Head = GfmTableRow
name_of Delimiter = GfmTableDelimiterRow
name_of Body = GfmTableRow

-- the pieces of a row
abbrev pub pieces_of : (ℕ → ℕ) → Part → List ℕ → List Piece
pieces_of kind Head u = row_pieces kind false u
pieces_of kind Delimiter u = delimiter_pieces kind u
pieces_of kind Body u = row_pieces kind false u

-- the first of some pieces: its name and its end
abbrev pub first_of : Point → List Piece → Option Pieced
first_of p [] = None
first_of p (x ∷ xs) = Some (record { name = named x.name; end = past p x.text })

-- the next piece of a row at a point
abbrev pub piece_at : (ℕ → ℕ) → List ℕ → Part → Point → Option Pieced
piece_at kind s t p = first_of p (pieces_of kind t (rest_of s p))

-- between two pieces the next is entered, or the row is left
abbrev pub between_of : Part → Point → Option Pieced → Stepped
between_of t p (Some x) = record { event = enter (number x.name) p; next = Entered t (number x.name) x.end }
between_of t p None = record { event = leave (name_of t) p; next = Ended t p }

-- nothing more comes from a point on
abbrev pub over_at : Point → Stepped
over_at p = record { event = blank_event; next = Ended Body p }

-- after a head line, whose line end has n bytes, the line end is entered
abbrev pub break_of : Point → ℕ → Stepped
break_of p n = cond (eqb n 0) (over_at p) (record { event = enter LineEnding p; next = Broken Delimiter (next_line p n) })

-- after a row: a head line is followed by its delimiter row, and that by the head's exit
abbrev pub ended_of : List ℕ → Part → Point → Stepped
ended_of s Head p = break_of p (end_at (drop p.index s))
ended_of s Delimiter p = record { event = leave GfmTableHead p; next = Ended Body p }
ended_of s Body p = over_at p

module _ (kind : ℕ → ℕ) where
  -- the next event, and the cursor after it
  abbrev pub step_of : List ℕ → Cursor → Stepped
  step_of s (Begin p) = record { event = enter GfmTableHead p; next = Enter Head p }
  step_of s (Enter t p) = record { event = enter (name_of t) p; next = Between t p }
  step_of s (Between t p) = between_of t p (piece_at kind s t p)
  step_of s (Entered t n p) = record { event = leave n p; next = Between t p }
  step_of s (Ended t p) = ended_of s t p
  step_of s (Broken t p) = record { event = leave LineEnding p; next = Enter t p }

  -- the events of n steps
  unfoldable pub gave : List ℕ → ℕ → Cursor → List Event
  gave s zero c = []
  gave s (suc n) c = (step_of s c).event ∷ gave s n (step_of s c).next

-- a cursor whose point lies in the sheet, if it is to move
abbrev pub Good : List ℕ → Cursor → Type 0
Good s (Begin p) = Inside s p
Good s (Enter t p) = Inside s p
Good s (Between t p) = Inside s p
Good s (Entered t n p) = Inside s p
Good s (Ended Head p) = Inside s p
Good s (Ended Delimiter p) = 0 ≤ 0
Good s (Ended Body p) = 0 ≤ 0
Good s (Broken t p) = Inside s p

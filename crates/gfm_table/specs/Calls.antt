-- What `head` and `row` answer, and what they leave in the raw slots.
use Rattle.std.specs.Prelude.{ℕ, List, [], Bool, cond, eqb, ltb, length, Result}
use Rattle.tokenizer.specs.declared.event.Point.{Point}
use Rattle.tokenizer.specs.declared.event.Event.{Event}
use Rattle.tokenizer.specs.declared.refusal.Refusal.{Refusal}
use Rattle.tokenizer.specs.Points.{past}
use Rattle.tokenizer.specs.Refusals.{answered}
use Rattle.tokenizer.specs.Slots.{slots_of}
use Rattle.tokenizer.specs.Lines.{starts_line, line_number, blank}
use Rattle.tokenizer.specs.Moves.{rest_of, line_at, after}
use Rattle.gfm_table.specs.declared.stream.Part.TheVariants.{Body}
use Rattle.gfm_table.specs.declared.stream.Cursor.TheVariants.{Begin, Enter}
use Rattle.gfm_table.specs.declared.calls.HeadCounts.{HeadCounts}
use Rattle.gfm_table.specs.declared.calls.RowCounts.{RowCounts}
use Rattle.gfm_table.specs.declared.calls.Plan.{Plan}
use Rattle.gfm_table.specs.Rows.{raw_row}
use Rattle.gfm_table.specs.Heads.{head_refusal}
use Rattle.gfm_table.specs.Raw.{text_row, head_events}
use Rattle.gfm_table.specs.Answers.{opened_at}

-- ## Questions

-- questions 1 and 2: the number of the first "no", or 0
abbrev pub place_refusal : List ℕ → ℕ → ℕ
place_refusal s i = cond (ltb 65536 (length s)) 1 (cond (starts_line s i) 0 2)

-- questions 5 and 8 of a row
abbrev pub line_refusal : (ℕ → ℕ) → Bool → List ℕ → ℕ
line_refusal kind lazy u = cond lazy 5 (cond (blank kind u) 8 0)

-- question 9, with n slots for some events
abbrev pub slot_refusal : ℕ → List Event → ℕ
slot_refusal n xs = cond (ltb n (length xs)) 9 0

-- the first of two numbers that is not 0
abbrev pub or_else : ℕ → ℕ → ℕ
or_else a b = cond (eqb a 0) b a

-- the point where a line starts
abbrev pub point_at : List ℕ → ℕ → Point
point_at s i = record { line = line_number s i; column = 1; index = i; vs = 0 }

-- ## Heads

-- the events of a head at a point
abbrev pub head_events_at : (ℕ → ℕ) → List ℕ → Point → List Event
head_events_at kind s p = head_events kind p (line_at s p) (line_at s (after s p))

module _ (kind : ℕ → ℕ) (s : List ℕ) (i : ℕ) (on stray : Bool) (n : ℕ) where
  -- the number of the first question that a head at an offset gets a "no" to, or 0
  abbrev pub head_number : ℕ
  head_number =
      or_else (place_refusal s i)
      (or_else (head_refusal kind on stray (line_at s (point_at s i)) (line_at s (after s (point_at s i))))
      (slot_refusal n (head_events_at kind s (point_at s i))))

  -- of an accepted one: the number of events, where the delimiter row ends, and the cells
  abbrev pub head_counts : HeadCounts
  head_counts =
      record {
        events = length (head_events_at kind s (point_at s i));
        end = (opened_at kind s (point_at s i)).end.index;
        cells = (opened_at kind s (point_at s i)).cells;
      }

  -- the answer
  abbrev pub head_of : Result HeadCounts Refusal
  head_of = answered head_number head_counts

  -- the raw slots: the events and then blanks, or blanks
  abbrev pub head_slots : List Event
  head_slots = slots_of n (cond (eqb head_number 0) (head_events_at kind s (point_at s i)) [])

  -- the answer, with where the events come from
  abbrev pub head_plan : Result (Plan HeadCounts) Refusal
  head_plan = answered head_number (record { answer = head_counts; cursor = Begin (point_at s i) })

-- ## Rows

-- the events of a row at a point
abbrev pub row_events_at : (ℕ → ℕ) → List ℕ → Point → List Event
row_events_at kind s p = raw_row (text_row kind p (rest_of s p))

module _ (kind : ℕ → ℕ) (s : List ℕ) (i : ℕ) (lazy : Bool) (n : ℕ) where
  -- the number of the first question that a row at an offset gets a "no" to, or 0
  abbrev pub row_number : ℕ
  row_number = or_else (place_refusal s i) (or_else (line_refusal kind lazy (rest_of s (point_at s i))) (slot_refusal n (row_events_at kind s (point_at s i))))

  -- of an accepted one: the number of events, and where the row ends
  abbrev pub row_counts : RowCounts
  row_counts = record { events = length (row_events_at kind s (point_at s i)); end = (past (point_at s i) (rest_of s (point_at s i))).index }

  -- the answer
  abbrev pub row_of : Result RowCounts Refusal
  row_of = answered row_number row_counts

  -- the raw slots: the events and then blanks, or blanks
  abbrev pub row_slots : List Event
  row_slots = slots_of n (cond (eqb row_number 0) (row_events_at kind s (point_at s i)) [])

  -- the answer, with where the events come from
  abbrev pub row_plan : Result (Plan RowCounts) Refusal
  row_plan = answered row_number (record { answer = row_counts; cursor = Enter Body (point_at s i) })

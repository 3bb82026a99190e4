-- The edits that the Rust's `resolve` adds, turn by turn as its loop goes.
use Rattle.std.specs.Prelude.{ℕ, suc, ◌+◌, ◌-◌, List, [], ◌∷◌, ◌++◌, Bool, true, false, cond, ◌||◌, ◌&&◌, not, eqb, ltb, length}
use Rattle.std.proofs.Math.Option.{Option, none, some}
use Rattle.tokenizer.specs.declared.event.Event.{Event}
use Rattle.tokenizer.specs.Slots.{event_at}
use Rattle.tokenizer.specs.Events.{GfmTable, GfmTableBody, GfmTableHead, GfmTableCell, GfmTableCellText, GfmTableCellDivider, GfmTableDelimiterRow, GfmTableDelimiterCell, GfmTableDelimiterCellValue, enter, leave, linked, point_of}
use Rattle.edit_order.specs.declared.edit_slots.Edit.{Edit}
use Rattle.edit_map.specs.Base.{is_row_name, is_text_name}
use Rattle.edit_order.specs.Edits.{edited_list}

-- what the loop does to the map and the events: `map.add`, with a position, a number removed and the events added; or the text link set on the event at a position
pub data Deed : Type 0 where
  add : ℕ → ℕ → List Event → Deed
  link : ℕ → Deed

-- a cell's 4-tuple: where the cell before it is left, where it starts, where its first value is entered, where its last is left; 0 for none
pub record Span : Type 0 where
  pub before : ℕ
  pub start : ℕ
  pub from : ℕ
  pub upto : ℕ

-- no cell
abbrev pub no_span : Span
no_span = record { before = 0; start = 0; from = 0; upto = 0 }

-- the loop's variables: in_first_cell_awaiting_pipe, in_row, in_delimiter_row, last_cell, cell, after_head_awaiting_first_body_row, last_table_end, last_table_has_body
pub record Loop : Type 0 where
  pub awaits : Bool
  pub in_row : Bool
  pub delimiter : Bool
  pub last : Span
  pub cell : Span
  pub body_next : Bool
  pub table_end : ℕ
  pub has_body : Bool

-- before the first turn
abbrev pub begin : Loop
begin = record { awaits = true; in_row = false; delimiter = false; last = no_span; cell = no_span; body_next = false; table_end = 0; has_body = false }

-- a row's variables changed
abbrev pub in_cells : Bool → Span → Span → Loop → Loop
in_cells a l c s = record { awaits = a; in_row = s.in_row; delimiter = s.delimiter; last = l; cell = c; body_next = s.body_next; table_end = s.table_end; has_body = s.has_body }

-- a turn: the variables after it, and what it does
pub record Did : Type 0 where
  pub loop : Loop
  pub deeds : List Deed

-- what is done if a test holds
abbrev pub if : Bool → List Deed → List Deed
if b ds = cond b ds []

-- the name of a cell, in a delimiter row or another
abbrev pub group_name : Bool → ℕ
group_name d = cond d GfmTableDelimiterCell GfmTableCell

-- the name of its value
abbrev pub value_name : Bool → ℕ
value_name d = cond d GfmTableDelimiterCellValue GfmTableCellText

-- the text link, and the events between the text's ends removed
abbrev pub flush_text : ℕ → ℕ → List Deed
flush_text a b = link a ∷ if (ltb (suc a) b) (add (suc a) (b - suc a) [] ∷ [])

module _ (list : List Event) where
  -- an event of the name n entered where the event at i stands
  abbrev pub enter_at : ℕ → ℕ → Event
  enter_at n i = enter n (point_of (event_at list i))

  -- an event of the name n left where the event at i stands
  abbrev pub leave_at : ℕ → ℕ → Event
  leave_at n i = leave n (point_of (event_at list i))

  -- the value of a cell
  abbrev pub flush_value : Bool → Span → List Deed
  flush_value d r =
      if (not (eqb r.from 0))
      (add r.from 0 (enter_at (value_name d) r.from ∷ []) ∷ (if (not d) (flush_text r.from r.upto) ++ (add (suc r.upto) 0 (leave_at (value_name d) r.upto ∷ []) ∷ [])))

  -- the cell is left at the row's end, if that is given
  abbrev pub flush_end : Bool → Option ℕ → List Deed
  flush_end d none = []
  flush_end d (some i) = add i 0 (leave_at (group_name d) i ∷ []) ∷ []

  -- `flush_cell`
  unfoldable pub flush_cell : Bool → Span → Option ℕ → List Deed
  flush_cell d r end =
      if (not (eqb r.before 0)) (add r.before 0 (leave_at (group_name d) r.before ∷ []) ∷ [])
      ++ (add r.start 0 (enter_at (group_name d) r.start ∷ []) ∷ (flush_value d r ++ flush_end d end))

  -- `flush_table_end`
  abbrev pub flush_table : ℕ → Bool → List Deed
  flush_table i body = add (suc i) 0 (cond body (leave_at GfmTableBody i ∷ leave_at GfmTable i ∷ []) (leave_at GfmTable i ∷ [])) ∷ []

  -- the end of the last table, if one is open
  abbrev pub flush_open : Loop → List Deed
  flush_open s = if (not (eqb s.table_end 0)) (flush_table s.table_end s.has_body)

  -- a head's entry
  abbrev pub enter_head : ℕ → Loop → Did
  enter_head i s = record {
    loop = record { awaits = s.awaits; in_row = s.in_row; delimiter = s.delimiter; last = s.last; cell = s.cell; body_next = false; table_end = 0; has_body = eqb s.table_end 0 && s.has_body };
    deeds = flush_open s ++ (add i 0 (enter_at GfmTable i ∷ []) ∷ []);
  }

  -- a row's entry
  abbrev pub enter_row : ℕ → Bool → Loop → Did
  enter_row i d s = record {
    loop = record { awaits = true; in_row = true; delimiter = d; last = no_span; cell = record { before = 0; start = suc i; from = 0; upto = 0 }; body_next = false; table_end = s.table_end; has_body = s.body_next || s.has_body };
    deeds = if s.body_next (add i 0 (enter_at GfmTableBody i ∷ []) ∷ []);
  }

  -- the last cell is flushed, if there is one
  abbrev pub flush_last : Loop → List Deed
  flush_last s = if (not (eqb s.last.start 0)) (flush_cell s.delimiter s.last none)

  -- and this cell is known to leave it where it starts itself
  abbrev pub leaving : Loop → Span
  leaving s = record { before = cond (eqb s.last.start 0) s.cell.before s.cell.start; start = s.cell.start; from = s.cell.from; upto = s.cell.upto }

  -- a text piece's entry: a cell's first value flushes the cell before
  abbrev pub enter_text : ℕ → Loop → Did
  enter_text i s =
      cond (eqb s.cell.from 0)
      (record { loop = in_cells false (cond (eqb s.last.start 0) s.last no_span) (record { before = (leaving s).before; start = s.cell.start; from = i; upto = s.cell.upto }) s; deeds = flush_last s })
      (record { loop = in_cells false s.last s.cell s; deeds = [] })

  -- a divider's entry: the first of a row stays in the first cell, another may open a cell
  abbrev pub enter_divider : ℕ → Loop → Did
  enter_divider i s =
      cond s.awaits
      (record { loop = in_cells false s.last s.cell s; deeds = [] })
      (record { loop = in_cells s.awaits (leaving s) (record { before = s.cell.start; start = i; from = 0; upto = 0 }) s; deeds = flush_last s })

  -- a head's exit
  abbrev pub leave_head : ℕ → Loop → Did
  leave_head i s = record {
    loop = record { awaits = s.awaits; in_row = s.in_row; delimiter = s.delimiter; last = s.last; cell = s.cell; body_next = true; table_end = i; has_body = s.has_body };
    deeds = [];
  }

  -- a row's exit: the last cell that is known to be one is flushed to the row's end
  abbrev pub leave_row : ℕ → Loop → Did
  leave_row i s = record {
    loop = record { awaits = s.awaits; in_row = false; delimiter = s.delimiter; last = s.last; cell = leaving s; body_next = s.body_next; table_end = i; has_body = s.has_body };
    deeds = cond (eqb s.last.start 0) (if (not (eqb s.cell.start 0)) (flush_cell s.delimiter s.cell (some i))) (flush_cell s.delimiter s.last (some i));
  }

  -- a text piece's exit
  abbrev pub leave_text : ℕ → Loop → Did
  leave_text i s = record { loop = in_cells s.awaits s.last (record { before = s.cell.before; start = s.cell.start; from = s.cell.from; upto = i }) s; deeds = [] }

  -- nothing is done
  abbrev pub stays : Loop → Did
  stays s = record { loop = s; deeds = [] }

  -- one turn, at the event of the kind k and the name n at i
  unfoldable pub turn : ℕ → ℕ → ℕ → Loop → Did
  turn i k n s =
      cond (eqb k 1)
      (cond (eqb n GfmTableHead) (enter_head i s)
      (cond (is_row_name n) (enter_row i (eqb n GfmTableDelimiterRow) s)
      (cond (s.in_row && is_text_name n) (enter_text i s)
      (cond (eqb n GfmTableCellDivider) (enter_divider i s) (stays s)))))
      (cond (eqb n GfmTableHead) (leave_head i s)
      (cond (is_row_name n) (leave_row i s)
      (cond (s.in_row && is_text_name n) (leave_text i s) (stays s))))

  -- the turns from position i on, and the end of the last table
  unfoldable pub deeds_from : ℕ → List Event → Loop → List Deed
  deeds_from i [] s = flush_open s
  deeds_from i (e ∷ es) s = (turn i e.kind e.name s).deeds ++ deeds_from (suc i) es (turn i e.kind e.name s).loop

-- ## As edits of the edit map

-- the events added
unfoldable pub pool_of : List Deed → List Event
pool_of [] = []
pool_of (add i k es ∷ ds) = es ++ pool_of ds
pool_of (link i ∷ ds) = pool_of ds

-- the edits, whose additions begin at n in the pool
unfoldable pub edits_from : ℕ → List Deed → List Edit
edits_from n [] = []
edits_from n (add i k es ∷ ds) = record { at = i; removes = k; from = n; adds = length es; before = 0 } ∷ edits_from (n + length es) ds
edits_from n (link i ∷ ds) = edits_from n ds

-- whether the event at i gets the text link
unfoldable pub is_linked : ℕ → List Deed → Bool
is_linked i [] = false
is_linked i (add j k es ∷ ds) = is_linked i ds
is_linked i (link j ∷ ds) = eqb i j || is_linked i ds

-- the events from position i on, with their links
unfoldable pub link_all : List Deed → ℕ → List Event → List Event
link_all ds i [] = []
link_all ds i (e ∷ es) = cond (is_linked i ds) (linked e) e ∷ link_all ds (suc i) es

-- what the edit map makes of a list under these edits
abbrev pub by_edits : List Event → List Event
by_edits es = let ds = deeds_from es 0 es begin in edited_list (link_all ds 0 es) (pool_of ds) (edits_from 0 ds)

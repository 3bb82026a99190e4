-- A walk over list, edits and pool: what its steps need and tell, and the records that are still to come, as an iterator shows them.
use Rattle.std.specs.Prelude.{List, length, Option}
use Rattle.std.specs.Iterator.{YieldsFirst}
use Rattle.tokenizer.specs.declared.event.Event.{Event}
use Rattle.edit_order.specs.EditSlots.{edits_of}
use Rattle.edit_map.specs.declared.edit_walk.Cursor.{Cursor}
use Rattle.edit_map.specs.declared.edit_walk.Stepped.{Stepped}
use Rattle.edit_map.specs.declared.edit_walk.Walk.{Walk}
use Rattle.edit_map.specs.declared.edit_walk.Records.{Records}
use Rattle.edit_map.specs.EditCursor.{to_come, Ordered, Steps}

-- the records that are left
abbrev pub left_of : Records → List Event
left_of r = to_come r.walk.list.now r.walk.pool.now (edits_of r.walk.edits.now) r.cursor

-- the edits of a walk rise and fit, and a cursor is within them
abbrev pub Fits : Walk → Cursor → Type 0
Fits w c = Ordered (length w.list.now) (length w.pool.now) (edits_of w.edits.now) c

-- what a step of a walk tells of what is still to come
abbrev pub Tells : Walk → Cursor → Stepped → Type 0
Tells w c s = Steps w.list.now w.pool.now (edits_of w.edits.now) c s

-- what the iterator needs to give the next
abbrev pub CanGive : Records → Type 0
CanGive r = Fits r.walk r.cursor

-- the first of the records that are left, if any is, and then the others; the iterator may go on
abbrev pub Gives : Records → Option Event → Records → Type 0
Gives r x t = CanGive t × YieldsFirst left_of r x t

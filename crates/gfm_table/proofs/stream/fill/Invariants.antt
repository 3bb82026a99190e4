-- The events so far and those that are to come make all that come.
use Rattle.std.proofs.Common.{◌≡◌, ◌-◌, ◌++◌, length, take}
use Rattle.tokenizer.specs.Bytes.{kind_in}
use Rattle.gfm_table.specs.Stream.{gave, Good}
use Rattle.gfm_table.proofs.stream.fill.Given as goal

abbrev pub invariant-loop-slot : goal.invariant-loop-slot
invariant-loop-slot g l =
    let gives = gave (kind_in l.text.kinds.now) l.text.bytes.now in
    let n = length l.initial.slots in
    Good l.text.bytes.now l.cursor × (gives n l.initial.cursor ≡ take l.slot-index l.slots ++ gives (n - l.slot-index) l.cursor)

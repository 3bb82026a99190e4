-- The slots up to a place are written, and what the stream makes of the rest is what it makes of all.
use Rattle.std.proofs.Common.{◌≡◌, ◌-◌, ◌++◌, length, take, drop}
use Rattle.edit_map.specs.Cursors.{stepped, given_to}
use Rattle.edit_map.proofs.resolve.fill.Given as goal

abbrev pub invariant-loop-i : goal.invariant-loop-i
invariant-loop-i l =
    (l.stream.list.now ≡ l.initial.stream.list.now)
    × (take l.i l.results ++ stepped l.stream.list.now l.stream.cursor (drop l.i l.results) ≡ stepped l.initial.stream.list.now l.initial.stream.cursor l.initial.results)
    × (given_to l.stream.list.now l.i (length l.initial.results - l.i) l.stream.cursor ≡ given_to l.initial.stream.list.now 0 (length l.initial.results) l.initial.stream.cursor)

-- `input::fill`: what is read lies within the text. The measure is the room left.
use Rattle.std.proofs.Common.{length, ◌-◌, ◌≤◌}
use Rattle.protocol.proofs.input.fill.Given as goal

abbrev pub invariant-loop-done : goal.invariant-loop-done
invariant-loop-done g l = l.done ≤ length l.text

abbrev pub decreases-loop-done : goal.decreases-loop-done
decreases-loop-done g l = length l.initial.text - l.done

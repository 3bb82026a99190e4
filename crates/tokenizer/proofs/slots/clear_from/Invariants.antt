-- What is left to clear makes of the slots what clearing makes of them as they came.
use Rattle.std.proofs.Common.{◌≡◌}
use Rattle.tokenizer.specs.Slots.{cleared}
use Rattle.tokenizer.proofs.slots.clear_from.Given as goal

abbrev pub invariant-loop-i : goal.invariant-loop-i
invariant-loop-i g l = cleared l.blank l.i l.slots ≡ cleared l.blank l.n l.initial.slots

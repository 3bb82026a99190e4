-- `replay::parts`: what is kept lies within the text.
use Rattle.std.proofs.Common.{length, ◌≤◌}
use Rattle.protocol.proofs.replay.parts.Given as goal

abbrev pub invariant-loop : goal.invariant-loop
invariant-loop g l = l.n ≤ length l.text

-- What is found and what the entries that are left add make the tally.
use Rattle.std.proofs.Common.{◌≡◌, drop}
use Rattle.tokenizer.specs.Tallies.{tallied, no_tally, Few}
use Rattle.tokenizer.proofs.kinds.Tally.of.Given as goal

abbrev pub invariant-loop-b : goal.invariant-loop-b
invariant-loop-b l = Few l.t l.b × (tallied l.t l.b (drop l.b l.kinds) ≡ tallied no_tally 0 l.kinds)

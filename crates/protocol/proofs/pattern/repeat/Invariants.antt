-- `pattern::repeat`: each byte before the place is the pattern's.
use Rattle.std.proofs.Common.{◌≡◌, ◌<◌, ◌%◌, length, get_or, ℕ}
use Rattle.protocol.proofs.pattern.repeat.Given as goal

abbrev pub invariant-loop-i : goal.invariant-loop-i
invariant-loop-i l = (k : ℕ) → k < l.i → get_or l.text k 0 ≡ get_or l.pattern (k % length l.pattern) 0

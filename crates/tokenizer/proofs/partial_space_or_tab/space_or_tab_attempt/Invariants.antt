-- What is left of the run ends where the whole run ends.
use Rattle.std.proofs.Common.{◌≡◌, ◌+◌, ◌-◌, ◌≤◌}
use Rattle.tokenizer.specs.Spaces.{spaces_past, space_units, Reading}
use Rattle.tokenizer.proofs.partial_space_or_tab.space_or_tab_attempt.Given as goal

abbrev pub invariant-loop-q : goal.invariant-loop-q
invariant-loop-q l =
    Reading l.s l.q × (l.left ≤ l.max) × (spaces_past l.s l.left l.q.point ≡ spaces_past l.s l.max l.fn.f.point)
    × (l.max - l.left + space_units l.s l.left l.q.point ≡ space_units l.s l.max l.fn.f.point)

abbrev pub decreases-loop-q : goal.decreases-loop-q
decreases-loop-q l = l.left

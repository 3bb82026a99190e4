-- What is left to read comes to what the whole scan comes to.
use Rattle.std.proofs.Common.{◌≡◌, drop}
use Rattle.edit_map.specs.AlignSteps.{scan_all, scan_of}
use Rattle.edit_map.proofs.infer.scan.Given as goal

abbrev pub invariant-loop-e : goal.invariant-loop-e
invariant-loop-e g l = scan_all g.off l.cur (drop l.e-index l.e-items) ≡ scan_of l.list g.off l.fn.s

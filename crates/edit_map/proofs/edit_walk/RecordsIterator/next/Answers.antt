-- The next record meets its contract: a step that gives none keeps what is still to come, and there are only so many.
-- Assumes nothing.
use mathlib.Core.Path.{ap}
use lib.ListN.{length}
use native.Mathlib.Omega.{arith}
use Rattle.edit_map.proofs.EditMoves.{next_given, next-end}
use Rattle.edit_map.proofs.edit_walk.RecordsIterator.next.Goals as goal

pub returns-in-Gives-clause-steps : goal.returns-in-Gives-clause-steps
returns-in-Gives-clause-steps c = rw c.loop-e.invariant.1 (next_given c.loop-e.invariant.0 _ _ c.in-Gives.ensures)

pub returns-in-Gives-clause-goes : goal.returns-in-Gives-clause-goes
returns-in-Gives-clause-goes c =
    let g = next_given c.loop-e.invariant.0 _ _ c.in-Gives.ensures in
    rw c.loop-e.invariant.1 (record { on = λ f. (g.0, tt, omega (arith, ap length g.1)); keeps = g.0; rests = λ f. tt })

pub returns-in-End-clause-steps : goal.returns-in-End-clause-steps
returns-in-End-clause-steps c =
    let w = c.loop-e.invariant.0 in
    rw c.loop-e.invariant.1 (w.ready, (next-end w c.in-End.ensures, c.in-End.ensures))

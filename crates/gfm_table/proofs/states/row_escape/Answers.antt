-- `states::row_escape` meets its contract.
-- Assumes nothing.
use mathlib.Core.Path.{ap}
use mathlib.Core.Logic.{⊎_elim}
use native.Mathlib.Omega.{arith}
use borrow.Author.Rules.{rules}
use lib.ListN.{length, drop}
use Rattle.tokenizer.specs.declared.kinds.Kind.TheVariants.{Pipe, Backslash}
use Rattle.gfm_table.proofs.KindsAhead.{front_at, ahead_not}
use Rattle.gfm_table.proofs.Stops.{escape_stops}
use Rattle.gfm_table.proofs.Passing.{escape_one}
use Rattle.gfm_table.proofs.states.row_escape.Goals as goal

pub returns-in-Pipe : goal.returns-in-Pipe
returns-in-Pipe g c =
    let t = c.args.text.now in
    let here = front_at t.passes.reads t.bytes.now c.args.at c.kind_at.result c.kind_at.ensures in
    ⊎_elim
    (λ e. omega (arith, escape_one t.passes.reads _ _ 3 (here Pipe e (λ z. omega arith)) (omega arith) (omega arith)))
    (λ e. omega (arith, escape_one t.passes.reads _ _ 4 (here Backslash e (λ z. omega arith)) (omega arith) (omega arith)))
    c.in-Pipe.is

pub returns-in_default : goal.returns-in_default
returns-in_default g c =
    let t = c.args.text.now in
    let other = ahead_not t.passes.reads t.bytes.now c.args.at c.kind_at.result c.kind_at.ensures in
    omega (arith, ap length (escape_stops t.passes.reads (drop c.args.at t.bytes.now) (other Pipe (search rules)) (other Backslash (search rules))))

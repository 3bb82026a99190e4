-- `stretch_ends` meets its contract.
-- Assumes nothing.
use mathlib.Core.Path.{sym, ◌∙◌}
use mathlib.Core.Logic.{⊎_elim}
use native.Mathlib.Omega.{arith}
use borrow.Author.Tests.{ne_eqb}
use lib.ListN.{drop}
use Rattle.tokenizer.specs.declared.kinds.Kind.TheVariants.{End, Pipe}
use Rattle.gfm_table.proofs.KindsAhead.{ahead_is, front_at, front, apart_kinds}
use Rattle.gfm_table.proofs.Delimiters.{ends_two, ends-front}
use Rattle.gfm_table.proofs.delimiter.stretch_ends.Goals as goal

pub returns-in-End : goal.returns-in-End
returns-in-End g c =
    let t = c.args.text.now in
    let i = c.args.p.index in
    ⊎_elim
    (λ e. ends_two t.passes.reads (drop i t.bytes.now) (sym (ahead_is t.passes.reads t.bytes.now i c.ahead.result c.ahead.ensures End e)))
    (λ e. ends-front t.passes.reads t.bytes.now i 3 (front_at t.passes.reads t.bytes.now i c.ahead.result c.ahead.ensures Pipe e (λ z. omega arith)))
    c.in-End.is

pub returns-in_default : goal.returns-in_default
returns-in_default g c =
    let t = c.args.text.now in
    let k = c.ahead.result in
    sym (ne_eqb _ 3 (apart_kinds k Pipe c.in_default.not-Pipe)) ∙ ends-front t.passes.reads t.bytes.now c.args.p.index _ (front t.passes.reads t.bytes.now c.args.p.index k c.ahead.ensures c.in_default.not-End)

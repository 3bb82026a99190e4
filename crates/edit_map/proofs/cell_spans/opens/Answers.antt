-- `cell_spans::opens` meets its contract.
-- Assumes nothing.
use mathlib.Core.Path.{sym}
use Rattle.tokenizer.specs.declared.kinds.Kind.TheVariants.{End}
use Rattle.tokenizer.proofs.SameKinds.{same-numbers}
use borrow.Author.Tests.{eq-eqb}
use Rattle.edit_map.proofs.Spans.{solid_ahead}
use Rattle.edit_map.proofs.cell_spans.opens.Goals as goal

pub returns-then-name : goal.returns-then-name
returns-then-name g c =
    let t = c.args.text.now in
    rw (c.if-name.true.0, eq-eqb c.args.name 10 c.if-name.true.1, c.ne.ensures, same-numbers c.kind_at.result End, c.kind_at.ensures) (sym (solid_ahead t.passes.reads t.bytes.now c.args.end c.space_stop.result c.space_stop.ensures))

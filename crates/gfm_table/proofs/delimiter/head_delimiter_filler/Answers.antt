-- `head_delimiter_filler` meets its contract: a colon is passed over, if there is one.
-- Assumes nothing.
use mathlib.Core.Path.{◌∙◌}
use native.Mathlib.Omega.{arith}
use Rattle.tokenizer.specs.declared.kinds.Kind.TheVariants.{Colon}
use Rattle.tokenizer.proofs.Ahead.{over_inside}
use Rattle.gfm_table.proofs.KindsAhead.{front_at, ahead_not}
use Rattle.gfm_table.proofs.Delimiters.{closed-colon, closed_none}
use Rattle.gfm_table.proofs.delimiter.head_delimiter_filler.Goals as goal

pub head_delimiter_cell_after-requires : goal.head_delimiter_cell_after-requires
head_delimiter_cell_after-requires c =
    let t = c.args.text.now in
    let f = front_at t.passes.reads t.bytes.now c.args.p.index c.ahead.result c.ahead.ensures Colon c.in-Colon.is (λ z. omega arith) in
    rw c.over.ensures (over_inside _ _ 6 f c.requires)

pub returns-in-Colon : goal.returns-in-Colon
returns-in-Colon c =
    let t = c.args.text.now in
    let f = front_at t.passes.reads t.bytes.now c.args.p.index c.ahead.result c.ahead.ensures Colon c.in-Colon.is (λ z. omega arith) in
    (rw c.over.ensures at c.head_delimiter_cell_after.ensures) ∙ closed-colon t.passes.reads t.bytes.now c.args.p f

pub returns-in_default : goal.returns-in_default
returns-in_default c =
    let t = c.args.text.now in
    c.head_delimiter_cell_after-in_default.ensures
    ∙ closed_none t.passes.reads t.bytes.now c.args.p (ahead_not t.passes.reads t.bytes.now c.args.p.index c.ahead.result c.ahead.ensures Colon c.in_default.not-Colon)

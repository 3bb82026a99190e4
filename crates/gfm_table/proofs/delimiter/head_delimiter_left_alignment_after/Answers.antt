-- `head_delimiter_left_alignment_after` meets its contract: a run of hyphens, and what may follow it.
-- Assumes nothing.
use mathlib.Core.Path.{◌∙◌}
use native.Mathlib.Omega.{arith}
use Rattle.tokenizer.specs.declared.kinds.Kind.TheVariants.{Hyphen}
use Rattle.gfm_table.proofs.KindsAhead.{front_at, ahead_not}
use Rattle.gfm_table.proofs.Delimiters.{filled-inside, hyphens_value, hyphens_bad}
use Rattle.gfm_table.proofs.delimiter.head_delimiter_left_alignment_after.Goals as goal

pub head_delimiter_filler-requires : goal.head_delimiter_filler-requires
head_delimiter_filler-requires c =
    let t = c.args.text.now in
    rw c.run_end.ensures (filled-inside t.passes.reads t.bytes.now c.args.p c.requires)

pub returns-in-Hyphen : goal.returns-in-Hyphen
returns-in-Hyphen c =
    let t = c.args.text.now in
    let f = front_at t.passes.reads t.bytes.now c.args.p.index c.ahead.result c.ahead.ensures Hyphen c.in-Hyphen.is (λ z. omega arith) in
    (rw c.run_end.ensures at c.head_delimiter_filler.ensures) ∙ hyphens_value t.passes.reads t.bytes.now c.args.p f

pub returns-in_default : goal.returns-in_default
returns-in_default c =
    let t = c.args.text.now in
    hyphens_bad t.passes.reads t.bytes.now c.args.p (ahead_not t.passes.reads t.bytes.now c.args.p.index c.ahead.result c.ahead.ensures Hyphen c.in_default.not-Hyphen)

-- `head_delimiter_value_before` meets its contract: nothing but whitespace, a colon and hyphens, or hyphens.
-- Assumes nothing.
use mathlib.Core.Path.{refl, ap, sym, ◌∙◌}
use Rattle.tokenizer.specs.declared.kinds.Kind.TheVariants.{Colon}
use Rattle.tokenizer.specs.Bytes.{kind_number, kind_in}
use Rattle.tokenizer.specs.Lines.{indent}
use Rattle.tokenizer.proofs.Ahead.{run_end, over_inside}
use Rattle.gfm_table.proofs.KindsAhead.{apart_kinds}
use Rattle.gfm_table.proofs.Delimiters.{goes_in, solid-inside, cell-empty, cell-colon, cell-plain}
use Rattle.gfm_table.proofs.delimiter.head_delimiter_value_before.Goals as goal

pub returns-then-stretch_ends : goal.returns-then-stretch_ends
returns-then-stretch_ends c =
    let t = c.args.text.now in
    let e = c.space_end-q.ensures in
    rw e (cell-empty t.passes.reads t.bytes.now c.args.p c.requires (sym (rw e at c.stretch_ends.ensures) ∙ c.if-stretch_ends.true))

pub over-requires : goal.over-requires
over-requires c =
    let t = c.args.text.now in
    let e = c.space_end-q.ensures in
    let f = goes_in t.passes.reads _ _ 6 (ap kind_number (sym c.in-Colon.is) ∙ (rw e at c.ahead.ensures)) (sym (rw e at c.stretch_ends.ensures) ∙ c.if-stretch_ends.false) in
    rw e (solid-inside t.passes.reads t.bytes.now c.args.p c.requires, f.0.below)

pub head_delimiter_left_alignment_after-requires : goal.head_delimiter_left_alignment_after-requires
head_delimiter_left_alignment_after-requires c =
    let t = c.args.text.now in
    let e = c.space_end-q.ensures in
    let f = goes_in t.passes.reads _ _ 6 (ap kind_number (sym c.in-Colon.is) ∙ (rw e at c.ahead.ensures)) (sym (rw e at c.stretch_ends.ensures) ∙ c.if-stretch_ends.false) in
    rw (c.over.ensures, e) (over_inside _ _ 6 f.0 (solid-inside t.passes.reads t.bytes.now c.args.p c.requires))

pub head_delimiter_left_alignment_after-requires-in_default : goal.head_delimiter_left_alignment_after-requires-in_default
head_delimiter_left_alignment_after-requires-in_default c =
    let t = c.args.text.now in
    rw c.space_end-q.ensures (solid-inside t.passes.reads t.bytes.now c.args.p c.requires)

pub returns-in-Colon : goal.returns-in-Colon
returns-in-Colon c =
    let t = c.args.text.now in
    let e = c.space_end-q.ensures in
    let f = goes_in t.passes.reads _ _ 6 (ap kind_number (sym c.in-Colon.is) ∙ (rw e at c.ahead.ensures)) (sym (rw e at c.stretch_ends.ensures) ∙ c.if-stretch_ends.false) in
    (rw (c.over.ensures, e) at c.head_delimiter_left_alignment_after.ensures)
    ∙ cell-colon t.passes.reads t.bytes.now c.args.p 6 f.0 f.1 refl

pub returns-in_default : goal.returns-in_default
returns-in_default c =
    let t = c.args.text.now in
    let e = c.space_end-q.ensures in
    let k = c.ahead.result in
    let i = (run_end (indent (kind_in t.kinds.now)) t.bytes.now c.args.p).index in
    let f = goes_in t.passes.reads t.bytes.now i (kind_number k) (rw e at c.ahead.ensures) (sym (rw e at c.stretch_ends.ensures) ∙ c.if-stretch_ends.false) in
    (rw e at c.head_delimiter_left_alignment_after-in_default.ensures)
    ∙ cell-plain t.passes.reads t.bytes.now c.args.p _ f.0 f.1 (apart_kinds k Colon c.in_default.not-Colon)

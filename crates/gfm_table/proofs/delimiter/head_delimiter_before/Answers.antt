-- `head_delimiter_before` meets its contract: a leading divider has nothing before it.
-- Assumes nothing.
use mathlib.Core.Path.{◌∙◌}
use native.Mathlib.Omega.{arith}
use Rattle.tokenizer.specs.declared.kinds.Kind.TheVariants.{Pipe}
use Rattle.tokenizer.specs.Bytes.{kind_in}
use Rattle.tokenizer.specs.Lines.{indent}
use Rattle.tokenizer.proofs.Ahead.{run_end, over_inside}
use Rattle.tokenizer.proofs.SameKinds.{same_front, other_number}
use Rattle.gfm_table.proofs.Delimiters.{solid-inside}
use Rattle.gfm_table.proofs.Stretches.{values_led_at, values_plain_at}
use Rattle.gfm_table.proofs.delimiter.head_delimiter_before.Goals as goal

pub over-requires : goal.over-requires
over-requires c =
    let t = c.args.text.now in
    let i = (run_end (indent (kind_in t.kinds.now)) t.bytes.now c.args.p).index in
    let f = same_front t.passes.reads t.bytes.now i c.ahead.result Pipe (rw c.space_end-q.ensures at c.ahead.ensures) c.eq.ensures c.if-eq.true (λ z. omega arith) in
    rw c.space_end-q.ensures (solid-inside t.passes.reads t.bytes.now c.args.p c.requires, f.below)

pub head_delimiter_cells-requires : goal.head_delimiter_cells-requires
head_delimiter_cells-requires c =
    let t = c.args.text.now in
    let i = (run_end (indent (kind_in t.kinds.now)) t.bytes.now c.args.p).index in
    let f = same_front t.passes.reads t.bytes.now i c.ahead.result Pipe (rw c.space_end-q.ensures at c.ahead.ensures) c.eq.ensures c.if-eq.true (λ z. omega arith) in
    rw (c.over.ensures, c.space_end-q.ensures) (over_inside _ _ 3 f (solid-inside t.passes.reads t.bytes.now c.args.p c.requires), omega arith)

pub returns-then-eq : goal.returns-then-eq
returns-then-eq c =
    let t = c.args.text.now in
    let i = (run_end (indent (kind_in t.kinds.now)) t.bytes.now c.args.p).index in
    let f = same_front t.passes.reads t.bytes.now i c.ahead.result Pipe (rw c.space_end-q.ensures at c.ahead.ensures) c.eq.ensures c.if-eq.true (λ z. omega arith) in
    (rw (c.over.ensures, c.space_end-q.ensures) at c.head_delimiter_cells.ensures) ∙ values_led_at t.passes.reads t.bytes.now c.args.p f

pub returns : goal.returns
returns c =
    let t = c.args.text.now in
    c.head_delimiter_cells-2.ensures
    ∙ values_plain_at t.passes.reads t.bytes.now c.args.p (λ z. other_number c.ahead.result Pipe c.eq.ensures c.if-eq.false ((rw c.space_end-q.ensures at c.ahead.ensures) ∙ z))

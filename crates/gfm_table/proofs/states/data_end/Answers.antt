-- `data_end` meets its contract: the run ends where it ends by its places, and no tab lies in it.
-- Assumes nothing.
use mathlib.Core.Bool.{false}
use mathlib.Core.Path.{◌≡◌}
use native.Mathlib.Omega.{arith}
use Prim.Native.Nat.{◌-◌, ◌≤◌}
use lib.ListN.{length}
use Rattle.tokenizer.specs.Bytes.{kind_in}
use Rattle.tokenizer.specs.Moves.{rest_of}
use Rattle.tokenizer.proofs.Ahead.{inside-end}
use Rattle.gfm_table.specs.Machine.{data_run, data_rest}
use Rattle.gfm_table.proofs.Runs.{data_split, data_columns}
use Rattle.gfm_table.proofs.states.data_end.Goals as goal

pub overflow_cast-index : goal.overflow_cast-index
overflow_cast-index c =
    let h = inside-end (data_run (kind_in c.args.text.now.kinds.now) false) (data_rest (kind_in c.args.text.now.kinds.now) false) (data_split (kind_in c.args.text.now.kinds.now) false) c.args.text.now.bytes.now c.args.p c.requires in
    let e = c.text_end-index.ensures in
    record { fits = omega (arith, e, h.within, h.short) }

pub overflow_add-column : goal.overflow_add-column
overflow_add-column c =
    let h = inside-end (data_run (kind_in c.args.text.now.kinds.now) false) (data_rest (kind_in c.args.text.now.kinds.now) false) (data_split (kind_in c.args.text.now.kinds.now) false) c.args.text.now.bytes.now c.args.p c.requires in
    let e = c.text_end-index.ensures in
    let i = c.requires in
    let below : c.args.p.index ≤ c.text_end-index.result = omega (arith, e) in
    let short : c.text_end-index.result ≤ 65536 = omega (arith, e, h.within, h.short) in
    record { fits = omega (arith, i.narrow, i.within, i.short, below, short) }

pub returns : goal.returns
returns c =
    let u = rest_of c.args.text.now.bytes.now c.args.p in
    let e = c.text_end-index.ensures in
    let m : c.text_end-index.result - c.args.p.index ≡ length (data_run (kind_in c.args.text.now.kinds.now) false u) = omega (arith, e) in
    rw (c.new.ensures, data_columns c.args.text.now.passes.reads false u c.args.p.column, m, e)

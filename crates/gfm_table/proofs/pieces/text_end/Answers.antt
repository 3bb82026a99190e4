-- `pieces::text_end` meets its contract: after each byte, and after each escape, the run ends where it ended before. The measure is the bytes left.
-- Assumes nothing.
use mathlib.Core.Path.{ap, sym, ◌∙◌}
use native.Mathlib.Omega.{arith}
use lib.ListN.{length, drop}
use Rattle.tokenizer.specs.declared.kinds.Kind.TheVariants.{Backslash}
use Rattle.gfm_table.proofs.KindsAhead.{front, front_at, low_kind, plain_kind}
use Rattle.gfm_table.proofs.Stops.{data_stops}
use Rattle.gfm_table.proofs.Passing.{slash_more, data_more}
use Rattle.gfm_table.proofs.pieces.text_end.Goals as goal

pub loop-i-preserved-in-Backslash : goal.loop-i-preserved-in-Backslash
loop-i-preserved-in-Backslash g c =
    let t = c.args.text.now in
    let l = c.loop-i in
    let f = front_at t.passes.reads t.bytes.now l.i c.kind_at.result c.kind_at.ensures Backslash c.in-Backslash.is (λ z. omega arith) in
    sym (slash_more t.passes.reads _ l.i _ f c.row_escape-i.ensures) ∙ l.invariant

pub returns-in-Space : goal.returns-in-Space
returns-in-Space g c =
    let t = c.args.text.now in
    let l = c.loop-i in
    let k = low_kind c.kind_at.result c.in-Space.is in
    omega (arith, ap length (data_stops t.passes.reads (drop l.i t.bytes.now) (rw (← c.kind_at.ensures) k.0) (rw (← c.kind_at.ensures) k.1)), l.invariant)

pub loop-i-preserved : goal.loop-i-preserved
loop-i-preserved g c =
    let t = c.args.text.now in
    let l = c.loop-i in
    let o = c.in_default in
    let f = front t.passes.reads t.bytes.now l.i c.kind_at.result c.kind_at.ensures o.not-End in
    omega (arith, data_more t.passes.reads _ l.i _ f (plain_kind c.kind_at.result o.not-Space o.not-End o.not-Pipe o.not-Backslash), l.invariant)

-- `rows::write_row` meets its contract: after each piece the rest of the row makes of the slots what all of it made of them.
-- Assumes nothing.
use mathlib.Core.Path.{ap, sym, ◌∙◌}
use mathlib.Core.List.{List}
use native.Mathlib.Omega.{arith}
use Rattle.tokenizer.specs.declared.event.Event.{Event}
use Rattle.gfm_table.specs.declared.rows.Reached.{Reached}
use Rattle.gfm_table.proofs.Writing.{goes, stops}
use Rattle.gfm_table.proofs.rows.write_row.Goals as goal

pub loop-piece-smaller : goal.loop-piece-smaller
loop-piece-smaller g c =
    let l = c.loop-piece in
    let t = c.args.text.now in
    let turn = goes t.passes.reads t.bytes.now g.R.RowKind.part c.args.from.line l.x c.in-Some.piece (l.invariant.0, l.invariant.1) (sym (rw c.stop.ensures at c.in-Some.ensures)) in
    rw c.behind-x.ensures (omega (arith, turn.long, turn.good.0.within))

pub loop-piece-preserved : goal.loop-piece-preserved
loop-piece-preserved g c =
    let l = c.loop-piece in
    let t = c.args.text.now in
    let turn = goes t.passes.reads t.bytes.now g.R.RowKind.part c.args.from.line l.x c.in-Some.piece (l.invariant.0, l.invariant.1) (sym (rw c.stop.ensures at c.in-Some.ensures)) in
    let m = turn.more l.slots in
    rw (c.behind-x.ensures, c.put-in-Some.ensures, c.exit.ensures, c.put.ensures, c.entry.ensures) (
      turn.good.0,
      turn.good.1,
      sym (ap (λ (w : Reached × List Event). w.0) m) ∙ l.invariant.2,
      sym (ap (λ (w : Reached × List Event). w.1) m) ∙ l.invariant.3,
    )

pub returns : goal.returns
returns g c =
    let l = c.loop-piece in
    let t = c.args.text.now in
    let m = stops t.passes.reads t.bytes.now g.R.RowKind.part c.args.from.line l.x l.slots (l.invariant.0, l.invariant.1) (sym (rw c.stop.ensures at c.in_default.ensures)) in
    (sym (ap (λ (w : Reached × List Event). w.0) m) ∙ l.invariant.2, sym (ap (λ (w : Reached × List Event). w.1) m) ∙ l.invariant.3)

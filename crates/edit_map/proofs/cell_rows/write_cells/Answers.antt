-- `cell_rows::write_cells` meets its contract.
-- Assumes nothing.
use mathlib.Core.Path.{sym, ap, ◌∙◌}
use mathlib.Core.List.{List}
use native.Mathlib.Omega.{arith}
use Rattle.tokenizer.specs.declared.event.Event.{Event}
use Rattle.gfm_table.specs.declared.rows.Reached.{Reached}
use Rattle.edit_map.proofs.CellRows.{slot_few, next_few, goes, stops, opening}
use Rattle.edit_map.proofs.cell_rows.write_cells.Goals as goal

pub loop-x-init : goal.loop-x-init
loop-x-init g c =
    let t = c.args.text.now in
    let from = c.args.from in
    rw (c.first-w.ensures, c.put.ensures, c.enter.ensures, c.cell_name.ensures, c.point.ensures, c.part-part.ensures) (
      (c.requires.0, omega (arith, c.requires.1)),
      opening t.passes.reads t.bytes.now g.R.RowKind.part from.line from.at c.args.to c.args.slots.now c.requires.0,
    )

pub loop-x-smaller : goal.loop-x-smaller
loop-x-smaller g c =
    let t = c.args.text.now in
    let l = c.loop-x in
    let turn = goes t.passes.reads t.bytes.now g.R.RowKind.part c.args.from.line l.w c.in-Some.x l.invariant.0 (sym c.in-Some.ensures) in
    rw c.behind-w.ensures (omega (arith, turn.long, turn.good.0.within))

pub loop-x-preserved : goal.loop-x-preserved
loop-x-preserved g c =
    let t = c.args.text.now in
    let l = c.loop-x in
    let turn = goes t.passes.reads t.bytes.now g.R.RowKind.part c.args.from.line l.w c.in-Some.x l.invariant.0 (sym c.in-Some.ensures) in
    let few = next_few c.in-Some.x (slot_few t.passes.reads t.bytes.now g.R.RowKind.part c.args.from.line l.w c.in-Some.x l.invariant.0 (sym c.in-Some.ensures)) in
    rw (c.behind-w.ensures, c.put_step-next.ensures.0, few, c.put_step-next.ensures.1, c.part-part.ensures) (turn.good, l.invariant.1 ∙ turn.more l.slots)

pub returns : goal.returns
returns g c =
    let t = c.args.text.now in
    let l = c.loop-x in
    let m = l.invariant.1 ∙ stops t.passes.reads t.bytes.now g.R.RowKind.part c.args.from.line l.w l.slots l.invariant.0 (sym c.in_default.ensures) in
    rw (c.reached.ensures, c.put-2.ensures, c.exit.ensures, c.new-end.ensures, c.cell_name-2.ensures, c.part-part.ensures) (
      sym (ap (λ (w : Reached × List Event). w.0) m),
      sym (ap (λ (w : Reached × List Event). w.1) m),
    )

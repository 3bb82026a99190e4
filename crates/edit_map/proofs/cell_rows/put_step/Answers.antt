-- `cell_rows::put_step` meets its contract.
-- Assumes nothing.
use Prim.Native.Nat.{ℕ}
use mathlib.Core.Path.{◌≡◌, ap}
use Rattle.std.specs.Prelude.{min}
use Rattle.tokenizer.specs.Slots.{wrote}
use Rattle.tokenizer.specs.Events.{number, enter, leave}
use Rattle.edit_map.specs.Base.{most}
use Rattle.edit_map.specs.CellRows.{cell_of, value_of, start_of, stop_of, entry_in, step_events}
use Rattle.edit_map.proofs.CellRows.{six, from_any, wrote_within}
use Rattle.edit_map.proofs.cell_rows.put_step.Goals as goal
use Rattle.edit_map.proofs.cell_rows.put_step.Goals.{then-x, else-x}

pub returns : goal.returns
returns c =
    let x = c.args.x in
    let l = c.args.line in
    let n = cell_of c.args.part in
    let v = value_of c.args.part in
    let k = c.min-first.result in
    let written = six x.opens x.enters x.leaves k (leave n (start_of l x)) (enter n (start_of l x)) (enter v (start_of l x)) (entry_in l x) (leave (number x.name) (stop_of l x)) (leave v (stop_of l x)) c.args.slots.now in
    let within : wrote k (step_events c.args.part l x) c.args.slots.now ≡ wrote x.slot (step_events c.args.part l x) c.args.slots.now = rw c.min-first.ensures (wrote_within x.slot (step_events c.args.part l x) c.args.slots.now) in (
      rw (c.saturating_add.ensures, c.put_if-next.ensures.0, c.put_if-begin.ensures.0, c.put_if-opened.ensures.0, c.put_if-entered.ensures.0) (ap (λ (m : ℕ). min m most) (from_any x.opens x.enters x.leaves x.slot k)),
      rw (← within, c.put_if-next.ensures.1, c.put-2.ensures, c.put.ensures, c.put_if-begin.ensures.1, c.put_if-opened.ensures.1, c.put_if-entered.ensures.1, c.put_if-begin.ensures.0, c.put_if-opened.ensures.0, c.put_if-entered.ensures.0)
          (rw (c.exit-3.ensures, c.exit-2.ensures, c.exit.ensures, c.enter-3.ensures, c.enter-2.ensures, c.enter.ensures, c.value_name-value.ensures, c.cell_name-cell.ensures, c.start-start.ensures, c.finish-finish.ensures)
          (elim c.if-x.branch [ then-x w ↦ rw (w.link-is, w.if-x.true) (rw w.if-x.true at written) | else-x w ↦ rw (w.link-is, w.if-x.false) (rw w.if-x.false at written) ])),
    )

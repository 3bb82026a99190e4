-- `edit_fits::by_order` meets its contract: what is asked in order is asked of the edits, and they come back.
-- Assumes nothing.
use Rattle.std.proofs.Common.{◌∙◌}
use Rattle.edit_order.proofs.EditAsked.{sorted-rise, asked_same, back_again}
use Rattle.edit_order.proofs.edit_fits.by_order.Goals as goal

pub marked_in_order-r-requires : goal.marked_in_order-r-requires
marked_in_order-r-requires c = sorted-rise _ _ c.sort.ensures

pub returns : goal.returns
returns c =
    let s = c.requires in
    let a = c.args in (
      c.marked_in_order-r.ensures ∙ asked_same _ _ _ s c.renew.ensures c.sort.ensures a.len a.pool,
      back_again _ _ _ s c.renew.ensures c.sort.ensures _ _ _ c.renew-2.ensures c.sort-2.ensures c.renew-3.ensures,
    )

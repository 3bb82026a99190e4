-- `edit_fits::fits` meets its contract.
-- Assumes nothing.
use Rattle.std.proofs.Common.{refl, sym, ◌∙◌, arith}
use Rattle.edit_order.specs.EditSlots.{edits_of}
use Rattle.edit_order.proofs.EditMarks.{lean-small, fat_misfit}
use Rattle.edit_order.proofs.edit_fits.fits.Goals as goal

pub returns-else-all : goal.returns-else-all
returns-else-all c =
    let a = c.args in
    (c.if-all.false ∙ sym (fat_misfit a.len a.pool (edits_of a.edits.now) (sym c.all.ensures ∙ c.if-all.false)), refl)

pub by_order-requires : goal.by_order-requires
by_order-requires c =
    record { small = lean-small _ _ (omega arith) (sym c.all.ensures ∙ c.if-all.true); few = omega (arith, c.number.ensures) }

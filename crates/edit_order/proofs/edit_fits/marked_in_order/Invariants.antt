-- Each edit without its mark.
use Rattle.edit_order.specs.EditMarks.{unmark}
use Rattle.edit_order.proofs.edit_fits.marked_in_order.Given as goal

abbrev pub ghost-in_order : goal.ghost-in_order
ghost-in_order a = unmark

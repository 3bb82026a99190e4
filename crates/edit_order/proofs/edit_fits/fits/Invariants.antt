-- The edits as they are, and the test that an edit removes no more than the list has.
use Rattle.edit_order.proofs.EditMarks.{lean}
use Rattle.edit_order.proofs.edit_fits.fits.Given as goal

abbrev pub ghost-in_order : goal.ghost-in_order
ghost-in_order a = λ e. e

abbrev pub ghost-all : goal.ghost-all
ghost-all a = lean a.test.0

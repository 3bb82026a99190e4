-- The test is that an edit is clear.
use Rattle.edit_order.specs.Edits.{clear}
use Rattle.edit_order.proofs.edit_fits.all_clear.Given as goal

abbrev pub ghost-all : goal.ghost-all
ghost-all a = clear a.test.0 a.test.1

-- The test is that an edit is fine among all.
use Rattle.edit_order.specs.EditSlots.{edits_of}
use Rattle.edit_order.specs.Edits.{fine}
use Rattle.edit_order.proofs.edit_fits.any_order.Given as goal

abbrev pub ghost-all : goal.ghost-all
ghost-all a = fine a.test.1 a.test.2 (edits_of a.edits.now)

-- The measure is what an edit removes at the position.
use Rattle.edit_order.proofs.EditPassing.{own}
use Rattle.edit_order.proofs.edit_fits.removed_at.Given as goal

abbrev pub ghost-sum_within : goal.ghost-sum_within
ghost-sum_within a = own a.measure.0

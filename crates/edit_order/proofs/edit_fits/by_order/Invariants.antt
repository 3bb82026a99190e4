-- What the passes make of each edit.
use Rattle.edit_order.specs.EditMarks.{mark, unmark, flip}
use Rattle.edit_order.proofs.edit_fits.by_order.Given as goal

abbrev pub ghost-renew : goal.ghost-renew
ghost-renew a = mark

abbrev pub ghost-renew-2 : goal.ghost-renew-2
ghost-renew-2 a = λ i. flip

abbrev pub ghost-renew-3 : goal.ghost-renew-3
ghost-renew-3 a = λ i e. unmark (flip e)

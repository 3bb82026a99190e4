-- The measure is what an edit adds.
use Rattle.edit_order.proofs.edit_count.count.Given as goal

abbrev pub ghost-sum_within : goal.ghost-sum_within
ghost-sum_within a = λ e. e.adds

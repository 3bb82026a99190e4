-- `edit_count::staying` meets its contract: what the groups remove is what the edits remove.
-- Assumes nothing.
use Rattle.std.proofs.Common.{rules, tests, ℕ, List, ◌≡◌, ◌∙◌, arith}
use Rattle.std.proofs.lemmas.Iterator.{YieldsList-from_slice, YieldsList-from_map}
use Rattle.std.proofs.lemmas.Iterator.Consumers.{YieldsList-at, sum_by_from_yields_List, fits_by_from_yields_list}
use Rattle.edit_order.specs.EditFives.{edit_of}
use Rattle.edit_order.specs.EditSlots.{edits_of}
use Rattle.edit_order.specs.Edits.{removed}
use Rattle.edit_order.proofs.EditPassing.{removes}
use Rattle.edit_order.proofs.edit_count.staying.Goals as goal

abbrev removes_of : List ℕ → ℕ
removes_of g = (edit_of g).removes

pub sum-removed-requires-clause-fits : goal.sum-removed-requires-clause-fits
sum-removed-requires-clause-fits c =
    fits_by_from_yields_list _ _ c.map.result _
    (YieldsList-from_map _ removes_of (YieldsList-at c.map.ensures.source (YieldsList-from_slice c.groups.result.now c.iter.ensures.rest)) c.map.ensures.closure (λ x r q k. search (rules, tests)))
    (omega (arith, removes _ _ c.groups.ensures, c.requires, c.ranges.len.fits))

summed : (c : goal.After-sum-removed) → c.sum-removed.result ≡ removed (edits_of c.args.edits.now)
summed c =
    sum_by_from_yields_List _ _ c.map.result _ c.sum-removed.ensures.ran
    (YieldsList-from_map _ removes_of (YieldsList-at c.map.ensures.source (YieldsList-from_slice c.groups.result.now c.iter.ensures.rest)) c.map.ensures.closure (λ x r q k. search (rules, tests)))
    ∙ removes _ _ c.groups.ensures

pub overflow_sub-result : goal.overflow_sub-result
overflow_sub-result c = omega (arith, summed c, c.requires)

pub returns : goal.returns
returns c = omega (arith, summed c)

-- `edit_passes::sum_within` meets its contract: the groups of five are the edits.
-- Assumes nothing.
use Rattle.std.proofs.Common.{rules, of_calls, sum_by, ◌+◌, ap, ◌∙◌, arith}
use Rattle.std.proofs.lemmas.Iterator.{YieldsList-from_slice}
use Rattle.edit_order.specs.EditFives.{edit_of}
use Rattle.edit_order.specs.EditCount.{capped}
use Rattle.edit_order.proofs.EditFolding.{folded}
use Rattle.edit_order.proofs.EditPassing.{summing}
use Rattle.edit_order.proofs.edit_passes.sum_within.Goals as goal

pub returns : goal.returns
returns g c =
    let limit = c.args.limit in
    folded _ _ (λ y. y.now) _ (λ b x. capped limit (b + g.gives (edit_of x))) _ (λ a x w q k. search (rules, of_calls, c.requires.1.1)) _ _ _ _ _ c.try_fold.ensures.ran (YieldsList-from_slice _ c.iter.ensures.rest)
    ∙ summing limit g.gives _ c.args.start (omega arith)
    ∙ ap (λ es. capped limit (c.args.start + sum_by g.gives es)) c.groups.ensures

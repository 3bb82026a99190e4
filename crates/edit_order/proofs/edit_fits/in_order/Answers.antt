-- `edit_fits::in_order` meets its contract: the groups of five are the edits.
-- Assumes nothing.
use Rattle.std.proofs.Common.{rules, of_calls, ap, ◌∙◌}
use Rattle.std.specs.Option.{is_some}
use Rattle.std.proofs.lemmas.Iterator.{YieldsList-from_slice}
use Rattle.edit_order.specs.EditFives.{edit_of}
use Rattle.edit_order.specs.EditReach.{reached}
use Rattle.edit_order.proofs.EditFolding.{folded}
use Rattle.edit_order.proofs.EditRising.{fits_anew}
use Rattle.edit_order.proofs.edit_fits.in_order.Goals as goal

pub returns : goal.returns
returns g c =
    let r = c.requires.1 in
    c.is_some.ensures
    ∙ ap is_some
    (folded _ _ (λ y. y.now) _ (λ a x. reached c.args.len c.args.pool a (g.gives (edit_of x))) _ (λ a x w q k. search (rules, of_calls, r.1.1.0)) _ _ _ _ _ c.try_fold.ensures.ran (YieldsList-from_slice _ c.iter.ensures.rest))
    ∙ fits_anew g.gives r.1.1.1 c.args.len c.args.pool _ _ c.groups.ensures r.0

-- `edit_passes::all` meets its contract: the groups of five are the edits.
-- Assumes nothing.
use Rattle.std.proofs.Common.{rules, of_calls, ◌∙◌}
use Rattle.std.proofs.lemmas.Iterator.{YieldsList-from_slice}
use Rattle.std.proofs.lemmas.Iterator.Search.{all_from_yields_List}
use Rattle.edit_order.specs.EditFives.{edit_of}
use Rattle.edit_order.proofs.EditPassing.{passes}
use Rattle.edit_order.proofs.edit_passes.all.Goals as goal

pub returns : goal.returns
returns g c =
    all_from_yields_List (λ x. g.says (edit_of x)) _ _ c.all.result c.all.ensures.ran (YieldsList-from_slice _ c.iter.ensures.rest) (λ x b q k. search (rules, of_calls, c.requires.1.1))
    ∙ passes g.says _ _ c.groups.ensures

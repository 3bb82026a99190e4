-- `resolve::accept` meets its contract.
-- Assumes nothing.
use mathlib.Core.Path.{ap, ◌∙◌}
use Rattle.std.proofs.Common.{rules}
use Rattle.gfm_table.specs.declared.stream.Part.TheVariants as Part
use Rattle.edit_map.specs.declared.resolve_accept.Place.TheVariants.{Start}
use Rattle.edit_map.specs.Accept.{at, read_all}
use Rattle.edit_map.proofs.Accepting.{folded}
use Rattle.edit_map.proofs.resolve.accept.Goals as goal

pub returns : goal.returns
returns c = folded _ _ (λ f r x v h k. search rules) _ _ _ _ _ c.try_fold.ensures.ran ∙ ap (read_all (at Start Part.Head)) c.iter.ensures.rest

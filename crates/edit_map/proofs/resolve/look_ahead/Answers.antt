-- `resolve::look_ahead` meets its contract.
-- Assumes nothing.
use mathlib.Core.Path.{refl, sym, ap, ◌∙◌}
use Rattle.std.proofs.Common.{rules, ℕ, drop}
use Rattle.std.specs.ControlFlow.{control_flow_from_branch}
use Rattle.std.specs.declared.ops.ControlFlow.TheVariants.{Continue}
use Rattle.edit_map.specs.Cursors.{look_all}
use Rattle.edit_map.proofs.Looking.{looked_all}
use Rattle.edit_map.proofs.resolve.look_ahead.Goals as goal

pub returns-in-Continue : goal.returns-in-Continue
returns-in-Continue c =
    rw (sym c.asks.ensures ∙ c.if-not-asks.false, ← c.start-start.ensures)
    (looked_all control_flow_from_branch (λ l. refl) (λ b. refl) _ (λ f l x v h k. search rules) _ _ _ _ _ c.in-Continue.ensures.ran ∙ ap (look_all (Continue c.start-start.result)) (c.iter.ensures.rest ∙ c.rest_from-behind.ensures ∙ ap (λ (k : ℕ). drop k c.args.list.now) c.saturating_add.ensures))

pub returns-in-Break : goal.returns-in-Break
returns-in-Break c =
    rw (sym c.asks.ensures ∙ c.if-not-asks.false, ← c.start-start.ensures)
    (looked_all control_flow_from_branch (λ l. refl) (λ b. refl) _ (λ f l x v h k. search rules) _ _ _ _ _ c.in-Break.ensures.ran ∙ ap (look_all (Continue c.start-start.result)) (c.iter.ensures.rest ∙ c.rest_from-behind.ensures ∙ ap (λ (k : ℕ). drop k c.args.list.now) c.saturating_add.ensures))

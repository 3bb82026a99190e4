-- `edit_map::settle` meets its contract: question 11 leaves the slots as they came, so that all else is asked of those.
-- Assumes nothing.
use Prim.Native.Nat.{ℕ}
use mathlib.Core.Path.{◌≡◌, sym, ◌∙◌, ap}
use mathlib.Core.List.{List}
use Rattle.edit_order.specs.EditSlots.{edits_of, holding}
use Rattle.edit_order.specs.EditOrder.{sorted}
use Rattle.edit_order.specs.EditCount.{result_count, capped}
use Rattle.edit_order.proofs.EditCounted.{removed-fits}
use Rattle.edit_map.proofs.EditSettling.{settle_misfit, settle_counted}
use Rattle.std.specs.Prelude.{Option, ok_or}
use Rattle.std.proofs.lemmas.Result.{err_from_is_err_and}
use Rattle.tokenizer.specs.declared.refusal.Refusal.TheVariants as Refusal
use Rattle.edit_map.specs.EditSettles.{settled}
use Rattle.edit_map.proofs.edit_map.settle.Goals.{After-ok_or}
use Rattle.edit_map.proofs.edit_map.settle.Goals as goal

pub returns-then-not-fits : goal.returns-then-not-fits
returns-then-not-fits c =
    let a = c.args in
    let e = settle_misfit a.len a.pool a.slots (edits_of a.edits.now) (sym c.fits.ensures.0 ∙ c.if-not-fits.true) in
    (e, rw (← e) c.fits.ensures.1)

pub count-requires : goal.count-requires
count-requires c = rw c.fits.ensures.1 (removed-fits _ _ _ (sym c.fits.ensures.0 ∙ c.if-not-fits.false))

-- the count where there is one, else a refusal, is the answer
counts : (c : After-ok_or) → c.ok_or.result ≡ settled c.args.len c.args.pool c.args.slots (edits_of c.args.edits.now)
counts c =
    let a = c.args in
    c.ok_or.ensures.value
    ∙ ap (λ (t : Option ℕ). ok_or t Refusal.TooFewResultSlots) (c.count.ensures ∙ ap (λ (l : List ℕ). capped a.slots (result_count a.len (edits_of l))) c.fits.ensures.1)
    ∙ settle_counted a.len a.pool a.slots (edits_of a.edits.now) (sym c.fits.ensures.0 ∙ c.if-not-fits.false)

pub returns-in_err-n : goal.returns-in_err-n
returns-in_err-n c =
    let p = err_from_is_err_and c.from_residual.result c.from_residual.ensures.1 in
    let e = sym c.in_err-n.was ∙ counts (goal.at.returns-in_err-n c).After-ok_or in
    (rw (p.1, p.2) e, rw (← e) c.fits.ensures.1)

pub returns : goal.returns
returns c =
    let e = sym c.in_ok-n.was ∙ counts (goal.at.returns c).After-ok_or in
    (e, rw (← e) (c.sort.ensures ∙ ap (λ (l : List ℕ). holding (sorted (edits_of l)) l) c.fits.ensures.1))

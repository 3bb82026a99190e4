-- `edit_map::edit` meets its contract: the cursor runs from the first place on, or all slots are blank.
-- Assumes nothing.
use mathlib.Core.Path.{refl, sym, ◌∙◌}
use Rattle.edit_map.proofs.EditResult.{settled-answer, settled_slots, settled_results, settled_ready, refused_results}
use Rattle.edit_map.proofs.edit_map.edit.Goals as goal

pub fill-filled-requires : goal.fill-filled-requires
fill-filled-requires c =
    let a = c.args in
    let e = c.settle-answer.ensures in
    rw e.1 (settled_ready a.list.now a.pool.now a.edits.now _ _ (sym e.0 ∙ c.in-Ok.is))

pub returns-in-Ok : goal.returns-in-Ok
returns-in-Ok c =
    let a = c.args in
    let e = c.settle-answer.ensures in (
      e.0 ∙ settled-answer a.list.now a.pool.now a.edits.now _,
      (
        e.1 ∙ settled_slots a.list.now a.pool.now a.edits.now _,
        c.clear_from.ensures ∙ rw e.1 at c.fill-filled.ensures ∙ settled_results a.list.now a.pool.now a.edits.now _ _ (sym e.0 ∙ c.in-Ok.is),
      ),
    )

pub returns-in-Err : goal.returns-in-Err
returns-in-Err c =
    let a = c.args in
    let e = c.settle-answer.ensures in (
      e.0 ∙ settled-answer a.list.now a.pool.now a.edits.now _,
      (
        e.1 ∙ settled_slots a.list.now a.pool.now a.edits.now _,
        c.clear_from-in-Err.ensures ∙ refused_results a.list.now a.pool.now a.edits.now _ _ (sym e.0 ∙ c.in-Err.is) a.results.now refl,
      ),
    )

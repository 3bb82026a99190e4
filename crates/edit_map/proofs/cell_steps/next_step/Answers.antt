-- `cell_steps::next_step` meets its contract.
-- Assumes nothing.
use mathlib.Core.Path.{◌≡◌, ◌∙◌}
use mathlib.Core.Bool.{◌&&◌, not}
use lib.ListN.{drop}
use Rattle.tokenizer.specs.declared.event.Name.TheVariants.{Data, SpaceOrTab}
use Rattle.tokenizer.specs.Bytes.{kind_in}
use Rattle.tokenizer.specs.Lines.{line_body}
use Rattle.tokenizer.proofs.SameNames.{tagged, same-names}
use Rattle.edit_map.specs.Spans.{text_next}
use Rattle.edit_map.proofs.CellRows.{next_fits, step_by}
use Rattle.edit_map.proofs.cell_steps.next_step.Goals as goal
use Rattle.edit_map.proofs.cell_steps.next_step.Goals.{then-delimits, else-delimits}

pub returns-in_err-x : goal.returns-in_err-x
returns-in_err-x g c =
    let t = c.args.text.now in
    c.from_residual.ensures ∙ step_by t.passes.reads t.bytes.now g.R.RowKind.part c.args.w c.in_err-x.was (rw c.stop.ensures at c.next_piece.ensures)

pub reach_from-y-requires : goal.reach_from-y-requires
reach_from-y-requires g c =
    let t = c.args.text.now in
    let w = c.args.w in
    let f = next_fits t.passes.reads t.bytes.now g.R.RowKind.part w.at w.column c.in_ok-x.x (t.fits, c.requires.0, c.requires.1) c.in_ok-x.was (rw c.stop.ensures at c.next_piece.ensures) in
    (f.0, f.1)

pub returns : goal.returns
returns g c =
    let t = c.args.text.now in
    let x = c.in_ok-x.x in
    let m : c.if-delimits.more ≡ (c.is_text_name-mark.result && not c.eq-data.result) && text_next (kind_in t.kinds.now) (line_body (drop x.end t.bytes.now)) =
    elim c.if-delimits.branch [
      | then-delimits w ↦ w.more-is ∙ w.text_next-more.ensures ∙ rw w.if-delimits.true
      | else-delimits w ↦ w.more-is ∙ rw w.if-delimits.false
    ] in
    rw (m, c.is_text_name-mark.ensures, c.opens-opened.ensures, tagged x.name, c.eq-data.ensures, same-names x.name Data, c.ne-solid.ensures, same-names x.name SpaceOrTab, c.reach_from-y.ensures)
    (step_by t.passes.reads t.bytes.now g.R.RowKind.part c.args.w c.in_ok-x.was (rw c.stop.ensures at c.next_piece.ensures))

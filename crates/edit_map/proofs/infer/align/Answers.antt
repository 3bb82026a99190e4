-- `infer::align` meets its contract.
-- Assumes nothing.
use Prim.Native.Nat.{ℕ, ◌<◌, ◌^◌}
use mathlib.Core.Path.{◌≡◌, sym, ap, ◌∙◌}
use mathlib.Core.List.{List}
use native.Mathlib.Omega.{arith}
use lib.ListN.{length}
use Rattle.std.specs.Prelude.{Result}
use Rattle.tokenizer.specs.declared.refusal.Refusal.{Refusal}
use Rattle.edit_map.specs.declared.infer_step.Aligning.{Aligning}
use Rattle.edit_map.specs.declared.infer_step.Stage.TheVariants.{Opening}
use Rattle.edit_map.specs.AlignSteps.{start_at, done, scan_of, aligns_from}
use Rattle.edit_map.specs.Answers.{align_answer, align_slots}
use Rattle.edit_map.specs.Verdicts.{told_of}
use Rattle.edit_map.proofs.Passes.{in_most}
use Rattle.edit_map.proofs.Calls.{aligned_by, align-answer, align_slots_lem}
use Rattle.edit_map.proofs.infer.align.Goals.{After-told-answer}
use Rattle.edit_map.proofs.infer.align.Goals as goal

-- the answer is the definition's, and the slots are too, where they hold what that answer gives them
answered : (c : After-told-answer) (r : Result ℕ Refusal) (zs : List ℕ) → c.told-answer.result ≡ r → zs ≡ aligned_by c.args.list.now c.args.index (length c.args.alignments.now) r
    → (c.told-answer.result ≡ align_answer c.args.list.now c.args.index (length c.args.alignments.now)) × (zs ≡ align_slots c.args.list.now c.args.index (length c.args.alignments.now))
answered c r zs is e =
    let es = c.args.list.now in
    let i = c.args.index in
    let n = length c.args.alignments.now in
    let f : length es < 2 ^ 64 = omega arith in
    let t : c.told-answer.result ≡ told_of (scan_of es done (start_at Opening i)) n = c.told-answer.ensures ∙ ap (λ (s : Aligning). told_of s n) (c.scan-s.ensures ∙ ap (scan_of es done) c.before-first.ensures) in
    (t ∙ align-answer es i n (in_most f), e ∙ ap (aligned_by es i n) (sym is ∙ t) ∙ align_slots_lem es i n (in_most f))

pub returns-in-Ok : goal.returns-in-Ok
returns-in-Ok c = answered (goal.at.returns-in-Ok c).After-told-answer _ _ c.in-Ok.is (c.fill_alignments.ensures ∙ ap (aligns_from c.args.list.now (length c.args.alignments.now)) c.before-first.ensures)

pub returns-in-Err : goal.returns-in-Err
returns-in-Err c = answered (goal.at.returns-in-Err c).After-told-answer _ _ c.in-Err.is (c.fill.ensures.after (λ y e. e))

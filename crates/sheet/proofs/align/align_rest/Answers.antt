-- `align::align_rest` meets its contract: what is written, what is to come and what stays make the same slots.
-- Assumes nothing.
use mathlib.Core.Bool.{false, false≢true}
use mathlib.Core.List.{◌∷◌, []}
use mathlib.Core.Path.{◌≡◌, ap, sym, ◌∙◌}
use native.Mathlib.Omega.{arith}
use lib.ListN.{length-set}
use Rattle.std.proofs.Common.{◌+◌, ◌<◌, length}
use Rattle.std.proofs.lemmas.List.{set-get_or}
use Rattle.tokenizer.specs.declared.kinds.Kind.TheVariants.{Pipe}
use Rattle.tokenizer.specs.Bytes.{kind_in}
use Rattle.tokenizer.proofs.Ahead.{goes}
use Rattle.tokenizer.proofs.SameKinds.{another, no_other}
use Rattle.edit_map.specs.AlignSteps.{number_of}
use Rattle.tokenizer.specs.Lines.{is_empty}
use Rattle.std.specs.Prelude.{unwrap_or}
use Rattle.gfm_table.specs.Delimiters.{written}
use Rattle.edit_map.specs.declared.infer_step.Alignment.{Alignment}
use Rattle.sheet.specs.Aligning.{line_from, aligns_from}
use Rattle.sheet.proofs.Aligning.{mark_empty, mark_number, aligns_more, aligns_last, aligns_none}
use Rattle.sheet.proofs.Slots.{filled_none, filled_next, filled-last}
use Rattle.sheet.proofs.align.align_rest.Goals.{else-last-via-then-last+else-is_none, else-last-via-else-last}
use Rattle.sheet.proofs.align.align_rest.Goals as goal

pub returns-then-is_none : goal.returns-then-is_none
returns-then-is_none c =
    let l = c.loop-slot in
    let t = c.args.text.now in
    let h = c.mark_at-m.ensures in
    set-get_or l.slots l.slot-index _
    ∙ sym (filled_none l.slot-index l.slots)
    ∙ (rw (aligns_none t.passes.reads t.bytes.now l.i (λ z. another _ Pipe c.ne-last.ensures c.if-last.true ((rw h.end at c.kind_at.ensures) ∙ z)) (mark_empty _ _ _ _ h c.is_none.ensures ∙ c.if-is_none.true)) at l.invariant.2)

pub returns-then-last-2 : goal.returns-then-last-2
returns-then-last-2 c =
    let l = c.loop-slot in
    let t = c.args.text.now in
    let h = c.mark_at-m.ensures in
    let some : is_empty (written (kind_in t.kinds.now) (line_from t.bytes.now l.i)) ≡ false =
    elim c.else-last.branch [ else-last-via-then-last+else-is_none w ↦ mark_empty _ _ _ _ h w.is_none.ensures ∙ w.if-is_none.false | else-last-via-else-last w ↦ absurd (false≢true (sym w.if-last.false ∙ c.if-last-2.true)) ] in
    let e : aligns_from (kind_in t.kinds.now) t.bytes.now l.i ≡ number_of (unwrap_or c.mark_at-m.result.align Alignment.None) ∷ [] =
    rw (mark_number _ _ _ _ h) (aligns_last t.passes.reads t.bytes.now l.i (λ z. another _ Pipe c.ne-last.ensures c.if-last-2.true ((rw h.end at c.kind_at.ensures) ∙ z)) some) in
    let k : l.slot-index < length l.slots = omega (arith, ap length e, l.invariant.1) in
    rw (c.number.ensures, c.unwrap_or.ensures) (filled-last l.slot-index _ l.slots k ∙ (rw e at l.invariant.2))

pub loop-slot-preserved : goal.loop-slot-preserved
loop-slot-preserved c =
    let l = c.loop-slot in
    let t = c.args.text.now in
    let s = t.bytes.now in
    let m = c.mark_at-m.result in
    let h = c.mark_at-m.ensures in
    let n = number_of (unwrap_or m.align Alignment.None) in
    let f = goes t.passes.reads s _ 3 (sym (no_other _ Pipe c.ne-last.ensures c.if-last-2.false) ∙ (rw h.end at c.kind_at.ensures)) (λ z. omega arith) in
    let e : aligns_from (kind_in t.kinds.now) s l.i ≡ n ∷ aligns_from (kind_in t.kinds.now) s (m.end + 1) = rw (h.end, mark_number _ _ _ _ h) (aligns_more t.passes.reads s l.i f) in
    let k : l.slot-index < length l.slots = omega (arith, ap length e, l.invariant.1) in (
      omega (arith, f.below, h.end),
      simp length-set (omega (arith, ap length e, l.invariant.1)),
      rw (c.number.ensures, c.unwrap_or.ensures) (filled_next l.slot-index n (aligns_from (kind_in t.kinds.now) s (m.end + 1)) l.slots k ∙ (rw e at l.invariant.2)),
    )

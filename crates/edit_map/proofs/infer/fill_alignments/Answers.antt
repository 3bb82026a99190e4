-- `infer::fill_alignments` meets its contract.
-- Assumes nothing.
use mathlib.Core.Path.{◌≡◌, sym, ap, ◌∙◌}
use mathlib.Core.List.{List, ◌++◌, append-nil}
use Prim.Native.Nat.{ℕ, ◌+◌, ◌-◌, ◌<◌, ◌≤◌}
use native.Mathlib.Omega.{arith}
use lib.ListN.{length, take, set}
use lib.Seq.{take_all}
use Rattle.edit_map.specs.declared.infer_step.Aligning.{Aligning}
use Rattle.tokenizer.specs.declared.event.Event.{Event}
use Rattle.edit_map.specs.AlignSteps.{slot_of, pauses, scan_of, aligns_from}
use Rattle.edit_map.proofs.Passes.{aligns_more, aligns_none}
use Rattle.tokenizer.proofs.Filling as F
use Rattle.edit_map.proofs.infer.fill_alignments.Goals as goal

-- one slot more is written with what the next scan gives
one_more : (es : List Event) (n i : ℕ) (s : Aligning) (zs all : List ℕ) → i < length zs → i < n → take i zs ++ aligns_from es (n - i) s ≡ all
    → take (i + 1) (set zs i (slot_of (scan_of es pauses s).given)) ++ aligns_from es (n - (i + 1)) (scan_of es pauses s) ≡ all
one_more es n i s zs all h l e =
    sym (F.take-set zs i (slot_of (scan_of es pauses s).given) (aligns_from es (n - (i + 1)) (scan_of es pauses s)) h)
    ∙ ap (λ (r : List ℕ). take i zs ++ r) (sym (aligns_more es (n - (i + 1)) s))
    ∙ ap (λ (k : ℕ). take i zs ++ aligns_from es k s) (omega (arith, l)) ∙ e

-- every slot is written
all_done : (es : List Event) (n i : ℕ) (s : Aligning) (zs all : List ℕ) → length zs ≡ n → n ≤ i → take i zs ++ aligns_from es (n - i) s ≡ all → zs ≡ all
all_done es n i s zs all q h e =
    let none : n - i ≡ 0 = omega arith in
    sym (ap (λ (k : ℕ). take i zs ++ aligns_from es k s) none ∙ ap (λ (r : List ℕ). take i zs ++ r) (aligns_none es s) ∙ append-nil (take i zs) ∙ take_all i zs (omega (arith, q))) ∙ e

pub loop-slot-preserved : goal.loop-slot-preserved
loop-slot-preserved c =
    let l = c.loop-slot in
    rw (c.slot.ensures, c.scan-cur.ensures) (one_more c.args.list.now (length c.args.alignments.now) l.slot-index l.cur l.alignments _ (omega arith) (omega arith) l.invariant)

pub returns : goal.returns
returns c = let l = c.loop-slot in all_done c.args.list.now _ l.slot-index l.cur l.alignments _ l.auto.alignments c.loop-slot-test.false l.invariant

-- `stream::fill` meets its contract.
-- Assumes nothing.
use Prim.Native.Nat.{ℕ, suc, ◌+◌, ◌-◌}
use mathlib.Core.Path.{◌≡◌, refl, ap, sym, ◌∙◌}
use mathlib.Core.List.{List, [], ◌∷◌, ◌++◌, append-nil}
use native.Mathlib.Omega.{arith}
use lib.ListN.{length, take}
use lib.Seq.{take_all}
use Rattle.tokenizer.specs.Bytes.{kind_in}
use Rattle.tokenizer.specs.declared.event.Event.{Event}
use Rattle.tokenizer.proofs.Filling.{take-set}
use Rattle.gfm_table.specs.declared.stream.Cursor.{Cursor}
use Rattle.gfm_table.specs.Stream.{step_of, gave}
use Rattle.gfm_table.proofs.Coming.{good-next}
use Rattle.gfm_table.proofs.stream.fill.Goals as goal

-- what one more turn writes, and none
gave-more : (kind : ℕ → ℕ) (s : List ℕ) (c : Cursor) (k : ℕ) → gave kind s (suc k) c ≡ (step_of kind s c).event ∷ gave kind s k (step_of kind s c).next
unfolding gave
gave-more kind s c k = refl

gave-none : (kind : ℕ → ℕ) (s : List ℕ) (c : Cursor) → gave kind s 0 c ≡ []
unfolding gave
gave-none kind s c = refl

pub loop-slot-preserved : goal.loop-slot-preserved
loop-slot-preserved g c =
    let l = c.loop-slot in
    let s = c.args.text.now.bytes.now in
    let kind = kind_in c.args.text.now.kinds.now in
    let n = length c.args.slots.now in
    let k : n - l.slot-index ≡ suc (n - (l.slot-index + 1)) = omega arith in
    let next = (step_of kind s l.cursor).next in
    rw c.step-r.ensures (
      good-next c.args.text.now.passes.reads s (λ e. []) l.cursor l.invariant.0,
      l.invariant.1
          ∙ ap (λ (m : ℕ). take l.slot-index l.slots ++ gave kind s m l.cursor) k
          ∙ ap (λ (r : List Event). take l.slot-index l.slots ++ r) (gave-more kind s l.cursor (n - (l.slot-index + 1)))
          ∙ take-set l.slots l.slot-index (step_of kind s l.cursor).event (gave kind s (n - (l.slot-index + 1)) next) (omega arith),
    )

pub returns : goal.returns
returns g c =
    let l = c.loop-slot in
    let s = c.args.text.now.bytes.now in
    let kind = kind_in c.args.text.now.kinds.now in
    let k : length c.args.slots.now - l.slot-index ≡ 0 = omega arith in
    sym (
    l.invariant.1
    ∙ ap (λ (m : ℕ). take l.slot-index l.slots ++ gave kind s m l.cursor) k
    ∙ ap (λ (r : List Event). take l.slot-index l.slots ++ r) (gave-none kind s l.cursor)
    ∙ append-nil (take l.slot-index l.slots)
    ∙ take_all l.slot-index l.slots (omega arith)
    )

-- `Sheet::is_blank` meets its contract: the line ends behind its indent.
-- Assumes nothing.
use Prim.Native.Nat.{ℕ}
use mathlib.Core.Path.{ap, sym, ◌∙◌}
use lib.Dec.{eqb}
use Rattle.tokenizer.specs.declared.kinds.Kind.TheVariants.{End}
use Rattle.tokenizer.proofs.SameKinds.{same-numbers}
use Rattle.tokenizer.proofs.Ends.{blank_ahead}
use Rattle.tokenizer.proofs.moves.Sheet.is_blank.Goals as goal

pub returns : goal.returns
returns c =
    let t = c.args.self.now in
    c.eq.ensures
    ∙ same-numbers _ End
    ∙ ap (λ (k : ℕ). eqb k 2) (rw c.space_end.ensures at c.ahead.ensures)
    ∙ sym (blank_ahead t.passes.reads t.bytes.now c.args.p)

-- `kinds::asked` meets its contract: 256 entries are told by one pass.
-- Assumes nothing.
use Prim.Native.Nat.{ℕ}
use mathlib.Core.Path.{ap, sym, ◌∙◌}
use borrow.Author.Tests.{ne_eqb}
use Rattle.tokenizer.specs.Bytes.{kind_in, kinds_refusal}
use Rattle.tokenizer.specs.Refusals.{answered}
use Rattle.tokenizer.proofs.KindTables.{tally_refuses}
use Rattle.tokenizer.proofs.kinds.asked.Goals as goal

pub returns-then-kinds-ne256 : goal.returns-then-kinds-ne256
unfolding kinds_refusal
returns-then-kinds-ne256 c = rw (ne_eqb _ 256 c.if-kinds-ne256.true)

pub returns : goal.returns
unfolding kind_in
returns c = rw c.of.ensures at c.asked.ensures ∙ ap (λ (n : ℕ). answered n tt) (sym (tally_refuses c.args.kinds.now c.if-kinds-ne256.false))

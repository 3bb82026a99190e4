-- `slots::put_if` meets its contract.
-- Assumes nothing.
use Rattle.std.proofs.Common.{refl}
use Rattle.tokenizer.proofs.Writing.{wrote_none, wrote_one}
use Rattle.tokenizer.proofs.slots.put_if.Goals as goal

pub returns-then-go : goal.returns-then-go
returns-then-go c = let a = c.args in rw (c.if-go.true, c.put.ensures, wrote_one a.i a.e a.slots.now) (refl, refl)

pub returns : goal.returns
returns c = let a = c.args in rw (c.if-go.false, wrote_none a.i a.slots.now) (refl, refl)

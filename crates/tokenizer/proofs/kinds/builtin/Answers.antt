-- `kinds::builtin` meets its contract: the table lists `kind_of`, which is computed once over all 256 bytes.
-- Assumes nothing.
use mathlib.Core.Path.{refl}
use Rattle.tokenizer.specs.Bytes.{kind_of, tabulated}
use Rattle.tokenizer.proofs.kinds.builtin.Goals as goal

pub returns : goal.returns
unfolding tabulated kind_of
returns c = refl

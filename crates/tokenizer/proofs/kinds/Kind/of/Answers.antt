-- `kinds::Kind::of` meets its contract: the table lists `kind_of`, which is computed once over all 256 bytes.
-- Assumes nothing.
use mathlib.Core.Path.{◌∙◌}
use Rattle.std.proofs.Common.{rules}
use Rattle.tokenizer.specs.Bytes.{kind_of, tabulated}
use Rattle.tokenizer.proofs.Table.{lookup}
use Rattle.tokenizer.proofs.Bytes.{most}
use Rattle.tokenizer.proofs.kinds.Kind.of.Goals as goal

pub numbered-requires : goal.numbered-requires
unfolding tabulated kind_of
numbered-requires c = rw (lookup kind_of 256 c.args.b (search rules)) (most c.args.b)

pub returns : goal.returns
unfolding tabulated kind_of
returns c = c.numbered.ensures ∙ lookup kind_of 256 c.args.b (search rules)

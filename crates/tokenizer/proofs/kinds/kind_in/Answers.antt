-- `kinds::kind_in` meets its contract: a table of all bytes has an entry for each, and none is above 6.
-- Assumes nothing.
use Rattle.tokenizer.specs.Bytes.{kind_in}
use Rattle.tokenizer.proofs.kinds.kind_in.Goals as goal

pub numbered-requires : goal.numbered-requires
unfolding kind_in
numbered-requires c = c.requires.most c.args.b

pub returns : goal.returns
unfolding kind_in
returns c = c.numbered.ensures

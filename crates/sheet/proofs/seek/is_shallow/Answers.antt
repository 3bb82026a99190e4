-- `seek::is_shallow` meets its contract: without a tab, each byte is one column.
-- Assumes nothing.
use Rattle.std.proofs.Common.{rules}
use Rattle.sheet.proofs.Closing.{shallow_by}
use Rattle.sheet.proofs.seek.is_shallow.Goals as goal

pub returns : goal.returns
returns c = shallow_by c.args.s.now c.args.at c.args.e c.requires _ c.get.ensures.lookup.0 _ (search rules)

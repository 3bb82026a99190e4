-- `Feed::consume` meets its contract.
-- Assumes nothing.
use mathlib.Core.Path.{ap, ◌∙◌}
use Rattle.tokenizer.specs.Feed.{feed_at}
use Rattle.tokenizer.proofs.feed.Feed.consume.Goals as goal

pub returns : goal.returns
returns c = c.at.ensures ∙ ap (feed_at c.args.s.now) c.onward.ensures

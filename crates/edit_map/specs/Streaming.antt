-- The result events of a list that are still to come, one by one.
use Rattle.std.specs.Prelude.{◌≡◌, true, false, Option, MatchOption}
use Rattle.tokenizer.specs.declared.event.Event.{Event}
use Rattle.edit_map.specs.declared.resolve.Stream.{Stream}
use Rattle.edit_map.specs.Cursors.{turn_here, next_of, over_at}

-- over the same list: the event of the next turn, and the cursor after it; none at the end
abbrev pub Streams : Stream → Option Event → Stream → Type 0
Streams s x t =
    (t.list.now ≡ s.list.now)
    × MatchOption x ((over_at s.list.now s.cursor ≡ true) × (t.cursor ≡ s.cursor)) (λ e. (over_at s.list.now s.cursor ≡ false) × (e ≡ (turn_here s.list.now s.cursor).event) × (t.cursor ≡ next_of s.list.now s.cursor))

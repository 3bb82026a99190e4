-- The head's counter `size_b`: what the crate counts on a head line, and what is held of it.
use Rattle.std.specs.Prelude.{ℕ, ◌+◌, ◌-◌, cond, List, ltb, length}
use Rattle.gfm_table.specs.Rows.{Piece}
use Rattle.gfm_table.specs.Heads.{leading}

-- the crate's count at the end of a head line with these solid pieces: one for each, and one more unless a divider leads
unfoldable pub size_b_of : List Piece → ℕ
size_b_of ps = 1 - leading ps + length ps

-- what is held of a count (02, U4): the count up to 2, and from there on 2
abbrev pub saturated : ℕ → ℕ
saturated n = cond (ltb n 2) n 2

-- one more on the counter, which stands still at 2
abbrev pub saturating_inc : ℕ → ℕ
saturating_inc n = cond (ltb n 2) (n + 1) n

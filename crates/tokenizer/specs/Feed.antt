-- The feed, unit by unit: what is read at a point, and the point after it.
use Rattle.std.specs.Prelude.{ℕ, ◌+◌, ◌-◌, ◌*◌, ◌%◌, ◌≤◌, List, [], ◌∷◌, Bool, cond, ◌&&◌, not, eqb, length, drop, get_or}
use Rattle.tokenizer.specs.declared.event.Point.{Point}
use Rattle.tokenizer.specs.declared.feed.Byte.{Byte}
use Rattle.tokenizer.specs.declared.feed.Byte.TheVariants.{At, End}
use Rattle.tokenizer.specs.declared.feed.Feed.{Feed}
use Rattle.tokenizer.specs.Bytes.{is_end}
use Rattle.tokenizer.specs.Points.{past, next_line}
use Rattle.tokenizer.specs.Lines.{starts_lf, end_at}

-- what a unit reads as: a carriage return as a line feed, a tab's units behind its first as spaces
abbrev pub unit_of : ℕ → ℕ → ℕ
unit_of vs b = cond (eqb b 13) 10 (cond (eqb b 9 && not (eqb vs 0)) 32 b)

-- the byte that is read at a point, where u is what is left of the sheet there
abbrev pub current_of : Point → List ℕ → Byte
current_of p [] = End
current_of p (b ∷ u) = At (unit_of p.vs b)

-- one unit of a tab: a column, and the last one, in a column that is a multiple of 4, passes the byte
abbrev pub tab_unit : Point → Point
tab_unit p =
    cond (eqb (p.column % 4) 0)
    (record { line = p.line; column = p.column + 1; index = p.index + 1; vs = 0 })
    (record { line = p.line; column = p.column + 1; index = p.index; vs = p.vs + 1 })

-- the point after one unit: a line end is one, and so is each column of a tab
abbrev pub onward : Point → List ℕ → Point
onward p [] = p
onward p (b ∷ u) = cond (is_end b) (next_line p (end_at (b ∷ u))) (cond (eqb b 9) (tab_unit p) (past p (b ∷ [])))

-- the feed at a point of a sheet
abbrev pub feed_at : List ℕ → Point → Feed
feed_at s p = record { point = p; current = current_of p (drop p.index s) }

-- whether an offset lies between the two bytes of one line end
abbrev pub inside_end : List ℕ → ℕ → Bool
inside_end s i = not (eqb i 0) && (starts_lf (drop i s) && eqb (get_or s (i - 1) 0) 13)

-- an event at a line end of two bytes stands on the carriage return
abbrev pub back : List ℕ → Point → Point
back s p = record { line = p.line; column = p.column; index = cond (inside_end s p.index) (p.index - 1) p.index; vs = p.vs }

-- a point of a sheet that is not too long, perhaps inside a tab
pub record Fed (s : List ℕ) (p : Point) : Type 0 where
  pub short : length s ≤ 65536
  pub within : p.index ≤ length s
  pub narrow : p.column ≤ 4 * p.index + 1 + p.vs
  pub lined : p.line ≤ p.index + 1
  pub inner : p.vs ≤ (p.column + 3) % 4

-- Runs of whitespace by units.
use Rattle.std.specs.Prelude.{ℕ, zero, suc, ◌+◌, ◌≡◌, List, Bool, false, cond, ◌&&◌, not, eqb, leb, drop, Option, Some, None}
use Rattle.tokenizer.specs.declared.event.Point.{Point}
use Rattle.tokenizer.specs.declared.feed.Byte.{Byte}
use Rattle.tokenizer.specs.declared.feed.Byte.TheVariants.{At, End}
use Rattle.tokenizer.specs.declared.feed.Feed.{Feed}
use Rattle.tokenizer.specs.Bytes.{kind_of}
use Rattle.tokenizer.specs.Feed.{current_of, onward, feed_at, Fed}

-- whether a byte that is read is a space or a tab
abbrev pub is_space_byte : Byte → Bool
is_space_byte (At b) = eqb (kind_of b) 1
is_space_byte End = false

-- whether whitespace is read at a point
abbrev pub space_at : List ℕ → Point → Bool
space_at s p = is_space_byte (current_of p (drop p.index s))

-- the point after one unit of a sheet
abbrev pub next_unit : List ℕ → Point → Point
next_unit s p = onward p (drop p.index s)

-- the point after whitespace of at most n units
unfoldable pub spaces_past : List ℕ → ℕ → Point → Point
spaces_past s zero p = p
spaces_past s (suc n) p = cond (space_at s p) (spaces_past s n (next_unit s p)) p

-- how many units that is
unfoldable pub space_units : List ℕ → ℕ → Point → ℕ
space_units s zero p = 0
space_units s (suc n) p = cond (space_at s p) (1 + space_units s n (next_unit s p)) 0

-- whether there are at least min among at most max units of whitespace
abbrev pub enough : List ℕ → ℕ → ℕ → Point → Bool
enough s min max p = leb min (space_units s max p)

-- an attempt at so much whitespace: the feed behind it, where there is so much
abbrev pub attempt_of : List ℕ → ℕ → ℕ → Point → Option Feed
attempt_of s min max p = cond (enough s min max p) (Some (feed_at s (spaces_past s max p))) None

-- the feed after an attempt: behind the whitespace, or as it was kept
abbrev pub after_attempt : List ℕ → ℕ → ℕ → Feed → Feed
after_attempt s min max f =
    cond (enough s min max f.point)
    (feed_at s (spaces_past s max f.point))
    f

-- whether no whitespace is read behind at most n units of it
abbrev pub space_ends : List ℕ → ℕ → Point → Bool
space_ends s n p = not (space_at s (spaces_past s n p))

-- whether one more unit of whitespace is to be passed, where at most `left` may be
abbrev pub space_ahead : Feed → ℕ → Bool
space_ahead f left = not (eqb left 0) && is_space_byte f.current

-- a feed that stands at a point of the sheet, and has read what is there
pub record Reading (s : List ℕ) (f : Feed) : Type 0 where
  pub fed : Fed s f.point
  pub read : f ≡ feed_at s f.point

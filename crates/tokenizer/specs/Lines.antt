-- The lines of a sheet. A line feed, a carriage return, or the two in this order end a line.
use Rattle.std.specs.Prelude.{ℕ, zero, suc, ◌+◌, Option, None, Some, Bool, true, false, cond, ◌&&◌, ◌||◌, not, List, [], ◌∷◌, eqb, length, drop}
use Rattle.tokenizer.specs.Bytes.{is_end}

-- whether a line feed stands in front
abbrev pub starts_lf : List ℕ → Bool
starts_lf [] = false
starts_lf (b ∷ u) = eqb b 10

-- ## Lines

-- a line: its bytes, and the length of the line end behind it, 0 at the sheet's end
pub record Line : Type 0 where
  pub body : List ℕ
  pub end : ℕ

-- the bytes up to the first line end
unfoldable pub line_body : List ℕ → List ℕ
line_body [] = []
line_body (b ∷ u) = cond (is_end b) [] (b ∷ line_body u)

-- the length of the line end in front, 0 at the sheet's end
abbrev pub end_at : List ℕ → ℕ
end_at [] = 0
end_at (b ∷ u) = cond (eqb b 13 && starts_lf u) 2 1

-- the length of the line end in front, where one stands there
abbrev pub line_end : List ℕ → Option ℕ
line_end [] = None
line_end (b ∷ u) = Some (end_at (b ∷ u))

-- the first line, where u is what is left of the sheet
abbrev pub line_of : List ℕ → Line
line_of u = record { body = line_body u; end = end_at (drop (length (line_body u)) u) }

-- one more byte in front of the first line
abbrev pub on_first : ℕ → List Line → List Line
on_first b [] = []
on_first b (l ∷ ls) = record { body = b ∷ l.body; end = l.end } ∷ ls

-- an empty line with a line end of n bytes, before other lines
abbrev pub empty_line : ℕ → List Line → List Line
empty_line n ls = record { body = []; end = n } ∷ ls

-- a carriage return in front of a line feed is part of that line's end
abbrev pub crlf : List Line → List Line
crlf [] = []
crlf (l ∷ ls) = empty_line 2 ls

-- the lines of a sheet; behind the last line end stands one more, which may be empty
unfoldable pub lines : List ℕ → List Line
lines [] = empty_line 0 []
lines (b ∷ u) =
    cond (eqb b 10) (empty_line 1 (lines u))
    (cond (eqb b 13) (cond (starts_lf u) (crlf (lines u)) (empty_line 1 (lines u)))
    (on_first b (lines u)))

-- ## Line starts and line numbers

-- the byte order mark of request U6
abbrev pub bom : List ℕ
bom = 0xEF ∷ 0xBB ∷ 0xBF ∷ []

-- whether the bytes u begin with the bytes t
abbrev pub begins_with : List ℕ → List ℕ → Bool
begins_with [] u = true
begins_with (a ∷ t) [] = false
begins_with (a ∷ t) (b ∷ u) = eqb b a && begins_with t u

-- where the first line starts: behind a byte order mark, otherwise at 0
abbrev pub first_start : List ℕ → ℕ
first_start s = cond (begins_with bom s) 3 0

-- whether a line end is complete with the byte b, where u follows
abbrev pub ends_line : ℕ → List ℕ → Bool
ends_line b u = eqb b 10 || (eqb b 13 && not (starts_lf u))

-- whether a line end is complete right before an offset
unfoldable pub ends_before : List ℕ → ℕ → Bool
ends_before u zero = false
ends_before [] (suc i) = false
ends_before (b ∷ u) (suc zero) = ends_line b u
ends_before (b ∷ u) (suc (suc i)) = ends_before u (suc i)

-- whether a line starts at an offset: where the first one does, and after each line end
abbrev pub starts_line : List ℕ → ℕ → Bool
starts_line s i = eqb i (first_start s) || ends_before s i

-- how many line ends are complete within the first n bytes
unfoldable pub ends_within : ℕ → List ℕ → ℕ
ends_within zero u = 0
ends_within (suc n) [] = 0
ends_within (suc n) (b ∷ u) = cond (ends_line b u) 1 0 + ends_within n u

-- the number of the line that an offset lies in
abbrev pub line_number : List ℕ → ℕ → ℕ
line_number s i = 1 + ends_within i s

-- ## Whitespace, over a table of kinds

-- whether there are no bytes
abbrev pub is_empty : List ℕ → Bool
is_empty [] = true
is_empty (b ∷ u) = false

module _ (kind : ℕ → ℕ) where
  -- whether a byte is of the kind of spaces and tabs
  abbrev pub is_space : ℕ → Bool
  is_space b = eqb (kind b) 1

  -- the spaces and tabs in front
  unfoldable pub indent : List ℕ → List ℕ
  indent [] = []
  indent (b ∷ u) = cond (is_space b) (b ∷ indent u) []

  -- what stands behind them
  unfoldable pub unindented : List ℕ → List ℕ
  unindented [] = []
  unindented (b ∷ u) = cond (is_space b) (unindented u) (b ∷ u)

  -- a line with nothing but spaces and tabs, or nothing
  abbrev pub blank : List ℕ → Bool
  blank u = is_empty (unindented u)

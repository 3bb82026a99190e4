-- Digits, and where words start.
use Rattle.std.specs.Prelude.{ℕ, ◌+◌, ◌-◌, ◌*◌, Bool, cond, ◌&&◌, List, eqb, ltb, length, get_or, Option, Some, None, option_map, option_and_then}

-- the value of a hexadecimal digit in lower case, none for any other byte
unfoldable pub digit_of : ℕ → Option ℕ
digit_of b = cond (ltb b 48) None (cond (ltb b 58) (Some (b - 48)) (cond (ltb b 97) None (cond (ltb b 103) (Some (b - 87)) None)))

-- the byte of two hexadecimal digits, none if they are none
abbrev pub pair_of : ℕ → ℕ → Option ℕ
pair_of a b = option_and_then (λ high. option_map (λ low. high * 16 + low) (digit_of b)) (digit_of a)

-- where the next word starts, behind the separator at a place; else the line's length
abbrev pub behind : ℕ → List ℕ → ℕ → ℕ
behind b s i = cond (eqb (get_or s i 0) b) (i + 1) (length s)

-- the same behind a space
abbrev pub next_word : List ℕ → ℕ → ℕ
next_word = behind 32

-- whether a hyphen stands at a place, the last of the line
abbrev pub is_hyphen : List ℕ → ℕ → Bool
is_hyphen s i = eqb (length s) (i + 1) && eqb (get_or s i 0) 45

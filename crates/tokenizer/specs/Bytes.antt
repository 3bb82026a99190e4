-- The kinds of bytes.
use Rattle.std.specs.Prelude.{ℕ, zero, suc, ◌+◌, ◌≤◌, ◌≡◌, List, [], ◌∷◌, Bool, true, cond, ◌||◌, ◌&&◌, not, eqb, leb, length, get_or}
use Rattle.tokenizer.specs.declared.kinds.Kind.{Kind}

-- the number of a kind
abbrev pub kind_number : Kind → ℕ
kind_number Kind.Other = 0
kind_number Kind.Space = 1
kind_number Kind.End = 2
kind_number Kind.Pipe = 3
kind_number Kind.Backslash = 4
kind_number Kind.Hyphen = 5
kind_number Kind.Colon = 6

-- 1 tab or space, 2 line end, 3 pipe, 4 backslash, 5 hyphen, 6 colon, 0 any other byte
unfoldable pub kind_of : ℕ → ℕ
kind_of b =
    cond (eqb b 9 || eqb b 32) 1
    (cond (eqb b 10 || eqb b 13) 2
    (cond (eqb b 124) 3
    (cond (eqb b 92) 4
    (cond (eqb b 45) 5
    (cond (eqb b 58) 6 0)))))

-- the values of a rule at i and the n - 1 numbers after it
unfoldable pub tabulated : (ℕ → ℕ) → ℕ → ℕ → List ℕ
tabulated rule i zero = []
tabulated rule i (suc n) = rule i ∷ tabulated rule (suc i) n

-- the built-in table
abbrev pub built_in : List ℕ
built_in = tabulated kind_of 0 256

-- a line feed or a carriage return
abbrev pub is_end : ℕ → Bool
is_end b = eqb b 10 || eqb b 13

-- ## A table of kinds that is brought (02, U9)

-- the kind of a byte by a table
unfoldable pub kind_in : List ℕ → ℕ → ℕ
kind_in t b = get_or t b 0

-- a test holds of each byte and its kind, in a table whose first entry is that of byte i
unfoldable pub each : (ℕ → ℕ → Bool) → ℕ → List ℕ → Bool
each test i [] = true
each test i (k ∷ t) = test i k && each test (suc i) t

-- no kind is above 6
abbrev pub known : ℕ → ℕ → Bool
known b k = leb k 6

-- bytes 9 and 32 have kind 1 and no other byte has it, bytes 10 and 13 have kind 2 and no other byte has it
abbrev pub exact : ℕ → ℕ → Bool
exact b k = cond (eqb b 9 || eqb b 32) (eqb k 1) (cond (is_end b) (eqb k 2) (not (eqb k 1 || eqb k 2)))

-- how many bytes have the kind k
unfoldable pub count : ℕ → List ℕ → ℕ
count k [] = 0
count k (j ∷ t) = cond (eqb j k) 1 0 + count k t

-- each of kinds 3 to 6 has exactly one byte, and `>` has kind 0
abbrev pub single : List ℕ → Bool
single t = eqb (count 3 t) 1 && (eqb (count 4 t) 1 && (eqb (count 5 t) 1 && (eqb (count 6 t) 1 && eqb (kind_in t 62) 0)))

-- questions 20, 21 and 22: the number of the first answered no, or 0
unfoldable pub kinds_refusal : List ℕ → ℕ
kinds_refusal t = cond (not (eqb (length t) 256 && each known 0 t)) 20 (cond (not (each exact 0 t)) 21 (cond (not (single t)) 22 0))

-- what reading asks of the kinds of bytes
pub record Reads (kind : ℕ → ℕ) : Type 0 where
  pub spaces : (b : ℕ) → eqb (kind b) 1 ≡ (eqb b 9 || eqb b 32)
  pub ends : (b : ℕ) → eqb (kind b) 2 ≡ is_end b
  pub quote : kind 62 ≡ 0

-- a table that is refused by none of 20, 21 and 22
pub record Passes (t : List ℕ) : Type 0 where
  pub whole : length t ≡ 256
  pub most : (b : ℕ) → kind_in t b ≤ 6
  pub reads : Reads (kind_in t)
  pub one : (k : ℕ) → 3 ≤ k → k ≤ 6 → count k t ≡ 1

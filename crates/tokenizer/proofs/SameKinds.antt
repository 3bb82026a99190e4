-- The kinds of bytes and their numbers: two kinds are the same exactly if their numbers are.
-- Assumes nothing.
use Prim.Native.Nat.{ℕ}
use mathlib.Core.List.{List}
use lib.ListN.{drop}
use mathlib.Core.Path.{◌≡◌, refl, sym, ◌∙◌}
use mathlib.Core.Bool.{Bool, true, false, not}
use lib.Dec.{eqb}
use denote.Enum.Declared.{tag_of}
use denote.Enum.Bare.{sameb}
use Rattle.tokenizer.specs.contracts.kinds.Kind.{the_type}
use Rattle.tokenizer.specs.declared.kinds.Kind.{Kind}
use Rattle.tokenizer.specs.declared.kinds.Kind.TheVariants.{Other, Space, End, Pipe, Backslash, Hyphen, Colon}
use Rattle.tokenizer.specs.Bytes.{kind_number, Reads}
use Rattle.tokenizer.specs.Moves.{ahead_of}
use Rattle.tokenizer.proofs.Ahead.{Front, goes}
use Rattle.tokenizer.proofs.SameTags.{same, other, not_unlike, unlike}

-- a kind as a number is its number
pub tagged : (k : Kind) → tag_of the_type k ≡ kind_number k
tagged Other = refl
tagged Space = refl
tagged End = refl
tagged Pipe = refl
tagged Backslash = refl
tagged Hyphen = refl
tagged Colon = refl

-- the test of two kinds is that of their numbers
pub same-numbers : (a b : Kind) → sameb the_type a b ≡ eqb (kind_number a) (kind_number b)
same-numbers a b = rw (tagged a, tagged b)

-- where it answers yes, the numbers are equal
pub same_number : (a b : Kind) {t : Bool} → t ≡ sameb the_type a b → t ≡ true → kind_number a ≡ kind_number b
same_number = same (sameb the_type) kind_number same-numbers

-- and where another test of them answers no
pub no_other : (a b : Kind) {t : Bool} → t ≡ not (sameb the_type a b) → t ≡ false → kind_number a ≡ kind_number b
no_other = not_unlike (sameb the_type) kind_number same-numbers

-- where it answers no, they differ
pub other_number : (a b : Kind) {t : Bool} → t ≡ sameb the_type a b → t ≡ false → kind_number a ≡ kind_number b → ⊥
other_number = other (sameb the_type) kind_number same-numbers

pub another : (a b : Kind) {t : Bool} → t ≡ not (sameb the_type a b) → t ≡ true → kind_number a ≡ kind_number b → ⊥
another = unlike (sameb the_type) kind_number same-numbers

-- at a byte of the kind k, which is not a line end's, the line goes on
pub same_front : {kind : ℕ → ℕ} (ok : Reads kind) (s : List ℕ) (i : ℕ) (a k : Kind) {t : Bool} → kind_number a ≡ ahead_of kind (drop i s) → t ≡ sameb the_type a k → t ≡ true → (kind_number k ≡ 2 → ⊥) → Front kind s i (kind_number k)
same_front ok s i a k e f h = goes ok s i (kind_number k) (sym (same_number a k f h) ∙ e)

-- The names of events and their numbers: two names are the same exactly if their numbers are.
-- Assumes nothing.
use Prim.Native.Nat.{◌+◌}
use native.Mathlib.Numerals.{add-one}
use mathlib.Core.Path.{◌≡◌, refl}
use mathlib.Core.Bool.{Bool, true, false, not}
use lib.Dec.{eqb, eqb-suc-suc}
use denote.Enum.Declared.{tag_of}
use denote.Enum.Bare.{sameb}
use Rattle.tokenizer.specs.contracts.event.Name.{the_type}
use Rattle.tokenizer.specs.declared.event.Name.{Name}
use Rattle.tokenizer.specs.declared.event.Name.TheVariants.{SpaceOrTab, LineEnding, Data, GfmTable, GfmTableBody, GfmTableHead, GfmTableRow, GfmTableCell, GfmTableCellText, GfmTableCellDivider, GfmTableDelimiterRow, GfmTableDelimiterMarker, GfmTableDelimiterCell, GfmTableDelimiterCellValue, GfmTableDelimiterFiller}
use Rattle.tokenizer.specs.Events.{number}
use Rattle.tokenizer.proofs.SameTags.{same, other, not_unlike, unlike}

-- a name's number is one more than its place in the declaration
pub tagged : (n : Name) → tag_of the_type n + 1 ≡ number n
tagged SpaceOrTab = refl
tagged LineEnding = refl
tagged Data = refl
tagged GfmTable = refl
tagged GfmTableBody = refl
tagged GfmTableHead = refl
tagged GfmTableRow = refl
tagged GfmTableCell = refl
tagged GfmTableCellText = refl
tagged GfmTableCellDivider = refl
tagged GfmTableDelimiterRow = refl
tagged GfmTableDelimiterMarker = refl
tagged GfmTableDelimiterCell = refl
tagged GfmTableDelimiterCellValue = refl
tagged GfmTableDelimiterFiller = refl

-- the test of two names is that of their numbers
pub same-names : (a b : Name) → sameb the_type a b ≡ eqb (number a) (number b)
same-names a b = rw (← tagged a, ← tagged b, add-one (tag_of the_type a), add-one (tag_of the_type b), eqb-suc-suc)

-- where it answers yes, the numbers are equal
pub same_name : (a b : Name) {t : Bool} → t ≡ sameb the_type a b → t ≡ true → number a ≡ number b
same_name = same (sameb the_type) number same-names

-- and where another test of them answers no
pub no_other_name : (a b : Name) {t : Bool} → t ≡ not (sameb the_type a b) → t ≡ false → number a ≡ number b
no_other_name = not_unlike (sameb the_type) number same-names

-- where it answers no, they differ
pub other_name : (a b : Name) {t : Bool} → t ≡ sameb the_type a b → t ≡ false → number a ≡ number b → ⊥
other_name = other (sameb the_type) number same-names

pub another_name : (a b : Name) {t : Bool} → t ≡ not (sameb the_type a b) → t ≡ true → number a ≡ number b → ⊥
another_name = unlike (sameb the_type) number same-names

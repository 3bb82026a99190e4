-- Refusals: the questions of 01 and 02 by their numbers.
use Rattle.std.specs.Prelude.{ℕ, List, length, cond, eqb, ltb, Result, Ok, Err}
use Rattle.tokenizer.specs.declared.refusal.Refusal.{Refusal}

-- the number of the question that a refusal tells was answered no
abbrev pub refusal_number : Refusal → ℕ
refusal_number Refusal.SheetTooLong = 1
refusal_number Refusal.NoLineStart = 2
refusal_number Refusal.IndentTooWide = 3
refusal_number Refusal.NoHeadLine = 4
refusal_number Refusal.LazyOrPierced = 5
refusal_number Refusal.NoDelimiterRow = 6
refusal_number Refusal.ColumnsDiffer = 7
refusal_number Refusal.BlankRow = 8
refusal_number Refusal.TooFewRawSlots = 9
refusal_number Refusal.NoRawTables = 10
refusal_number Refusal.EditsDoNotFit = 11
refusal_number Refusal.TooFewResultSlots = 12
refusal_number Refusal.NoTableToAlign = 13
refusal_number Refusal.TooFewAlignmentSlots = 14
refusal_number Refusal.NoKindTable = 20
refusal_number Refusal.WhitespaceKindsDiffer = 21
refusal_number Refusal.PunctuationKindsDiffer = 22

-- the refusal by the question with a number
abbrev pub refusal_of : ℕ → Refusal
refusal_of n =
    cond (eqb n 1) Refusal.SheetTooLong
    (cond (eqb n 2) Refusal.NoLineStart
    (cond (eqb n 3) Refusal.IndentTooWide
    (cond (eqb n 4) Refusal.NoHeadLine
    (cond (eqb n 5) Refusal.LazyOrPierced
    (cond (eqb n 6) Refusal.NoDelimiterRow
    (cond (eqb n 7) Refusal.ColumnsDiffer
    (cond (eqb n 8) Refusal.BlankRow
    (cond (eqb n 9) Refusal.TooFewRawSlots
    (cond (eqb n 10) Refusal.NoRawTables
    (cond (eqb n 11) Refusal.EditsDoNotFit
    (cond (eqb n 12) Refusal.TooFewResultSlots
    (cond (eqb n 13) Refusal.NoTableToAlign
    (cond (eqb n 14) Refusal.TooFewAlignmentSlots
    (cond (eqb n 20) Refusal.NoKindTable
    (cond (eqb n 21) Refusal.WhitespaceKindsDiffer
    Refusal.PunctuationKindsDiffer)))))))))))))))

-- question 1: 1 where a sheet has more than 65,536 bytes, otherwise 0
abbrev pub length_refusal : List ℕ → ℕ
length_refusal s = cond (ltb 65536 (length s)) 1 0

-- what a call answers that is accepted with x, or refused by the first question answered no: its number is n, 0 where there is none
abbrev pub answered : {A : Type 0} → ℕ → A → Result A Refusal
answered n x = cond (eqb n 0) (Ok x) (Err (refusal_of n))

-- the number of an answer: 0 where it is accepted
abbrev pub answer_number : {A : Type 0} → Result A Refusal → ℕ
answer_number (Ok x) = 0
answer_number (Err r) = refusal_number r

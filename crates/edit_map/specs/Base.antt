-- What the definitions of the resolver share.
use Rattle.std.specs.Prelude.{ℕ, ◌+◌, min, Bool, ◌||◌, eqb}
use Rattle.tokenizer.specs.Events.{Data, GfmTableRow, GfmTableDelimiterRow, GfmTableDelimiterMarker, GfmTableDelimiterFiller}

-- the largest usize
abbrev pub most : ℕ
most = 18446744073709551615

-- a sum that stops there
abbrev pub plus_of : ℕ → ℕ → ℕ
plus_of a b = min (a + b) most

-- the name of a row
abbrev pub is_row_name : ℕ → Bool
is_row_name n = eqb n GfmTableRow || eqb n GfmTableDelimiterRow

-- the name of a cell's text, or of a part of a delimiter value
abbrev pub is_text_name : ℕ → Bool
is_text_name n = eqb n Data || eqb n GfmTableDelimiterMarker || eqb n GfmTableDelimiterFiller

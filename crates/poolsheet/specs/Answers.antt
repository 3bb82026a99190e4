-- The counts that are written for each answer: its own where accepted, zeros where refused.
use Rattle.std.specs.Prelude.{ℕ, List, [], ◌∷◌, Result, Ok, Err}
use Rattle.tokenizer.specs.declared.refusal.Refusal.{Refusal}
use Rattle.gfm_table.specs.declared.calls.HeadCounts.{HeadCounts}
use Rattle.gfm_table.specs.declared.calls.RowCounts.{RowCounts}
use Rattle.sheet.specs.declared.calls.SheetCounts.{SheetCounts}

-- events, end and cells
abbrev pub counts_of_head : Result HeadCounts Refusal → List ℕ
counts_of_head (Ok c) = c.events ∷ c.end ∷ c.cells ∷ []
counts_of_head (Err r) = 0 ∷ 0 ∷ 0 ∷ []

-- events and end
abbrev pub counts_of_row : Result RowCounts Refusal → List ℕ
counts_of_row (Ok c) = c.events ∷ c.end ∷ []
counts_of_row (Err r) = 0 ∷ 0 ∷ []

-- result events, or alignments
abbrev pub count_of : Result ℕ Refusal → List ℕ
count_of (Ok n) = n ∷ []
count_of (Err r) = 0 ∷ []

-- tables, raw events, result events and alignments
abbrev pub counts_of_sheet : Result SheetCounts Refusal → List ℕ
counts_of_sheet (Ok c) = c.tables ∷ c.events ∷ c.results ∷ c.alignments ∷ []
counts_of_sheet (Err r) = 0 ∷ 0 ∷ 0 ∷ 0 ∷ []

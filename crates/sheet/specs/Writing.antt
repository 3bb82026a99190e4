-- The tables of a sheet, written one after the other.
use Rattle.std.specs.Prelude.{ℕ, ◌+◌, List, [], ◌∷◌, Bool, cond, eqb, ltb, length}
use Rattle.tokenizer.specs.Bytes.{kind_in, kinds_refusal}
use Rattle.sheet.specs.declared.calls.SheetCounts.{SheetCounts}
use Rattle.sheet.specs.Walk.{Found, tables, raw_of, resolved_of, aligned_of}
use Rattle.sheet.specs.Aligning.{filled_if}

-- the tables that are read: none by a table of kinds that is refused, and none of a sheet that is too long
abbrev pub tables_read : List ℕ → List ℕ → Bool → List Found
tables_read s t on = cond (eqb (kinds_refusal t) 0) (cond (ltb 65536 (length s)) [] (tables (kind_in t) on s)) []

-- how many tables, raw events, result events and alignments there are
abbrev pub counts_of : List Found → SheetCounts
counts_of fs = record { tables = length fs; events = length (raw_of fs); results = length (resolved_of fs); alignments = length (aligned_of fs) }

-- the counts with one more table, which has m alignments and whose events end before the slots a and b
abbrev pub one_more : SheetCounts → ℕ → ℕ → ℕ → SheetCounts
one_more c a b m = record { tables = c.tables + 1; events = a; results = b; alignments = c.alignments + m }

-- the slots with the alignments of some tables from the place n on, those of a table where there are slots enough
unfoldable pub aligned_from : ℕ → List Found → List ℕ → List ℕ
aligned_from n [] out = out
aligned_from n (f ∷ fs) out = aligned_from (n + length f.aligned) fs (filled_if n f.aligned out)

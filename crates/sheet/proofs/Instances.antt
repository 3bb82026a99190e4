-- The hypotheses of demand 3 can be met. Remarks and marked sheets read by computing.
-- Assumes nothing.
use Prim.Native.Nat.{ℕ}
use mathlib.Core.Path.{◌≡◌, refl, ap}
use mathlib.Core.List.Memᴰ
use mathlib.Core.List.{List, [], ◌∷◌, ◌++◌}
use mathlib.Core.Bool.{Bool, true, false, cond}
use lib.Dec.{eqb}
use lib.ListN.{length}
use Rattle.tokenizer.specs.Bytes.{kind_of, tabulated, built_in, kind_in, each, count, kinds_refusal}
use Rattle.tokenizer.proofs.KindTables.{built_is}
use Rattle.tokenizer.specs.Points as Points
use Rattle.tokenizer.specs.Lines as Lines
use Rattle.tokenizer.specs.Lines.{bom, starts_line}
use Rattle.tokenizer.specs.Places as Places
use Rattle.gfm_table.specs.Rows as Rows
use Rattle.gfm_table.specs.Heads as Heads
use Rattle.sheet.specs.Walk as Walk
use Rattle.sheet.specs.Walk.{Found, remark, tables}
use Rattle.sheet.specs.Demands.{blank_last, Fresh, BodyLine}

-- a|b, -|-
abbrev table : List ℕ
table = 97 ∷ 124 ∷ 98 ∷ 10 ∷ 45 ∷ 124 ∷ 45 ∷ 10 ∷ []

-- under it the body line c
body-line : BodyLine (tables kind_of true (table ++ ((99 ∷ []) ++ []))) 8 9
unfolding kind_of Points.column_past Points.column_after Lines.lines Lines.indent Lines.unindented Places.placed Rows.row_pieces Rows.delimiter_pieces Rows.passed Heads.solid Heads.dividers Heads.trailing Heads.stretches Heads.untailed Heads.trimmed Heads.untrailed Heads.hyphens Heads.all_values Heads.marked Heads.alignments Walk.closes Walk.heads Walk.body_rows
body-line = record { found = _; row = _; among = Memᴰ.head refl; within = Memᴰ.head refl; from = refl; to = refl }

-- a, a blank line, a
fresh : Fresh kind_of (97 ∷ 10 ∷ 32 ∷ 13 ∷ 10 ∷ 97 ∷ []) 5
unfolding kind_of Lines.lines Lines.ends_within Lines.unindented Places.placed blank_last
fresh = record { from = record { above = _ ∷ _ ∷ []; line = _; below = []; split = refl; from = refl; number = refl }; gap = refl }

-- `>` is a remark, behind 3 spaces too; behind 4 spaces, a tab, or a space and a tab it is none
remarks :
    (remark kind_of (62 ∷ []) ≡ true)
    × (remark kind_of (32 ∷ 32 ∷ 32 ∷ 62 ∷ 97 ∷ []) ≡ true)
    × (remark kind_of (32 ∷ 32 ∷ 32 ∷ 32 ∷ 62 ∷ []) ≡ false)
    × (remark kind_of (9 ∷ 62 ∷ []) ≡ false)
    × (remark kind_of (32 ∷ 9 ∷ 62 ∷ []) ≡ false)
unfolding kind_of Points.column_past Points.column_after Lines.indent Lines.unindented
remarks = (refl, refl, refl, refl, refl)

-- the tables of a sheet, each by its number of body rows
unfoldable bodies : List Found → List ℕ
bodies [] = []
bodies (f ∷ fs) = length f.table.body ∷ bodies fs

-- a remark behind the table ends it, and a line behind the remark is no row; a remark between two tables ends the first;
-- behind a tab `>` is a row, and so are the lines behind it; a remark over a delimiter row is no head line
remark-read :
    (bodies (tables kind_of true (table ++ (62 ∷ 10 ∷ 99 ∷ []))) ≡ 0 ∷ [])
    × (bodies (tables kind_of false (table ++ (62 ∷ 10 ∷ table))) ≡ 0 ∷ 0 ∷ [])
    × (bodies (tables kind_of false (table ++ (9 ∷ 62 ∷ 10 ∷ table))) ≡ 3 ∷ [])
    × (bodies (tables kind_of false (62 ∷ table)) ≡ [])
unfolding kind_of Points.column_past Points.column_after Lines.lines Lines.indent Lines.unindented Places.placed Rows.row_pieces Rows.delimiter_pieces Rows.passed Heads.solid Heads.dividers Heads.trailing Heads.stretches Heads.untailed Heads.trimmed Heads.untrailed Heads.hyphens Heads.all_values Heads.marked Heads.alignments Walk.closes Walk.heads Walk.body_rows bodies
remark-read = (refl, refl, refl, refl)

-- behind the byte order mark line 1 starts at offset 3; offsets 0 to 2 start no line; a second one, or two of its bytes, are data
bom-starts :
    (starts_line (bom ++ table) 0 ≡ false)
    × (starts_line (bom ++ table) 1 ≡ false)
    × (starts_line (bom ++ table) 2 ≡ false)
    × (starts_line (bom ++ table) 3 ≡ true)
    × (starts_line (bom ++ table) 7 ≡ true)
    × (starts_line bom 3 ≡ true)
    × (starts_line (bom ++ bom) 6 ≡ false)
    × (starts_line (0xEF ∷ 0xBB ∷ table) 0 ≡ true)
unfolding Lines.ends_before
bom-starts = (refl, refl, refl, refl, refl, refl, refl, refl)

-- no line stands before the first one; behind a blank line a mark is the beginning of a line
fresh-first : Fresh kind_of (bom ++ table) 3
unfolding kind_of Lines.lines Lines.ends_within Lines.unindented Places.placed blank_last
fresh-first = record { from = record { above = []; line = _; below = _; split = refl; from = refl; number = refl }; gap = refl }

fresh-later : Fresh kind_of (10 ∷ bom) 1
unfolding kind_of Lines.lines Lines.ends_within Lines.unindented Places.placed blank_last
fresh-later = record { from = record { above = _ ∷ []; line = _; below = []; split = refl; from = refl; number = refl }; gap = refl }

-- the tables of a sheet, each by the index and the column where its head line begins
unfoldable entries : List Found → List (ℕ × ℕ)
entries [] = []
entries (f ∷ fs) = (f.table.entry.index, f.table.entry.column) ∷ entries fs

-- the table behind the mark, and where its head line begins; a remark behind it
bom-read : (entries (tables kind_of true (bom ++ table)) ≡ (3, 1) ∷ []) × (entries (tables kind_of true (bom ++ (62 ∷ table))) ≡ [])
unfolding kind_of Points.column_past Points.column_after Lines.lines Lines.indent Lines.unindented Places.placed Rows.row_pieces Rows.delimiter_pieces Rows.passed Heads.solid Heads.dividers Heads.trailing Heads.stretches Heads.untailed Heads.trimmed Heads.untrailed Heads.hyphens Heads.all_values Heads.marked Heads.alignments Walk.closes Walk.heads Walk.body_rows entries
bom-read = (refl, refl)

-- ## Tables of kinds

-- the built-in kinds, but for one byte
abbrev but : ℕ → ℕ → (ℕ → ℕ) → ℕ → ℕ
but b k kind c = cond (eqb c b) k (kind c)

-- `;` is the pipe, and `|` is data
abbrev semicolon : List ℕ
semicolon = tabulated (but 59 3 (but 124 0 kind_of)) 0 256

-- it passes
semicolon-passes : kinds_refusal semicolon ≡ 0
unfolding kinds_refusal each count kind_in tabulated kind_of
semicolon-passes = refl

-- with it `a;b` over `-;-` is a table of two columns, and `a|b` over `-|-` is none
semicolon-read :
    (entries (tables (kind_in semicolon) true (97 ∷ 59 ∷ 98 ∷ 10 ∷ 45 ∷ 59 ∷ 45 ∷ 10 ∷ [])) ≡ (0, 1) ∷ [])
    × (entries (tables (kind_in semicolon) true table) ≡ [])
unfolding kind_in tabulated kind_of Points.column_past Points.column_after Lines.lines Lines.indent Lines.unindented Places.placed Rows.row_pieces Rows.delimiter_pieces Rows.passed Heads.solid Heads.dividers Heads.trailing Heads.stretches Heads.untailed Heads.trimmed Heads.untrailed Heads.hyphens Heads.all_values Heads.marked Heads.alignments Walk.closes Walk.heads Walk.body_rows entries
semicolon-read = (refl, refl)

-- no table, one entry too few and one too many, and a kind above 6; byte 11 as a space, and byte 9 as none; two pipes, none, and `>` as the pipe
refusals :
    (kinds_refusal [] ≡ 20)
    × (kinds_refusal (tabulated kind_of 0 255) ≡ 20)
    × (kinds_refusal (tabulated kind_of 0 257) ≡ 20)
    × (kinds_refusal (tabulated (but 97 7 kind_of) 0 256) ≡ 20)
    × (kinds_refusal (tabulated (but 11 1 kind_of) 0 256) ≡ 21)
    × (kinds_refusal (tabulated (but 9 0 kind_of) 0 256) ≡ 21)
    × (kinds_refusal (tabulated (but 59 3 kind_of) 0 256) ≡ 22)
    × (kinds_refusal (tabulated (but 124 0 kind_of) 0 256) ≡ 22)
    × (kinds_refusal (tabulated (but 62 3 (but 124 0 kind_of)) 0 256) ≡ 22)
unfolding kinds_refusal each count kind_in tabulated kind_of
refusals = (refl, refl, refl, refl, refl, refl, refl, refl, refl)

-- with the built-in table the tables are those of the built-in kinds
pub built_tables : (s : List ℕ) (on : Bool) → tables (kind_in built_in) on s ≡ tables kind_of on s
built_tables s on = ap (λ (kind : ℕ → ℕ). tables kind on s) built_is

-- A table's counts are as many: cells, values, alignments.
-- Assumes nothing.
use Prim.Native.Nat.{ℕ, suc, ◌+◌}
use mathlib.Core.Path.{◌≡◌, refl, ap, sym, ◌∙◌}
use mathlib.Core.List.{List, [], ◌∷◌, ◌++◌, Memᴰ}
use mathlib.Core.Bool.{Bool, true, false, cond, ◌||◌}
use native.Mathlib.Omega.{arith}
use lib.Dec.{eqb}
use lib.ListN.{length}
use Rattle.tokenizer.specs.declared.event.Point.{Point}
use Rattle.tokenizer.specs.declared.event.Event.{Event}
use Rattle.tokenizer.specs.Events.{SpaceOrTab, Data, GfmTableRow, GfmTableCell, GfmTableCellText, GfmTableCellDivider, GfmTableDelimiterCell, GfmTableDelimiterCellValue, enter, leave, point_of}
use Rattle.tokenizer.specs.Places.{Placed, placed}
use Rattle.gfm_table.specs.Rows.{Passed, row_pieces, both}
use Rattle.gfm_table.specs.Heads.{lone_divider, solid, all_values, values, head_cells, alignments}
use Rattle.gfm_table.specs.Raw.{text_row, delimiter_row}
use Rattle.edit_map.specs.Tables.{is_text, any_text, cells, row_inner, delimiter_inner, first_point, boundary, cell_events, resolved_text, resolved_rows, resolved_body, resolved_table}
use Rattle.edit_map.specs.Align.{is_entry, is_marker}
use Rattle.sheet.specs.Walk.{Found, closes, body_rows, table_of, tables}
use Rattle.sheet.specs.Demands.{entered, first_row, Counted}
use Rattle.sheet.proofs.Lists.{All, empty, also, all_append}
use Rattle.sheet.proofs.Tests.{test, by_cases}
use Rattle.sheet.proofs.Walks.{starting, onward}
use Rattle.sheet.proofs.Heading.{headed}
use Rattle.sheet.proofs.Every.{Good, Both, cells-all, after_text-all, upto_text-all, row_pieces_names, delimiter_pieces_names, passed-all, all_both-all, row_inner-all, text_cells_all}
use Rattle.sheet.proofs.RowsIn.{resolved_delimiter, resolved-rows}
use Rattle.sheet.proofs.Tally.{cells-counted}
use Rattle.sheet.proofs.Runs.{Run, idle, run, busy, fed, feed, feeds, told, cells_tell, cells_tell_lem}

abbrev one : Bool → ℕ
one b = cond b 1 0

-- ## Events that do not enter n

module _ (n : ℕ) where
  abbrev pub Silent : Event → Type 0
  Silent e = is_entry n e ≡ false

  pub good : (m : ℕ) → eqb m n ≡ false → Good Silent m
  good m h = record { enters = λ p. h; leaves = λ p. refl }

  silent_none : {es : List Event} → All Silent es → entered n es ≡ 0
  unfolding entered
  silent_none empty = refl
  silent_none (also h hs) = rw (h, silent_none hs)

  entered-append : (es fs : List Event) → entered n (es ++ fs) ≡ entered n es + entered n fs
  unfolding entered
  entered-append [] fs = omega arith
  entered-append (e ∷ es) fs = omega (arith, entered-append es fs)

  -- a text row's pieces are whitespace, dividers and data
  text_silent : (kind : ℕ → ℕ) → eqb SpaceOrTab n ≡ false → eqb GfmTableCellDivider n ≡ false → eqb Data n ≡ false → (p : Point) (u : List ℕ)
      → All (Both Silent) (text_row kind p u).pieces
  text_silent kind w v d p u = passed-all Silent p (row_pieces_names kind (Good Silent) (good _ w) (good _ v) (good _ d) false u)

-- ## Cells of the head row

cells-entered : (n : ℕ) → eqb n n ≡ true → (inner : List Passed → List Event) (p : Point) {cs : List (List Passed)} → All (λ c. entered n (inner c) ≡ 0) cs
    → entered n (cell_events n inner p cs) ≡ length cs
unfolding entered cell_events
cells-entered n e inner p empty = refl
cells-entered n e inner p (also {a = c} {xs = cs} h hs) =
    rw (entered-append n (enter n (first_point c p) ∷ inner c) (leave n (boundary cs p) ∷ cell_events n inner p cs), e) (omega (arith, cells-entered n e inner p hs))

all_map : {A : Type 0} {P Q : A → Type 0} {xs : List A} → ((a : A) → P a → Q a) → All P xs → All Q xs
all_map f empty = empty
all_map f (also h hs) = also (f _ h) (all_map f hs)

abbrev Cell : ℕ
Cell = GfmTableCell

head-cells : (kind : ℕ → ℕ) (p : Point) (u : List ℕ) → lone_divider (solid (row_pieces kind false u)) ≡ false → entered Cell (resolved_text (text_row kind p u)) ≡ head_cells kind u
unfolding entered
head-cells kind p u h =
    let r = text_row kind p u in
    let events = cell_events Cell row_inner (point_of r.exit) (cells false r.pieces) in
    let silent = all_map (λ c k. silent_none Cell (row_inner-all (Silent Cell) (λ e z. z) (good Cell _ refl) k)) (cells-all (Both (Silent Cell)) false (text_silent Cell kind refl refl refl p u)) in
    omega (arith, entered-append Cell (r.entry ∷ events) (r.exit ∷ []), cells-entered Cell refl row_inner (point_of r.exit) silent, cells-counted p (row_pieces kind false u) h)

-- ## Values of the delimiter row

abbrev Value : ℕ
Value = GfmTableDelimiterCellValue

inner-values : {xs : List Passed} → All (Both (Silent Value)) xs → entered Value (delimiter_inner xs) ≡ one (any_text xs)
unfolding entered delimiter_inner any_text
inner-values empty = refl
inner-values (also {a = x} {xs} h hs) =
    let q = Both (Silent Value) in
    let silent = all_append (all_both-all (Silent Value) (also h (upto_text-all q hs))) (also refl (all_both-all (Silent Value) (after_text-all q hs))) in
    test (is_text x) (λ e. rw e (ap (λ k. 1 + k) (silent_none Value silent))) (λ e. rw (e, h.entry, h.exit) (omega (arith, inner-values hs)))

busy-feeds : (r : Run) (xs : List Passed) → busy (feeds r xs) ≡ busy r || any_text xs
unfolding feeds any_text
busy-feeds idle [] = refl
busy-feeds (run f l) [] = refl
busy-feeds r (x ∷ xs) = busy-feeds (feed r x) xs ∙ go r (is_text x) (is_marker x.entry)
  where
    go : (r : Run) (t m : Bool) → busy (fed t m r) || any_text xs ≡ busy r || (t || any_text xs)
    go r false m = refl
    go idle true m = refl
    go (run f l) true m = refl

told-length : (r : Run) (rest : List ℕ) → length (told r rest) ≡ one (busy r) + length rest
told-length idle rest = omega arith
told-length (run f l) rest = omega arith

-- a cell with text tells an alignment
cells-values : (p : Point) {cs : List (List Passed)} → All (All (Both (Silent Value))) cs → entered Value (cell_events GfmTableDelimiterCell delimiter_inner p cs) ≡ length (cells_tell idle cs)
unfolding entered cell_events cells_tell
cells-values p empty = refl
cells-values p (also {a = c} {xs = cs} h hs) =
    let rest = leave GfmTableDelimiterCell (boundary cs p) ∷ cell_events GfmTableDelimiterCell delimiter_inner p cs in
    rw (entered-append Value (enter GfmTableDelimiterCell (first_point c p) ∷ delimiter_inner c) rest, inner-values h, told-length (feeds idle c) (cells_tell idle cs), busy-feeds idle c)
    (omega (arith, cells-values p hs))

delimiter-values : (kind : ℕ → ℕ) (p : Point) (u : List ℕ) → all_values kind (values kind u) ≡ true
    → entered Value (resolved_delimiter (delimiter_row kind p u)) ≡ length (alignments kind (values kind u))
unfolding entered
delimiter-values kind p u h =
    let r = delimiter_row kind p u in
    let g = good Value in
    let silent = passed-all (Silent Value) p (delimiter_pieces_names kind (Good (Silent Value)) (g _ refl) (g _ refl) (g _ refl) (g _ refl) u) in
    let events = cell_events GfmTableDelimiterCell delimiter_inner (point_of r.exit) (cells false r.pieces) in
    omega (
      arith,
      entered-append Value (r.entry ∷ events) (r.exit ∷ []),
      cells-values (point_of r.exit) (cells-all (Both (Silent Value)) false silent),
      ap length (cells_tell_lem kind p u h),
    )

-- ## No other row has values

-- a text row enters a row, cells, texts and pieces alone
pub text_row_silent : (n : ℕ) (kind : ℕ → ℕ) → eqb SpaceOrTab n ≡ false → eqb GfmTableCellDivider n ≡ false → eqb Data n ≡ false
    → eqb GfmTableCellText n ≡ false → eqb GfmTableCell n ≡ false → eqb GfmTableRow n ≡ false → (p : Point) (u : List ℕ) → All (Silent n) (resolved_text (text_row kind p u))
text_row_silent n kind w v d t c r p u =
    also r (all_append (text_cells_all (Silent n) (λ e z. z) (good n _ t) (good n _ c) _ (text_silent n kind w v d p u)) (also refl empty))

text-none : (kind : ℕ → ℕ) (p : Point) (u : List ℕ) → All (Silent Value) (resolved_text (text_row kind p u))
text-none kind p u = text_row_silent Value kind refl refl refl refl refl refl p u

rows_none : (kind : ℕ → ℕ) (k : Placed) (ls : List Placed) → All (Silent Value) (resolved_rows (body_rows kind k ls))
unfolding resolved_rows body_rows
rows_none kind k [] = empty
rows_none kind k (l ∷ ls) =
    by_cases (λ z. All (Silent Value) (resolved_rows z)) (closes kind l.line.body) (λ e. empty)
    (λ e. also refl (also refl (all_append (text-none kind l.at l.line.body) (rows_none kind l ls))))

body-none : (kind : ℕ → ℕ) (k : Placed) (ls : List Placed) (e : Event) → All (Silent Value) (resolved_body e (body_rows kind k ls))
unfolding body_rows
body-none kind k [] e = also refl empty
body-none kind k (l ∷ ls) e =
    by_cases (λ z. All (Silent Value) (resolved_body e z)) (closes kind l.line.body) (λ f. also refl empty)
    (λ f. also refl (also refl (also refl (all_append (text-none kind l.at l.line.body) (all_append (rows_none kind l ls) (also refl (also refl empty)))))))

table-values : (kind : ℕ → ℕ) (l d : Placed) (ls : List Placed) → all_values kind (values kind d.line.body) ≡ true
    → entered Value (resolved_table (table_of kind l d ls)) ≡ length (alignments kind (values kind d.line.body))
unfolding entered
table-values kind l d ls h =
    let t = table_of kind l d ls in
    let row = resolved_delimiter t.delimiter in
    let rest = t.exit ∷ resolved_body t.exit t.body in
    omega (
      arith,
      entered-append Value (resolved_text t.head) (both t.between ++ (row ++ rest)),
      silent_none Value (text-none kind l.at l.line.body),
      entered-append Value row rest,
      delimiter-values kind d.at d.line.body h,
      silent_none Value (body-none kind d ls t.exit),
    )

alignments-length : (kind : ℕ → ℕ) (cs : List (List ℕ)) → length (alignments kind cs) ≡ length cs
unfolding alignments
alignments-length kind [] = refl
alignments-length kind (c ∷ cs) = ap suc (alignments-length kind cs)

pub counted : (kind : ℕ → ℕ) (on : Bool) (s : List ℕ) (f : Found) → Memᴰ f (tables kind on s) → Counted kind s f
unfolding placed
counted kind on s f i =
    let h = headed kind on s f i in
    let l = starting h.at h.l in
    let d = starting (onward h.at h.l) h.d in
    let ls = placed (onward d.at h.d) h.ls in
    let n = alignments-length kind (values kind h.d.body) in
    rw h.same
    (record {
      above = h.above;
      head = l;
      delimiter = d;
      below = ls;
      split = h.split;
      begins = refl;
      some = omega (arith, h.head.some);
      counted = sym h.head.count ∙ sym n;
      written = sym n;
      cells = ap (λ z. entered Cell (first_row z)) (resolved-rows kind l d ls) ∙ head-cells kind h.at h.l.body h.head.solid ∙ sym h.head.count ∙ sym n;
      values = table-values kind l d ls h.head.valid;
    })

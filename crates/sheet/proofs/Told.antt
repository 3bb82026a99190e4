-- A table's resolved events tell its alignments.
-- Assumes nothing.
use Prim.Native.Nat.{ℕ}
use mathlib.Core.Path.{◌≡◌, refl, ap, ◌∙◌}
use mathlib.Core.List.{List, [], ◌∷◌, ◌++◌, append_assoc}
use mathlib.Core.Bool.{Bool, true, false, true≢false, false≢true}
use mathlib.Core.Option.{Option, some}
use lib.Dec.{eqb}
use Rattle.tokenizer.specs.declared.event.Point.{Point}
use Rattle.tokenizer.specs.declared.event.Event.{Event}
use Rattle.tokenizer.specs.Points.{past}
use Rattle.tokenizer.specs.Events.{GfmTableDelimiterRow, GfmTableDelimiterCell, GfmTableDelimiterCellValue, enter, leave, point_of}
use Rattle.tokenizer.specs.Places.{Placed, placed, end_of}
use Rattle.gfm_table.specs.Rows.{Piece, Passed, passed, both, all_both}
use Rattle.gfm_table.specs.Heads.{all_values, values, alignments}
use Rattle.edit_map.specs.Tables.{is_text, any_text, cells, last_text, after_text, upto_text, delimiter_inner, boundary, cell_events, resolved_body, resolved_table}
use Rattle.edit_map.specs.Align.{is_entry, is_exit, is_marker, more, aligned, outside, inside, row_alignments, after_entry, table_alignments}
use Rattle.sheet.specs.Walk.{table_of}
use Rattle.sheet.specs.Demands.{Told}
use Rattle.sheet.proofs.Lists.{All, empty, also}
use Rattle.sheet.proofs.Tests.{test}
use Rattle.sheet.proofs.Walks.{starting, onward}
use Rattle.sheet.proofs.Heading.{headed}
use Rattle.sheet.proofs.RowsIn.{resolved_delimiter}
use Rattle.sheet.proofs.Runs.{Run, idle, run, feeds, told, cells_tell, cells_tell_lem}
use Rattle.sheet.proofs.Every.{cells-all, after_text-all, delimiter_pieces_names}
use Rattle.sheet.proofs.Counts.{Silent, text_row_silent}

-- an event that says nothing of a delimiter row's values
record Mute (e : Event) : Type 0 where
  row : is_exit GfmTableDelimiterRow e ≡ false
  opens : is_entry GfmTableDelimiterCellValue e ≡ false
  shuts : is_exit GfmTableDelimiterCellValue e ≡ false

record Plain (x : Passed) : Type 0 where
  entry : Mute x.entry
  exit : Mute x.exit
  marker : is_marker x.exit ≡ is_marker x.entry

-- what is read of a delimiter row outside its values: the record before does not matter
abbrev reads : List Event → Option (List ℕ)
reads es = row_alignments outside false es

reads_any : (b : Bool) (es : List Event) → row_alignments outside b es ≡ reads es
unfolding row_alignments
reads_any b [] = refl
reads_any b (e ∷ es) = refl

reads_mute : {e : Event} (es : List Event) → Mute e → reads (e ∷ es) ≡ reads es
unfolding row_alignments
reads_mute {e} es h = rw (h.row, h.opens, h.shuts) (reads_any (is_marker e) es)

inside_mute : (f l : Bool) {e : Event} (es : List Event) → Mute e → row_alignments (inside f) l (e ∷ es) ≡ row_alignments (inside f) (is_marker e) es
unfolding row_alignments
inside_mute f l es h = rw (h.row, h.opens, h.shuts)

all_both_mute : {xs : List Passed} (es : List Event) → All Plain xs → reads (all_both xs ++ es) ≡ reads es
unfolding all_both
all_both_mute es empty = refl
all_both_mute es (also {a = x} {xs} h hs) = reads_mute (x.exit ∷ all_both xs ++ es) h.entry ∙ reads_mute (all_both xs ++ es) h.exit ∙ all_both_mute es hs

-- the alignment of a run, before what is read behind it
abbrev adds : Run → Option (List ℕ) → Option (List ℕ)
adds idle o = o
adds (run f l) o = more (aligned f l) o

feeds-none : (r : Run) (xs : List Passed) → any_text xs ≡ false → feeds r xs ≡ r
unfolding feeds any_text
feeds-none r [] h = refl
feeds-none r (x ∷ xs) h = test (is_text x) (λ e. absurd (true≢false (rw e at h))) (λ e. rw e (feeds-none r xs (rw e at h)))

-- the latest text before others does not matter
feeds_forget : (f l m : Bool) (xs : List Passed) → any_text xs ≡ true → feeds (run f l) xs ≡ feeds (run f m) xs
unfolding feeds any_text
feeds_forget f l m [] h = absurd (false≢true h)
feeds_forget f l m (x ∷ xs) h = test (is_text x) (λ e. rw e) (λ e. rw e (feeds_forget f l m xs (rw e at h)))

-- a piece before the last text is its run's latest, or forgotten
latest : (f l : Bool) (x : Passed) (xs : List Passed) → any_text (x ∷ xs) ≡ true → feeds (run f (is_marker x.entry)) xs ≡ feeds (run f l) (x ∷ xs)
unfolding feeds any_text
latest f l x xs h = test (is_text x) (λ e. rw e) (λ e. rw e (feeds_forget f (is_marker x.entry) l xs (rw e at h)))

abbrev leaving : Point → Event
leaving = leave GfmTableDelimiterCellValue

-- a value from one of its pieces on
value_tells : (f l : Bool) (p : Point) (es : List Event) {xs : List Passed} → All Plain xs
    → row_alignments (inside f) l (all_both (upto_text xs) ++ leaving p ∷ es) ≡ adds (feeds (run f l) xs) (reads es)
unfolding row_alignments all_both upto_text feeds
value_tells f l p es empty = ap (more (aligned f l)) (reads_any _ es)
value_tells f l p es (also {a = x} {xs} h hs) =
    let m = is_marker x.entry in
    let rest = all_both (upto_text xs) ++ leaving p ∷ es in
    test (any_text (x ∷ xs))
    (λ c.
    rw c
    (inside_mute f l (x.exit ∷ rest) h.entry ∙ inside_mute f m rest h.exit ∙ ap (λ b. row_alignments (inside f) b rest) h.marker ∙ value_tells f m p es hs
    ∙ ap (λ r. adds r (reads es)) (latest f l x xs c)))
    (λ c. rw (c, feeds-none (run f l) (x ∷ xs) c) (ap (more (aligned f l)) (reads_any _ es)))

-- a value is entered before its first text
opening : (p : Point) {x : Passed} (es : List Event) → Plain x
    → reads (enter GfmTableDelimiterCellValue p ∷ x.entry ∷ x.exit ∷ es) ≡ row_alignments (inside (is_marker x.entry)) (is_marker x.entry) es
unfolding row_alignments
opening p {x} es h =
    let f = is_marker x.entry in
    inside_mute f false (x.exit ∷ es) h.entry ∙ inside_mute f f es h.exit ∙ ap (λ b. row_alignments (inside f) b es) h.marker

-- what stands in a cell tells its alignment, if it has text
inner_tells : (es : List Event) {xs : List Passed} → All Plain xs → reads (delimiter_inner xs ++ es) ≡ adds (feeds idle xs) (reads es)
unfolding delimiter_inner feeds all_both
inner_tells es empty = refl
inner_tells es (also {a = x} {xs} h hs) =
    let m = is_marker x.entry in
    let p = point_of (last_text x xs).exit in
    test (is_text x)
    (λ c.
    rw c
    (opening (point_of x.entry) (all_both (upto_text xs) ++ leaving p ∷ all_both (after_text xs) ++ es) h
    ∙ ap (row_alignments (inside m) m) (append_assoc (all_both (upto_text xs)) (leaving p ∷ all_both (after_text xs)) es)
    ∙ value_tells m m p (all_both (after_text xs) ++ es) hs
    ∙ ap (adds (feeds (run m m) xs)) (all_both_mute es (after_text-all Plain hs))))
    (λ c. rw c (reads_mute (x.exit ∷ delimiter_inner xs ++ es) h.entry ∙ reads_mute (delimiter_inner xs ++ es) h.exit ∙ inner_tells es hs))

adds-some : (r : Run) (rest : List ℕ) → adds r (some rest) ≡ some (told r rest)
adds-some idle rest = refl
adds-some (run f l) rest = refl

-- cells up to the end of their row
cells_told : (p q : Point) (es : List Event) {cs : List (List Passed)} → All (All Plain) cs
    → reads (cell_events GfmTableDelimiterCell delimiter_inner p cs ++ leave GfmTableDelimiterRow q ∷ es) ≡ some (cells_tell idle cs)
unfolding row_alignments cell_events cells_tell
cells_told p q es empty = refl
cells_told p q es (also {a = c} {xs = cs} h hs) =
    let rest = cell_events GfmTableDelimiterCell delimiter_inner p cs in
    let exit = leave GfmTableDelimiterCell (boundary cs p) in
    let end = leave GfmTableDelimiterRow q ∷ es in
    ap reads (append_assoc (delimiter_inner c) (exit ∷ rest) end)
    ∙ inner_tells (exit ∷ rest ++ end) h
    ∙ ap (adds (feeds idle c)) (reads_any _ (rest ++ end) ∙ cells_told p q es hs)
    ∙ adds-some (feeds idle c) (cells_tell idle cs)

skipped : {xs : List Event} (es : List Event) → All (Silent GfmTableDelimiterRow) xs → after_entry (xs ++ es) ≡ after_entry es
unfolding after_entry
skipped es empty = refl
skipped es (also h hs) = rw h (skipped es hs)

-- a delimiter row's pieces say nothing of its values
passed-plain : {ps : List Piece} (p : Point) → All (λ q. (eqb q.name GfmTableDelimiterRow ≡ false) × (eqb q.name GfmTableDelimiterCellValue ≡ false)) ps → All Plain (passed p ps)
unfolding passed
passed-plain p empty = empty
passed-plain p (also {a = q} h hs) =
    also (record { entry = record { row = refl; opens = h.1; shuts = refl }; exit = record { row = h.0; opens = refl; shuts = h.1 }; marker = refl })
    (passed-plain (past p q.text) hs)

table-told : (kind : ℕ → ℕ) (l d : Placed) (ls : List Placed) → all_values kind (values kind d.line.body) ≡ true
    → table_alignments (resolved_table (table_of kind l d ls)) ≡ some (alignments kind (values kind d.line.body))
unfolding after_entry
table-told kind l d ls h =
    let t = table_of kind l d ls in
    let down = t.exit ∷ resolved_body t.exit t.body in
    let events = cell_events GfmTableDelimiterCell delimiter_inner (point_of t.delimiter.exit) (cells false t.delimiter.pieces) in
    let plain = passed-plain d.at
    (delimiter_pieces_names kind (λ n. (eqb n GfmTableDelimiterRow ≡ false) × (eqb n GfmTableDelimiterCellValue ≡ false)) (refl, refl) (refl, refl) (refl, refl) (refl, refl) d.line.body) in
    skipped (both t.between ++ (resolved_delimiter t.delimiter ++ down)) (text_row_silent GfmTableDelimiterRow kind refl refl refl refl refl refl l.at l.line.body)
    ∙ ap reads (append_assoc events (t.delimiter.exit ∷ []) down)
    ∙ cells_told _ (end_of d) down (cells-all Plain false plain)
    ∙ ap some (cells_tell_lem kind d.at d.line.body h)

pub told-aligned : (kind : ℕ → ℕ) → Told kind
told-aligned kind on s f m =
    let h = headed kind on s f m in
    rw h.same (table-told kind (starting h.at h.l) (starting (onward h.at h.l) h.d) (placed (onward (onward h.at h.l) h.d) h.ls) h.head.valid)

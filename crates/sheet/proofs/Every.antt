-- What holds of all pieces, or of all events, of a row.
-- Assumes nothing.
use Prim.Native.Nat.{ℕ}
use mathlib.Core.List.{List, [], ◌∷◌}
use mathlib.Core.Bool.{Bool, true, false, ◌||◌, ◌&&◌, not}
use lib.Dec.{eqb}
use Rattle.tokenizer.specs.declared.event.Point.{Point}
use Rattle.tokenizer.specs.declared.event.Event.{Event}
use Rattle.tokenizer.specs.Points.{past}
use Rattle.tokenizer.specs.Events.{SpaceOrTab, Data, GfmTableCell, GfmTableCellText, GfmTableCellDivider, GfmTableDelimiterMarker, GfmTableDelimiterCellValue, GfmTableDelimiterFiller, enter, leave, linked}
use Rattle.gfm_table.specs.Rows.{Piece, Passed, passed, joins, on_pieces, row_name, odd_after, row_pieces, delimiter_name, delimiter_pieces, all_both}
use Rattle.edit_map.specs.Tables.{named, is_text, is_solid, any_solid, any_text, before, cells, last_text, after_text, upto_text, row_inner, delimiter_inner, cell_events}
use Rattle.sheet.proofs.Lists.{All, empty, also, all_append}
use Rattle.sheet.proofs.Tests.{by_cases}

-- ## Pieces

module _ (P : Passed → Type 0) where
  before-all : {x : Passed} {cs : List (List Passed)} → P x → All (All P) cs → All (All P) (before x cs)
  before-all h empty = also (also h empty) empty
  before-all h (also k ks) = also (also h k) ks

  pub cells-all : (b : Bool) {xs : List Passed} → All P xs → All (All P) (cells b xs)
  unfolding cells
  cells-all b empty = also empty empty
  cells-all b (also {a = x} {xs} h hs) =
      by_cases (All (All P)) (b && (named GfmTableCellDivider x && any_solid xs)) (λ e. also empty (before-all h (cells-all true hs)))
      (λ e. before-all h (cells-all (b || is_solid x) hs))

  pub last_text-all : {x : Passed} {xs : List Passed} → P x → All P xs → P (last_text x xs)
  unfolding last_text
  last_text-all h empty = h
  last_text-all h (also {a = y} {xs} k ks) = by_cases P (any_text (y ∷ xs)) (λ e. last_text-all k ks) (λ e. h)

  pub after_text-all : {xs : List Passed} → All P xs → All P (after_text xs)
  unfolding after_text
  after_text-all empty = empty
  after_text-all (also {a = x} {xs} h hs) = by_cases (All P) (any_text (x ∷ xs)) (λ e. after_text-all hs) (λ e. also h hs)

  pub upto_text-all : {xs : List Passed} → All P xs → All P (upto_text xs)
  unfolding upto_text
  upto_text-all empty = empty
  upto_text-all (also {a = x} {xs} h hs) = by_cases (All P) (any_text (x ∷ xs)) (λ e. also h (upto_text-all hs)) (λ e. empty)

-- ## Names of pieces

module _ (kind : ℕ → ℕ) (N : ℕ → Type 0) where
  on_pieces_names : (n b : ℕ) (ps : List Piece) → N n → All (λ q. N q.name) ps → All (λ q. N q.name) (on_pieces n b ps)
  on_pieces_names n b [] h empty = also h empty
  on_pieces_names n b (q ∷ ps) h (also k ks) = by_cases (All (λ q. N q.name)) (joins n && eqb n q.name) (λ e. also h ks) (λ e. also h (also k ks))

  pub row_pieces_names : N SpaceOrTab → N GfmTableCellDivider → N Data → (odd : Bool) (s : List ℕ) → All (λ q. N q.name) (row_pieces kind odd s)
  unfolding row_pieces
  row_pieces_names w v d odd [] = empty
  row_pieces_names w v d odd (b ∷ s) =
      on_pieces_names (row_name kind odd b) b _ (by_cases N (eqb (kind b) 1) (λ e. w) (λ e. by_cases N (eqb (kind b) 3 && not odd) (λ f. v) (λ f. d)))
      (row_pieces_names w v d (odd_after kind odd b) s)

  pub delimiter_pieces_names : N SpaceOrTab → N GfmTableCellDivider → N GfmTableDelimiterMarker → N GfmTableDelimiterFiller
      → (s : List ℕ) → All (λ q. N q.name) (delimiter_pieces kind s)
  unfolding delimiter_pieces
  delimiter_pieces_names w v m f [] = empty
  delimiter_pieces_names w v m f (b ∷ s) =
      on_pieces_names (delimiter_name kind b) b _
      (by_cases N (eqb (kind b) 1) (λ e. w) (λ e. by_cases N (eqb (kind b) 3) (λ e. v) (λ e. by_cases N (eqb (kind b) 6) (λ e. m) (λ e. f))))
      (delimiter_pieces_names w v m f s)

-- ## Events, where names are good to enter and to leave

pub record Good (Q : Event → Type 0) (n : ℕ) : Type 0 where
  pub enters : (p : Point) → Q (enter n p)
  pub leaves : (p : Point) → Q (leave n p)

pub record Both (Q : Event → Type 0) (x : Passed) : Type 0 where
  pub entry : Q x.entry
  pub exit : Q x.exit

module _ (Q : Event → Type 0) where
  pub passed-all : {ps : List Piece} (p : Point) → All (λ q. Good Q q.name) ps → All (Both Q) (passed p ps)
  unfolding passed
  passed-all p empty = empty
  passed-all p (also {a = q} h hs) = also (record { entry = h.enters p; exit = h.leaves (past p q.text) }) (passed-all (past p q.text) hs)

  pub all_both-all : {xs : List Passed} → All (Both Q) xs → All Q (all_both xs)
  unfolding all_both
  all_both-all empty = empty
  all_both-all (also h hs) = also h.entry (also h.exit (all_both-all hs))

  pub row_inner-all : ((e : Event) → Q e → Q (linked e)) → Good Q GfmTableCellText → {xs : List Passed} → All (Both Q) xs → All Q (row_inner xs)
  unfolding row_inner
  row_inner-all k g empty = empty
  row_inner-all k g (also {a = x} {xs} h hs) =
      by_cases (All Q) (is_text x)
      (λ e. also (g.enters _) (also (k _ h.entry) (also (last_text-all (Both Q) h hs).exit (also (g.leaves _) (all_both-all (after_text-all (Both Q) hs))))))
      (λ e. also h.entry (also h.exit (row_inner-all k g hs)))

  pub delimiter_inner-all : Good Q GfmTableDelimiterCellValue → {xs : List Passed} → All (Both Q) xs → All Q (delimiter_inner xs)
  unfolding delimiter_inner
  delimiter_inner-all g empty = empty
  delimiter_inner-all g (also {a = x} {xs} h hs) =
      by_cases (All Q) (is_text x)
      (λ e. also (g.enters _) (all_append (all_both-all (also h (upto_text-all (Both Q) hs))) (also (g.leaves _) (all_both-all (after_text-all (Both Q) hs)))))
      (λ e. also h.entry (also h.exit (delimiter_inner-all g hs)))

  pub cell_events-all : (n : ℕ) → Good Q n → (inner : List Passed → List Event) → ((xs : List Passed) → All (Both Q) xs → All Q (inner xs))
      → (p : Point) {cs : List (List Passed)} → All (All (Both Q)) cs → All Q (cell_events n inner p cs)
  unfolding cell_events
  cell_events-all n g inner f p empty = empty
  cell_events-all n g inner f p (also h hs) = all_append (also (g.enters _) (f _ h)) (also (g.leaves _) (cell_events-all n g inner f p hs))

  -- the cells of a text row
  pub text_cells_all : ((e : Event) → Q e → Q (linked e)) → Good Q GfmTableCellText → Good Q GfmTableCell → (p : Point) {xs : List Passed} → All (Both Q) xs
      → All Q (cell_events GfmTableCell row_inner p (cells false xs))
  text_cells_all k g c p h = cell_events-all GfmTableCell c row_inner (λ xs. row_inner-all k g) p (cells-all (Both Q) false h)

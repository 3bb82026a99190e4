-- The events of a row's cells by the places of its bytes, one piece in each turn.
-- Assumes nothing.
use Prim.Native.Nat.{ℕ, ◌+◌}
use mathlib.Core.Path.{◌≡◌, refl, sym, ap, ◌∙◌, subst}
use mathlib.Core.List.{List, ◌∷◌, ◌++◌}
use mathlib.Core.Bool.{Bool, true, false, cond, ◌||◌, ◌&&◌, not}
use lib.Dec.{eqb}
use lib.ListN.{length}
use borrow.Author.Tests.{eqb-true, eqb-false}
use Rattle.tokenizer.specs.declared.event.Point.{Point}
use Rattle.tokenizer.specs.declared.event.Event.{Event}
use Rattle.tokenizer.specs.Bytes.{Reads}
use Rattle.tokenizer.specs.Points.{column_past, past}
use Rattle.tokenizer.specs.Events.{Data, GfmTableCellDivider, SpaceOrTab, enter, leave}
use Rattle.gfm_table.specs.Rows.{Piece, Passed, row_pieces, delimiter_pieces, passed}
use Rattle.gfm_table.proofs.Passing.{line_from}
use Rattle.edit_map.specs.declared.cell_spans.Stop.{Stop}
use Rattle.edit_map.specs.Base.{is_text_name}
use Rattle.edit_map.specs.Raw.{row_piece}
use Rattle.edit_map.specs.Tables.{row_inner}
use Rattle.edit_map.specs.Cells.{text_ahead, later, last_ahead, tail, tail_marks, row_turn, mark_turn}
use Rattle.edit_map.specs.Spans.{opens_at, text_next, pieces_from, ReachesAs}
use Rattle.edit_order.proofs.Bools.{either}
use Rattle.edit_map.proofs.Gives.{Fine, AllFine, also}
use Rattle.edit_map.proofs.Streams.{sort_row, sort_delimiter, all-fine}
use Rattle.edit_map.proofs.RawRows.{Named, named, rows_named, delimiters_named, passed_are}
use Rattle.edit_map.proofs.Cells.{row_rest, row_last, row-turn, marks-turn}
use Rattle.edit_map.proofs.Spans.{solid-row, solid-delimiter, text-delimiter}

module _ {kind : ℕ → ℕ} (ok : Reads kind) where
  -- the pieces of a line are of a sort
  pub row_fine : (p : Point) (u : List ℕ) → AllFine (passed p (row_pieces kind false u))
  row_fine p u = all-fine sort_row (passed_are p (rows_named kind false u))

  pub delimiter-fine : (p : Point) (u : List ℕ) → AllFine (passed p (delimiter_pieces kind u))
  delimiter-fine p u = all-fine sort_delimiter (passed_are p (delimiters_named kind u))

-- the first of them, and the others
parts : {x : Passed} {xs : List Passed} → AllFine (x ∷ xs) → Fine x × AllFine xs
parts (also f g) = (f, g)

-- a point of a line, at a place and in a column
abbrev pub placed : ℕ → ℕ → ℕ → Point
placed line c i = record { line = line; column = c; index = i; vs = 0 }

placed_past : (line c i d j : ℕ) (t : List ℕ) → j ≡ i + length t → d ≡ column_past c t → past (placed line c i) t ≡ placed line d j
placed_past line c i d j t e f = rw (e, f)

-- ## Head lines and body rows

pub first-named : {ok : ℕ → Bool} {x : Piece} {xs : List Piece} → Named ok (x ∷ xs) → ok x.name ≡ true
first-named (named h hs) = h

-- the only texts of such a row are data
pub is_data : (m : ℕ) → row_piece m ≡ true → is_text_name m ≡ eqb m Data
is_data m = either (eqb m 1 || eqb m 10) (eqb m 3) (either (eqb m 1) (eqb m 10) (λ z. rw (eqb-true m 1 z)) (λ z. rw (eqb-true m 10 z))) (λ z. rw (eqb-true m 3 z))

module _ {kind : ℕ → ℕ} (ok : Reads kind) (n : ℕ) (q : Point) (s : List ℕ) (line at c m : ℕ) (t : List ℕ) (end d : ℕ) (l : end ≡ at + length t) (k : d ≡ column_past c t) where
  -- a piece of the name m from a place to its end
  abbrev this : Passed
  this = record { entry = enter m (placed line c at); exit = leave m (placed line d end) }

  first-passed : (ps qs : List Piece) → ps ≡ record { name = m; text = t } ∷ qs → passed (placed line c at) ps ≡ this ∷ passed (placed line d end) qs
  unfolding passed
  first-passed ps qs e =
      ap (passed (placed line c at)) e ∙ ap {B = List Passed} (λ (p : Point). record { entry = enter m (placed line c at); exit = leave m p } ∷ passed p qs) (placed_past line c at d end t l k)

  module _ (e : (pieces_from kind) s at ≡ record { name = m; text = t } ∷ pieces_from kind s end) where
    abbrev those : List Passed
    those = passed (placed line d end) (pieces_from kind s end)

    fine-at : AllFine (this ∷ those)
    fine-at = subst AllFine (first-passed (pieces_from kind s at) (pieces_from kind s end) e) (row_fine ok (placed line c at) (line_from s at))

    data_at : is_text_name m ≡ eqb m Data
    data_at = is_data m (first-named (subst (Named row_piece) e (rows_named kind false (line_from s at))))

    -- where the piece ends with what it takes with it
    ends_at : (r : Stop) → ReachesAs kind m s end d r → (b : Bool) → is_text_name m ≡ b
        → ((cond b (last_ahead this those) this).exit ≡ leave m (placed line r.column r.at)) × (cond b (later those) those ≡ passed (placed line r.column r.at) (pieces_from kind s r.at))
    ends_at r h true f =
        let z = eqb-true m Data (sym data_at ∙ f) in
        let g = h.0 z in
        let w = placed_past line d end r.column r.at g.text g.end g.wide in (
          g.last this (placed line d end) refl (ap (λ (j : ℕ). leave j (placed line d end)) z) ∙ ap (leave Data) w ∙ ap (λ (j : ℕ). leave j (placed line r.column r.at)) (sym z),
          g.behind (placed line d end) refl ∙ ap (λ (p : Point). passed p (pieces_from kind s r.at)) w,
        )
    ends_at r h false f =
        let z = sym (h.1 (eqb-false m Data (sym data_at ∙ f))) in
        (ap (λ (y : Stop). leave m (placed line y.column y.at)) z, ap (λ (y : Stop). passed (placed line y.column y.at) (pieces_from kind s y.at)) z)

    -- one turn: a piece, or a text with all that it takes with it
    pub row_at : (seen : Bool) (r : Stop) → ReachesAs kind m s end d r
        → tail n row_inner q seen (passed (placed line c at) (pieces_from kind s at)) ≡ row_turn n (opens_at kind s seen m end) (is_text_name m) (enter m (placed line c at)) (leave m (placed line r.column r.at))
        ++ tail n row_inner q (seen || not (eqb m SpaceOrTab)) (passed (placed line r.column r.at) (pieces_from kind s r.at))
    row_at seen r h =
        let g = ends_at r h (is_text_name m) refl in
        let o = seen || not (eqb m SpaceOrTab) in
        ap (tail n row_inner q seen) (first-passed (pieces_from kind s at) (pieces_from kind s end) e) ∙ row-turn n q (parts fine-at).0 (parts fine-at).1 seen
        ∙ ap (λ (b : Bool). row_turn n (seen && (eqb m GfmTableCellDivider && b)) (is_text_name m) (enter m (placed line c at)) (row_last this those).exit ++ tail n row_inner q o (row_rest this those)) (solid-row ok (placed line d end) (line_from s end))
        ∙ ap (λ (y : Event). row_turn n (opens_at kind s seen m end) (is_text_name m) (enter m (placed line c at)) y ++ tail n row_inner q o (row_rest this those)) g.0
        ∙ ap (λ (ys : List Passed). row_turn n (opens_at kind s seen m end) (is_text_name m) (enter m (placed line c at)) (leave m (placed line r.column r.at)) ++ tail n row_inner q o ys) g.1

  -- ## Delimiter rows

  module _ (e : delimiter_pieces kind (line_from s at) ≡ record { name = m; text = t } ∷ delimiter_pieces kind (line_from s end)) where
    abbrev marks : List Passed
    marks = passed (placed line d end) (delimiter_pieces kind (line_from s end))

    marks-fine : AllFine (this ∷ marks)
    marks-fine = subst AllFine (first-passed (delimiter_pieces kind (line_from s at)) (delimiter_pieces kind (line_from s end)) e) (delimiter-fine ok (placed line c at) (line_from s at))

    -- one turn: a piece
    pub marks-at : (w seen : Bool)
        → tail_marks n q w seen (passed (placed line c at) (delimiter_pieces kind (line_from s at))) ≡ mark_turn n (opens_at kind s seen m end) (w && is_text_name m) (is_text_name m && not (text_next kind (line_from s end))) (enter m (placed line c at)) (leave m (placed line d end))
        ++ tail_marks n q (opens_at kind s seen m end || (w && not (is_text_name m))) (seen || not (eqb m SpaceOrTab)) marks
    marks-at w seen =
        ap (tail_marks n q w seen) (first-passed (delimiter_pieces kind (line_from s at)) (delimiter_pieces kind (line_from s end)) e) ∙ marks-turn n q (parts marks-fine).0 (parts marks-fine).1 w seen
        ∙ ap (λ (b : Bool). mark_turn n (seen && (eqb m GfmTableCellDivider && b)) (w && is_text_name m) (is_text_name m && not (text_ahead marks)) (enter m (placed line c at)) (leave m (placed line d end)) ++ tail_marks n q ((seen && (eqb m GfmTableCellDivider && b)) || (w && not (is_text_name m))) (seen || not (eqb m SpaceOrTab)) marks) (solid-delimiter ok (placed line d end) (line_from s end))
        ∙ ap (λ (b : Bool). mark_turn n (opens_at kind s seen m end) (w && is_text_name m) (is_text_name m && not b) (enter m (placed line c at)) (leave m (placed line d end)) ++ tail_marks n q (opens_at kind s seen m end || (w && not (is_text_name m))) (seen || not (eqb m SpaceOrTab)) marks) (text-delimiter ok (placed line d end) (line_from s end))

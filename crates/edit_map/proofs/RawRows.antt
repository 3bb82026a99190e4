-- The rows that the row machine's definition makes are rows of raw tables.
-- Assumes nothing.
use Prim.Native.Nat.{ℕ}
use mathlib.Core.Path.{◌≡◌, refl}
use mathlib.Core.List.{List, [], ◌∷◌}
use mathlib.Core.Bool.{Bool, true, false, cond, ◌&&◌, not}
use lib.Dec.{eqb}
use borrow.Author.Tests.{eq-eqb}
use Rattle.tokenizer.specs.declared.event.Point.{Point}
use Rattle.tokenizer.specs.Points.{past}
use Rattle.tokenizer.specs.Events.{Data, GfmTableCellDivider, GfmTableDelimiterFiller, GfmTableDelimiterMarker, GfmTableDelimiterRow, GfmTableRow, SpaceOrTab, enter, leave}
use Rattle.gfm_table.specs.Rows.{Piece, joins, on_pieces, passed, row_name, odd_after, row_pieces, delimiter_name, delimiter_pieces}
use Rattle.edit_map.specs.Raw.{enters, leaves, row_piece, delimiter_piece, ArePieces, IsRow}
use Rattle.edit_map.proofs.Parse.{no_nil}

pub data Named (ok : ℕ → Bool) : List Piece → Type 0 where
  none : Named ok []
  named : {x : Piece} {xs : List Piece} → ok x.name ≡ true → Named ok xs → Named ok (x ∷ xs)

on_named : {ok : ℕ → Bool} (n b : ℕ) {xs : List Piece} → ok n ≡ true → Named ok xs → Named ok (on_pieces n b xs)
on_named n b h Named.none = named h Named.none
on_named {ok} n b h (named {x = x} {xs = xs} k ks) = go (joins n && eqb n x.name)
  where
    go : (t : Bool) → Named ok (cond t (record { name = n; text = b ∷ x.text } ∷ xs) (record { name = n; text = b ∷ [] } ∷ x ∷ xs))
    go true = named h ks
    go false = named h (named k ks)

on_some : (n b : ℕ) (xs : List Piece) → on_pieces n b xs ≡ [] → ⊥
on_some n b [] e = no_nil e
on_some n b (x ∷ xs) e = go (joins n && eqb n x.name) e
  where
    go : (t : Bool) → cond t (record { name = n; text = b ∷ x.text } ∷ xs) (record { name = n; text = b ∷ [] } ∷ x ∷ xs) ≡ [] → ⊥
    go true e = no_nil e
    go false e = no_nil e

module _ (kind : ℕ → ℕ) where
  row-name : (odd : Bool) (b : ℕ) → row_piece (row_name kind odd b) ≡ true
  row-name odd b = go (eqb (kind b) 1) (eqb (kind b) 3 && not odd)
    where
      go : (s t : Bool) → row_piece (cond s SpaceOrTab (cond t GfmTableCellDivider Data)) ≡ true
      go true t = refl
      go false true = refl
      go false false = refl

  pub rows_named : (odd : Bool) (s : List ℕ) → Named row_piece (row_pieces kind odd s)
  unfolding row_pieces
  rows_named odd [] = Named.none
  rows_named odd (b ∷ s) = on_named (row_name kind odd b) b (row-name odd b) (rows_named (odd_after kind odd b) s)

  delimiter-name : (b : ℕ) → delimiter_piece (delimiter_name kind b) ≡ true
  delimiter-name b = go (eqb (kind b) 1) (eqb (kind b) 3) (eqb (kind b) 6)
    where
      go : (s t u : Bool) → delimiter_piece (cond s SpaceOrTab (cond t GfmTableCellDivider (cond u GfmTableDelimiterMarker GfmTableDelimiterFiller))) ≡ true
      go true t u = refl
      go false true u = refl
      go false false true = refl
      go false false false = refl

  pub delimiters_named : (s : List ℕ) → Named delimiter_piece (delimiter_pieces kind s)
  unfolding delimiter_pieces
  delimiters_named [] = Named.none
  delimiters_named (b ∷ s) = on_named (delimiter_name kind b) b (delimiter-name b) (delimiters_named s)

enters-own : (n : ℕ) (p : Point) → enters n (enter n p) ≡ true
enters-own n p = rw (eq-eqb n n refl)

leaves-own : (n : ℕ) (p : Point) → leaves n (leave n p) ≡ true
leaves-own n p = rw (eq-eqb n n refl)

-- entered and left from a point on
pub passed_are : {ok : ℕ → Bool} (p : Point) {xs : List Piece} → Named ok xs → ArePieces ok (passed p xs)
unfolding passed
passed_are p Named.none = ArePieces.none
passed_are p (named {x = x} h hs) = ArePieces.piece (record { known = h; enter = enters-own x.name p; leave = leaves-own x.name (past p x.text) }) (passed_are (past p x.text) hs)

passed-some : (p : Point) (xs : List Piece) → (xs ≡ [] → ⊥) → passed p xs ≡ [] → ⊥
unfolding passed
passed-some p [] h e = h refl
passed-some p (x ∷ xs) h e = no_nil e

-- a row of a line that is not empty, from a point to a point
pub text-row : (kind : ℕ → ℕ) (p q : Point) (b : ℕ) (s : List ℕ)
    → IsRow GfmTableRow row_piece (record { entry = enter GfmTableRow p; pieces = passed p (row_pieces kind false (b ∷ s)); exit = leave GfmTableRow q })
unfolding row_pieces
text-row kind p q b s = record {
  enter = refl;
  pieces = passed_are p (rows_named kind false (b ∷ s));
  some = passed-some p _ (on_some (row_name kind false b) b (row_pieces kind (odd_after kind false b) s));
  leave = refl;
}

pub delimiter-row : (kind : ℕ → ℕ) (p q : Point) (b : ℕ) (s : List ℕ)
    → IsRow GfmTableDelimiterRow delimiter_piece (record { entry = enter GfmTableDelimiterRow p; pieces = passed p (delimiter_pieces kind (b ∷ s)); exit = leave GfmTableDelimiterRow q })
unfolding delimiter_pieces
delimiter-row kind p q b s = record {
  enter = refl;
  pieces = passed_are p (delimiters_named kind (b ∷ s));
  some = passed-some p _ (on_some (delimiter_name kind b) b (delimiter_pieces kind s));
  leave = refl;
}

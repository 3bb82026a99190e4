-- The events of a row's pieces, written to slots one piece after the other.
-- Assumes nothing.
use Prim.Native.Nat.{ℕ, ◌+◌, ◌*◌, ◌≤◌, ◌<◌}
use mathlib.Core.Path.{◌≡◌, refl, ap, sym, subst, ◌∙◌}
use mathlib.Core.List.{List, ◌∷◌}
use native.Mathlib.Omega.{arith}
use lib.ListN.{length, drop, set}
use Rattle.std.specs.Prelude.{Option, Some, None}
use Rattle.tokenizer.specs.declared.event.Point.{Point}
use Rattle.tokenizer.specs.declared.event.Event.{Event}
use Rattle.tokenizer.specs.Points.{past}
use Rattle.tokenizer.specs.Events.{number, named, enter, leave}
use Rattle.tokenizer.specs.Slots.{wrote}
use Rattle.tokenizer.specs.Lines.{line_body}
use Rattle.tokenizer.specs.Moves.{rest_of, Inside}
use Rattle.tokenizer.proofs.Ahead.{past-none}
use Rattle.tokenizer.proofs.Writing.{wrote_none, wrote-more}
use Rattle.gfm_table.specs.declared.stream.Part.{Part}
use Rattle.gfm_table.specs.declared.rows.Placed.{Placed}
use Rattle.gfm_table.specs.declared.rows.Reached.{Reached}
use Rattle.gfm_table.specs.Rows.{Piece, passed, all_both}
use Rattle.gfm_table.specs.Stream.{pieces_of}
use Rattle.gfm_table.specs.Places.{point_in, placed, next_at, row_end, row_wrote}
use Rattle.gfm_table.proofs.Coming.{no_pieces, Piecing, Next, none, some, next-piece}
use Rattle.tokenizer.specs.Bytes.{Reads}

-- before the first piece
abbrev pub begun : ℕ → ℕ → Reached
begun i k = record { at = i; column = 1; slot = k }

module _ {kind : ℕ → ℕ} (ok : Reads kind) (s : List ℕ) (t : Part) (l : ℕ) where
  -- the point that the writing has come to
  abbrev pub point_at : Reached → Point
  point_at a = point_in l a.at a.column

  -- behind a piece
  abbrev pub onward : Reached → Placed → Reached
  onward a x = record { at = x.end; column = x.column; slot = a.slot + 2 }

  -- the slots with its two events
  abbrev pub put_both : Reached → Placed → List Event → List Event
  put_both a x zs = set (set zs a.slot (enter (number x.name) (point_at a))) (a.slot + 1) (leave (number x.name) (point_in l x.end x.column))

  -- where the pieces end, and what all slots are then
  abbrev pub makes : Reached → List Event → Reached × List Event
  makes a zs = (row_end kind s t (point_at a) a.slot, row_wrote kind s t (point_at a) a.slot zs)

  -- a place in the sheet, and a slot that does not grow faster than the bytes
  abbrev pub Good : Reached → Type 0
  Good a = Inside s (point_at a) × (a.slot ≤ 4294967296 + 2 * a.at)

  -- a piece is written
  pub record Goes (a : Reached) (x : Placed) : Type 0 where
    pub good : Good (onward a x)
    pub more : (zs : List Event) → makes a zs ≡ makes (onward a x) (put_both a x zs)
    pub long : a.at < x.end

  goes_piece : (a : Reached) → Good a → {n : ℕ} {u : List ℕ} → Piecing kind s t (point_at a) n u → Goes a (placed (named n) a.at a.column u)
  unfolding all_both passed
  goes_piece a h {n} {u} f =
      let p = point_at a in
      let q = past p u in
      let k = a.slot in
      let ys = pieces_of kind t (rest_of s q) in
      let e = sym f.line in
      let m : k + 2 * length (record { name = n; text = u } ∷ ys) ≡ k + 2 + 2 * length ys = omega arith in
      let es = all_both (passed q ys) in
      let w : (zs : List Event) → wrote k (enter n p ∷ leave n q ∷ es) zs ≡ wrote (k + 2) es (set (set zs k (enter n p)) (k + 1) (leave n q)) =
      λ zs. wrote-more k (enter n p) (leave n q ∷ es) zs ∙ wrote-more (k + 1) (leave n q) es (set zs k (enter n p)) ∙ ap (λ (j : ℕ). wrote j es (set (set zs k (enter n p)) (k + 1) (leave n q))) (omega arith) in
      let v : (zs : List Event) → wrote k (enter n p ∷ leave n q ∷ es) zs ≡ wrote (k + 2) es (put_both a (placed (named n) a.at a.column u) zs) =
      λ zs. w zs ∙ ap (λ (i : ℕ). wrote (k + 2) es (set (set zs k (enter i p)) (k + 1) (leave i q))) (sym f.real) in
      record {
        good = (f.inside, omega (arith, f.long, h.1));
        more = λ zs. rw f.pieces (λ i. (record { at = (e i).index; column = (e i).column; slot = m i }, v zs i));
        long = omega (arith, f.long);
      }

  -- where a piece is next
  pub goes : (a : Reached) (x : Placed) → Good a → next_at a.at a.column (pieces_of kind t (line_body (drop a.at s))) ≡ Some x → Goes a x
  goes a x h e = go (next-piece ok s (point_at a) h.0 t)
    where
      go : (Next kind) s t (point_at a) → Goes a x
      go (none f) = let n = ap (pieces_of kind t) f ∙ no_pieces ok t in let z : ◌≡◌ {A = Option Placed} None (Some x) = sym (ap (next_at a.at a.column) n) ∙ e in cc
      go (some {n} {u} f) =
          let z : ◌≡◌ {A = Option Placed} (Some (placed (named n) a.at a.column u)) (Some x) = sym (ap (next_at a.at a.column) f.pieces) ∙ e in
          let y : placed (named n) a.at a.column u ≡ x = cc in
          subst (Goes a) y (goes_piece a h f)

  -- at the row's end none is left
  pub stops : (a : Reached) (zs : List Event) → Good a → next_at a.at a.column (pieces_of kind t (line_body (drop a.at s))) ≡ None → makes a zs ≡ (a, zs)
  unfolding all_both passed
  stops a zs h g = go (next-piece ok s (point_at a) h.0 t)
    where
      go : (Next kind) s t (point_at a) → makes a zs ≡ (a, zs)
      go (none e) =
          let p = point_at a in
          let n = ap (pieces_of kind t) e ∙ no_pieces ok t in
          let q : past p (rest_of s p) ≡ p = ap (past p) e ∙ past-none p refl in
          let k : a.slot + 2 * length (pieces_of kind t (rest_of s p)) ≡ a.slot = omega (arith, ap length n) in
          let w : (row_wrote kind) s t p a.slot zs ≡ zs = ap (λ (xs : List Piece). wrote a.slot (all_both (passed p xs)) zs) n ∙ wrote_none a.slot zs in
          λ i. (record { at = (q i).index; column = (q i).column; slot = k i }, w i)
      go (some {n} {u} f) = let z : ◌≡◌ {A = Option Placed} (Some (placed (named n) a.at a.column u)) None = sym (ap (next_at a.at a.column) f.pieces) ∙ g in cc

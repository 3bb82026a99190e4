-- The pieces of a row by the places of its bytes, and their events written to slots.
use Rattle.std.specs.Prelude.{ℕ, ◌≡◌, ◌≤◌, ◌+◌, ◌*◌, List, [], ◌∷◌, length, Option, Some, None}
use Rattle.tokenizer.specs.declared.event.Point.{Point}
use Rattle.tokenizer.specs.declared.event.Event.{Event}
use Rattle.tokenizer.specs.declared.event.Name.{Name}
use Rattle.tokenizer.specs.Events.{named}
use Rattle.tokenizer.specs.Points.{column_past, past}
use Rattle.tokenizer.specs.Slots.{wrote}
use Rattle.tokenizer.specs.Moves.{rest_of}
use Rattle.gfm_table.specs.declared.stream.Part.{Part}
use Rattle.gfm_table.specs.declared.rows.Stop.{Stop}
use Rattle.gfm_table.specs.declared.rows.Placed.{Placed}
use Rattle.gfm_table.specs.declared.rows.Reached.{Reached}
use Rattle.gfm_table.specs.Rows.{Piece, passed, all_both}
use Rattle.gfm_table.specs.Stream.{pieces_of}

-- the point of the place i in the column c of a line
abbrev pub point_in : ℕ → ℕ → ℕ → Point
point_in l i c = record { line = l; column = c; index = i; vs = 0 }

-- a place in a sheet, and a column there that is no further right than tabs can take it
abbrev pub Near : List ℕ → Stop → Type 0
Near s p = (p.at ≤ length s) × (p.column ≤ 4 * p.at + 1)

-- the kind of a byte that is no whitespace, no line end and no divider
abbrev pub Solid : ℕ → Type 0
Solid k = (k ≡ 1 → ⊥) × (k ≡ 2 → ⊥) × (k ≡ 3 → ⊥)

-- the piece of the name n and the bytes t, from the place i and the column c on
abbrev pub placed : Name → ℕ → ℕ → List ℕ → Placed
placed n i c t = record { name = n; end = i + length t; column = column_past c t }

-- the first of some pieces, if there is one
abbrev pub next_at : ℕ → ℕ → List Piece → Option Placed
next_at i c [] = None
next_at i c (x ∷ xs) = Some (placed (named x.name) i c x.text)

module _ (kind : ℕ → ℕ) where
  -- where the pieces of a row end that are written from a point on, from the slot k on
  abbrev pub row_end : List ℕ → Part → Point → ℕ → Reached
  row_end s t p k =
      let e = past p (rest_of s p) in
      record { at = e.index; column = e.column; slot = k + 2 * length (pieces_of kind t (rest_of s p)) }

  -- the slots with the events of these pieces
  abbrev pub row_wrote : List ℕ → Part → Point → ℕ → List Event → List Event
  row_wrote s t p k zs = wrote k (all_both (passed p (pieces_of kind t (rest_of s p)))) zs

-- The result events of a table's rows, written one after the other.
-- Assumes nothing.
use Prim.Native.Nat.{ℕ, ◌+◌, ◌≤◌, ◌<◌}
use mathlib.Core.Path.{◌≡◌, ap, sym, ◌∙◌}
use mathlib.Core.List.{List, [], ◌∷◌, ◌++◌}
use native.Mathlib.Omega.{arith}
use lib.ListN.{length, set, length-append}
use Rattle.tokenizer.specs.declared.event.Point.{Point}
use Rattle.tokenizer.specs.declared.event.Event.{Event}
use Rattle.tokenizer.specs.Points.{past}
use Rattle.tokenizer.specs.Events.{GfmTable, GfmTableHead, enter, leave}
use Rattle.tokenizer.specs.Places.{end_of}
use Rattle.tokenizer.specs.Slots.{wrote}
use Rattle.tokenizer.specs.Moves.{rest_of, line_at, after, Inside}
use Rattle.tokenizer.proofs.Ends.{stop-rest, body-inside, after-inside}
use Rattle.tokenizer.proofs.Writing.{wrote_one, wrote-more, wrote-append}
use Rattle.gfm_table.specs.declared.stream.Part.{Part}
use Rattle.gfm_table.specs.declared.stream.Part.TheVariants.{Delimiter, Body}
use Rattle.gfm_table.specs.Rows.{both}
use Rattle.gfm_table.specs.Stream.{name_of}
use Rattle.edit_map.specs.CellRows.{cells_at, cells_wrote}
use Rattle.sheet.specs.From.{here, AtLine}
use Rattle.sheet.specs.declared.tables.Written.{Written}
use Rattle.sheet.specs.Placing.{written_at, AtEnd, Few, break_events}
use Rattle.sheet.specs.Results.{row_result, head_result}
use Rattle.sheet.proofs.Placing.{wrote_pair}
use Rattle.sheet.proofs.Stops.{stop-after, stop-line}

-- ## Rows

-- some events between two others
framed : (k : ℕ) (a b : Event) (es zs : List Event) → set (wrote (k + 1) es (set zs k a)) (k + 1 + length es) b ≡ wrote k (a ∷ es ++ b ∷ []) zs
framed k a b es zs =
    sym (wrote-more k a (es ++ b ∷ []) zs ∙ wrote-append (k + 1) es (b ∷ []) (set zs k a) ∙ wrote_one (k + 1 + length es) b (wrote (k + 1) es (set zs k a)))

framed_length : (k : ℕ) (a b : Event) (es : List Event) → k + 1 + length es + 1 ≡ k + length (a ∷ es ++ b ∷ [])
framed_length k a b es = omega (arith, length-append es (b ∷ []))

module _ (kind : ℕ → ℕ) (s : List ℕ) (t : Part) (p : Point) (k : ℕ) where
  -- a row is no shorter than its cells
  pub row_slots_lem : k + 1 + length (cells_at kind s t p) + 1 ≡ k + length (row_result kind s t p)
  row_slots_lem = framed_length k (enter (name_of t) p) (leave (name_of t) (past p (rest_of s p))) (cells_at kind s t p)

  pub row_said : (zs : List Event)
      → (written_at (past p (rest_of s p)) (k + 1 + length (cells_at kind s t p) + 1) ≡ written_at (end_of (here s p)) (k + length (row_result kind s t p)))
      × (set (cells_wrote kind s t p (k + 1) (set zs k (enter (name_of t) p))) (k + 1 + length (cells_at kind s t p)) (leave (name_of t) (past p (rest_of s p))) ≡ wrote k (row_result kind s t p) zs)
  row_said zs =
      (ap {B = Written} (written_at (past p (rest_of s p))) row_slots_lem, framed k (enter (name_of t) p) (leave (name_of t) (past p (rest_of s p))) (cells_at kind s t p) zs)

-- ## Heads

-- two events, three stretches of events, and one more
headed : (k : ℕ) (a b x : Event) (t u v zs : List Event)
    → set (wrote (k + 2 + length t + length u) v (wrote (k + 2 + length t) u (wrote (k + 2) t (set (set zs k a) (k + 1) b)))) (k + 2 + length t + length u + length v) x
    ≡ wrote k (a ∷ b ∷ (t ++ (u ++ (v ++ x ∷ [])))) zs
headed k a b x t u v zs =
    let n = k + 2 in
    let ys = set (set zs k a) (k + 1) b in
    let ws = wrote (n + length t) u (wrote n t ys) in
    sym (
    wrote_pair k a b (t ++ (u ++ (v ++ x ∷ []))) zs
    ∙ wrote-append n t (u ++ (v ++ x ∷ [])) ys
    ∙ wrote-append (n + length t) u (v ++ x ∷ []) (wrote n t ys)
    ∙ wrote-append (n + length t + length u) v (x ∷ []) ws
    ∙ wrote_one (n + length t + length u + length v) x (wrote (n + length t + length u) v ws)
    )

headed_length : (k : ℕ) (a b x : Event) (t u v : List Event) → k + 2 + length t + length u + length v + 1 ≡ k + length (a ∷ b ∷ (t ++ (u ++ (v ++ x ∷ []))))
headed_length k a b x t u v = omega (arith, length-append t (u ++ (v ++ x ∷ [])), length-append u (v ++ x ∷ []), length-append v (x ∷ []))

module _ (kind : ℕ → ℕ) (s : List ℕ) (p : Point) where
  abbrev stop : Point
  stop = past p (rest_of s p)

  head-is : enter GfmTable p ∷ enter GfmTableHead p ∷ (row_result kind s Body p ++ (break_events s stop ++ (row_result kind s Delimiter (after s stop) ++ leave GfmTableHead (end_of (here s (after s stop))) ∷ []))) ≡ head_result kind s p
  head-is = λ i. enter GfmTable p ∷ enter GfmTableHead p ∷ (row_result kind s Body p ++ (both (stop-line s p i) ++ (row_result kind s Delimiter (stop-after s p i) ++ leave GfmTableHead (end_of (here s (stop-after s p i))) ∷ [])))

  module _ (k : ℕ) where
    abbrev pub n₁ : ℕ
    n₁ = k + 2 + length (row_result kind s Body p)

    abbrev pub n₂ : ℕ
    n₂ = n₁ + 2 + length (row_result kind s Delimiter (after s stop))

    head_slots_lem : n₂ + 1 ≡ k + length (head_result kind s p)
    head_slots_lem =
        headed_length k (enter GfmTable p) (enter GfmTableHead p) (leave GfmTableHead (end_of (here s (after s stop)))) (row_result kind s Body p) (break_events s stop) (row_result kind s Delimiter (after s stop))
        ∙ ap (λ (es : List Event). k + length es) head-is

    pub head_said : (zs : List Event)
        → (written_at (end_of (here s (after s stop))) (n₂ + 1) ≡ written_at (end_of (here s (after s p))) (k + length (head_result kind s p)))
        × (set (wrote (n₁ + 2) (row_result kind s Delimiter (after s stop)) (wrote n₁ (break_events s stop) (wrote (k + 2) (row_result kind s Body p) (set (set zs k (enter GfmTable p)) (k + 1) (enter GfmTableHead p))))) n₂ (leave GfmTableHead (end_of (here s (after s stop)))) ≡ wrote k (head_result kind s p) zs)
    head_said zs = (
      (λ i. written_at (end_of (here s (stop-after s p i))) (head_slots_lem i)),
      headed k (enter GfmTable p) (enter GfmTableHead p) (leave GfmTableHead (end_of (here s (after s stop)))) (row_result kind s Body p) (break_events s stop) (row_result kind s Delimiter (after s stop)) zs
          ∙ ap (λ (es : List Event). wrote k es zs) head-is,
    )

    module _ (h : AtLine s p) (z : (line_at s p).end ≡ 0 → ⊥) (l : Few k (head_result kind s p)) where
      pub head_small : n₂ + 1 ≤ 4294967295
      head_small = omega (arith, l, head_slots_lem)

      pub head_break : AtEnd s (written_at stop n₁) × (n₁ < 1000000000000)
      head_break = (record { inside = body-inside s p h.inside; rest = stop-rest s p }, omega (arith, head_small))

      pub head-marks : Inside s (after s stop) × Few (n₁ + 2) (row_result kind s Delimiter (after s stop))
      head-marks = (rw (stop-after s p) (after-inside s p z h.inside), omega (arith, head_small))

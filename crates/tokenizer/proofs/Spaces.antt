-- Whitespace unit by unit.
-- Assumes nothing.
use Prim.Native.Nat.{ℕ, zero, suc, ◌+◌, ◌-◌, ◌%◌, ◌≤◌, ◌<◌}
use mathlib.Core.Path.{◌≡◌, refl, sym}
use mathlib.Core.Bool.{Bool, true, false, cond, ◌&&◌, true≢false}
use mathlib.Core.List.{List, [], ◌∷◌}
use native.Mathlib.Omega.{arith}
use native.Mathlib.Numerals.{sub-one}
use borrow.Author.Tests.{ne_eqb, eqb-false}
use lib.Dec.{eqb}
use lib.ListN.{length, drop, length-drop}
use Rattle.tokenizer.specs.declared.event.Point.{Point}
use Rattle.tokenizer.specs.Bytes.{is_end}
use Rattle.tokenizer.specs.Points.{column_past, column_after, past, next_line}
use Rattle.tokenizer.specs.Lines.{starts_lf, end_at}
use Rattle.tokenizer.specs.Feed.{tab_unit, onward, feed_at, Fed}
use Rattle.tokenizer.specs.Spaces.{space_at, next_unit, spaces_past, space_units, space_ahead}
use Rattle.tokenizer.proofs.Ends.{end_fits}

-- ## A unit leads to a point of the sheet

fed_tab : (s : List ℕ) (p : Point) → Fed s p → p.index < length s → Fed s (tab_unit p)
fed_tab s p h l = go (eqb (p.column % 4) 0) refl
  where
    go : (t : Bool) → eqb (p.column % 4) 0 ≡ t
        → Fed s (cond t (record { line = p.line; column = p.column + 1; index = p.index + 1; vs = 0 }) (record { line = p.line; column = p.column + 1; index = p.index; vs = p.vs + 1 }))
    go true e =
        record { short = h.short; within = omega arith; narrow = omega (arith, h.narrow, h.inner); lined = omega (arith, h.lined); inner = omega arith }
    go false e =
        let n = eqb-false (p.column % 4) 0 e in
        record { short = h.short; within = h.within; narrow = omega (arith, h.narrow); lined = h.lined; inner = omega (arith, h.inner) }

fed-byte : (s : List ℕ) (p : Point) (b : ℕ) → Fed s p → p.index < length s → eqb b 9 ≡ false → Fed s (past p (b ∷ []))
unfolding column_past column_after
fed-byte s p b h l e =
    rw e
    (record { short = h.short; within = omega arith; narrow = omega (arith, h.narrow, h.inner); lined = omega (arith, h.lined); inner = omega arith })

fed-end : (s : List ℕ) (p : Point) (n : ℕ) → Fed s p → 0 < n → p.index + n ≤ length s → Fed s (next_line p n)
fed-end s p n h z l =
    record { short = h.short; within = l; narrow = omega arith; lined = omega (arith, h.lined); inner = omega arith }

end-some : (b : ℕ) (u : List ℕ) → 0 < end_at (b ∷ u)
end-some b u = go (eqb b 13 && starts_lf u)
  where
    go : (t : Bool) → 0 < cond t 2 1
    go true = omega arith
    go false = omega arith

fed-front : (s : List ℕ) (p : Point) (u : List ℕ) → Fed s p → length u ≤ length s - p.index → Fed s (onward p u)
fed-front s p [] h l = h
fed-front s p (b ∷ u) h l = go (is_end b) (eqb b 9) refl
  where
    go : (t v : Bool) → eqb b 9 ≡ v → Fed s (cond t (next_line p (end_at (b ∷ u))) (cond v (tab_unit p) (past p (b ∷ []))))
    go true v e = fed-end s p (end_at (b ∷ u)) h (end-some b u) (omega (arith, (end_fits (b ∷ u)).0, h.within))
    go false true e = fed_tab s p h (omega arith)
    go false false e = fed-byte s p b h (omega arith) e

pub fed-next : (s : List ℕ) (p : Point) → Fed s p → Fed s (next_unit s p)
fed-next s p h = fed-front s p (drop p.index s) h (omega (arith, length-drop p.index s))

-- ## One more unit of whitespace, or none

module _ (s : List ℕ) (p : Point) where
  pub ahead_some : (n : ℕ) → space_ahead (feed_at s p) n ≡ true → 1 ≤ n
  ahead_some zero e = absurd (true≢false (sym e))
  ahead_some (suc n) e = omega arith

  ahead_space : (n : ℕ) (t : Bool) → space_ahead (feed_at s p) (suc n) ≡ t → space_at s p ≡ t
  ahead_space n t e = rw (ne_eqb (suc n) 0 (λ (z : suc n ≡ 0). omega arith)) at e

  pub past_more : (n : ℕ) → space_ahead (feed_at s p) n ≡ true → spaces_past s (n - 1) (next_unit s p) ≡ spaces_past s n p
  unfolding spaces_past
  past_more zero e = absurd (true≢false (sym e))
  past_more (suc n) e = rw (sub-one, ahead_space n true e)

  pub units_more : (n : ℕ) → space_ahead (feed_at s p) n ≡ true → 1 + space_units s (n - 1) (next_unit s p) ≡ space_units s n p
  unfolding space_units
  units_more zero e = absurd (true≢false (sym e))
  units_more (suc n) e = rw (sub-one, ahead_space n true e)

  pub past_done : (n : ℕ) → space_ahead (feed_at s p) n ≡ false → spaces_past s n p ≡ p
  unfolding spaces_past
  past_done zero e = refl
  past_done (suc n) e = rw (ahead_space n false e)

  pub units_done : (n : ℕ) → space_ahead (feed_at s p) n ≡ false → space_units s n p ≡ 0
  unfolding space_units
  units_done zero e = refl
  units_done (suc n) e = rw (ahead_space n false e)

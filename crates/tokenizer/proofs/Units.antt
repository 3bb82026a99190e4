-- The feed unit by unit: the next point by the byte that stands there.
-- Assumes nothing.
use Prim.Native.Nat.{ℕ, zero, suc, ◌+◌, ◌<◌, ◌≤◌}
use mathlib.Core.Path.{◌≡◌, sym}
use mathlib.Core.Bool.{true, true≢false}
use mathlib.Core.List.{List, [], ◌∷◌}
use native.Mathlib.Omega.{arith}
use native.Mathlib.Numerals.{add-one}
use borrow.Author.Tests.{ne_eqb}
use lib.ListN.{length, drop, get_or, drop_of_length-le}
use lib.Seq.{drop-cons}
use Rattle.tokenizer.specs.declared.event.Point.{Point}
use Rattle.tokenizer.specs.Bytes.{is_end}
use Rattle.tokenizer.specs.Points.{past, next_line}
use Rattle.tokenizer.specs.Lines.{end_at}
use Rattle.tokenizer.specs.Feed.{tab_unit, onward, inside_end}

pub inside-above : (s : List ℕ) (i : ℕ) → inside_end s i ≡ true → 1 ≤ i
inside-above s zero e = absurd (true≢false (sym e))
inside-above s (suc i) e = omega arith

module _ (s : List ℕ) (p : Point) where
  pub onward_over : length s ≤ p.index → p ≡ onward p (drop p.index s)
  onward_over h = rw (drop_of_length-le s h)

  module _ (h : p.index < length s) where
    abbrev byte : ℕ
    byte = get_or s p.index 0

    abbrev rest : List ℕ
    rest = drop (p.index + 1) s

    goes : drop p.index s ≡ byte ∷ rest
    goes = rw (add-one, drop-cons s p.index 0)

    pub onward_tab : byte ≡ 9 → tab_unit p ≡ onward p (drop p.index s)
    onward_tab e = rw (goes, e)

    pub onward-end : is_end byte ≡ true → next_line p (end_at (drop p.index s)) ≡ onward p (drop p.index s)
    onward-end e = rw (goes, e)

    pub onward-byte : (byte ≡ 9 → ⊥) → (byte ≡ 10 → ⊥) → (byte ≡ 13 → ⊥) → past p (byte ∷ []) ≡ onward p (drop p.index s)
    onward-byte n l r = rw (goes, ne_eqb byte 10 l, ne_eqb byte 13 r, ne_eqb byte 9 n)

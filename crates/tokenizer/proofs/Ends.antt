-- Line ends: how long they are, where the next line starts, and which lines are blank.
-- Assumes nothing.
use Prim.Native.Nat.{ℕ, ◌-◌, ◌≤◌}
use mathlib.Core.Path.{◌≡◌, refl, ap, sym, ◌∙◌}
use mathlib.Core.Bool.{Bool, true, false, cond, ◌&&◌}
use mathlib.Core.List.{List, [], ◌∷◌, append-nil}
use native.Mathlib.Omega.{arith}
use lib.Dec.{eqb}
use lib.ListN.{length, drop, length-drop}
use lib.Seq.{drop-drop}
use Rattle.std.specs.Prelude.{Option, Some, None, ◌<◌}
use Rattle.std.specs.Option.{unwrap_or}
use Rattle.tokenizer.specs.declared.event.Point.{Point}
use Rattle.tokenizer.specs.Bytes.{is_end, Reads}
use Rattle.tokenizer.specs.Points.{past}
use Rattle.tokenizer.specs.Lines.{starts_lf, line_body, end_at, line_end, is_empty, indent, unindented, blank}
use Rattle.tokenizer.specs.Moves.{ahead_of, rest_of, line_at, after, Inside}
use Rattle.tokenizer.proofs.Runs.{space_split}
use Rattle.tokenizer.proofs.Ahead.{inside_past, rest-past, run_end, rest_end}

-- ## The line end

end_two : (b : ℕ) (u : List ℕ) → end_at (b ∷ u) ≤ 2
end_two b u = go (eqb b 13 && starts_lf u)
  where
    go : (t : Bool) → cond t 2 1 ≤ 2
    go true = omega arith
    go false = omega arith

pub end_fits : (u : List ℕ) → (end_at u ≤ length u) × (end_at u ≤ 2)
end_fits [] = (omega arith, omega arith)
end_fits (b ∷ []) = (go (eqb b 13), end_two b [])
  where
    go : (t : Bool) → cond (t && false) 2 1 ≤ 1
    go true = omega arith
    go false = omega arith
end_fits (b ∷ c ∷ u) = (omega (arith, end_two b (c ∷ u)), end_two b (c ∷ u))

-- none stands where the sheet ends
pub no_end : (u : List ℕ) → line_end u ≡ None → end_at u ≡ 0
no_end [] e = refl
no_end (b ∷ u) e = cc

-- one that stands there is no shorter than a byte
pub an_end : (u : List ℕ) (n : ℕ) → line_end u ≡ Some n → (end_at u ≡ n) × ((0 < n) × (0 < length u))
an_end [] n e = cc
an_end (b ∷ u) n e = let f : end_at (b ∷ u) ≡ n = ap (λ (o : Option ℕ). unwrap_or o 0) e in (f, (omega (arith, f, positive (eqb b 13 && starts_lf u)), omega arith))
  where
    positive : (t : Bool) → 0 < cond t 2 1
    positive true = omega arith
    positive false = omega arith

-- the same of an answer that was read
pub end_read : (u : List ℕ) (o : Option ℕ) (n : ℕ) → o ≡ line_end u → o ≡ Some n → (n ≡ end_at u) × (n ≡ 0 → ⊥)
end_read u o n e h = let some = an_end u n (sym e ∙ h) in (sym some.0, λ z. omega (arith, z, some.1.0))

pub none_read : (u : List ℕ) (o : Option ℕ) → o ≡ line_end u → o ≡ None → end_at u ≡ 0
none_read u o e h = no_end u (sym e ∙ h)

-- its length, 0 for none
pub end_or : (u : List ℕ) → unwrap_or (line_end u) 0 ≡ end_at u
end_or [] = refl
end_or (b ∷ u) = refl

module _ (s : List ℕ) (p : Point) where
  -- the line end where the line's bytes end
  pub end-past : end_at (drop (past p (rest_of s p)).index s) ≡ (line_at s p).end
  end-past = ap end_at (sym (drop-drop (length (rest_of s p)) p.index s))

  pub end-small : (line_at s p).end ≤ 2
  end-small = (end_fits (drop (length (rest_of s p)) (drop p.index s))).1

  pub body-inside : Inside s p → Inside s (past p (rest_of s p))
  body-inside h = inside_past s p (rest_of s p) [] h (sym (append-nil (rest_of s p)))

  -- where the line's bytes end nothing is left of it
  pub stop-rest : rest_of s (past p (rest_of s p)) ≡ []
  stop-rest = rest-past s p (rest_of s p) [] (sym (append-nil (rest_of s p)))

  -- the next line starts in the sheet
  pub after-inside : ((line_at s p).end ≡ 0 → ⊥) → Inside s p → Inside s (after s p)
  after-inside z h =
      let i = body-inside h in
      let l : end_at (drop (past p (rest_of s p)).index s) ≤ length s - (past p (rest_of s p)).index = rw (← length-drop) (end_fits (drop (past p (rest_of s p)).index s)).0 in
      let e = end-past in
      record { short = h.short; within = omega (arith, i.within); narrow = omega arith; lined = omega (arith, h.lined); flat = refl }

-- ## Blank lines

module _ {kind : ℕ → ℕ} (ok : Reads kind) where
  empty_ahead : (u : List ℕ) → is_empty (line_body u) ≡ eqb (ahead_of kind u) 2
  unfolding line_body
  empty_ahead [] = refl
  empty_ahead (b ∷ u) = go (is_end b) ∙ sym (ok.ends b)
    where
      go : (t : Bool) → is_empty (cond t [] (b ∷ line_body u)) ≡ t
      go true = refl
      go false = refl

  -- a line is blank where whitespace leads to its end
  pub blank_ahead : (s : List ℕ) (p : Point) → blank kind (rest_of s p) ≡ eqb (ahead_of kind (drop (run_end (indent kind) s p).index s)) 2
  blank_ahead s p =
      ap is_empty (sym (rest_end (indent kind) (unindented kind) (space_split kind) s p)) ∙ empty_ahead (drop (run_end (indent kind) s p).index s)

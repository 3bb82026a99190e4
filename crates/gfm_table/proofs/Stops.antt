-- Where a row's runs stop, and the first solid byte of a line.
-- Assumes nothing.
use Prim.Native.Nat.{ℕ, ◌≤◌}
use mathlib.Core.Path.{◌≡◌, refl, ap, sym, ◌∙◌}
use mathlib.Core.Bool.{Bool, true, false, cond}
use mathlib.Core.List.{List, [], ◌∷◌}
use mathlib.Core.Logic.{◌⊎◌, inl, inr}
use native.Mathlib.Omega.{arith}
use borrow.Author.Tests.{ne_eqb, eqb-true, eqb-false}
use lib.Dec.{eqb}
use lib.ListN.{drop}
use Rattle.tokenizer.specs.declared.event.Point.{Point}
use Rattle.tokenizer.specs.Bytes.{is_end, Reads}
use Rattle.tokenizer.specs.Lines.{indent, unindented}
use Rattle.tokenizer.specs.Moves.{ahead_of, rest_of}
use Rattle.tokenizer.specs.Lines.{line_body}
use Rattle.gfm_table.specs.Machine.{data_run, escaped, pipe_first}
use Rattle.tokenizer.proofs.Ahead.{run_end, line_case, rest_end}
use Rattle.tokenizer.proofs.Runs.{space_split}
use Rattle.gfm_table.proofs.Runs.{View, view, space, pipe, slash, plain, data_off}

module _ {kind : ℕ → ℕ} (ok : Reads kind) where
  pub data_stops : (u : List ℕ) → 1 ≤ ahead_of kind u → ahead_of kind u ≤ 3 → data_run kind false (line_body u) ≡ []
  unfolding line_body data_run
  data_stops [] g l = refl
  data_stops (b ∷ u) g l = line_case ok b u (λ r. data_run kind false r ≡ []) refl (λ z. data_off kind b (line_body u) (go (view (kind b)) z))
    where
      go : View (kind b) → (kind b ≡ 2 → ⊥) → (kind b ≡ 1) ⊎ (kind b ≡ 3)
      go (space e) z = inl e
      go (pipe e) z = inr e
      go (slash e) z = absurd (omega arith)
      go (plain e f h) z = absurd (z (let x = eqb-false (kind b) 1 e in let y = eqb-false (kind b) 3 f in omega arith))

  pub escape_stops : (u : List ℕ) → (ahead_of kind u ≡ 3 → ⊥) → (ahead_of kind u ≡ 4 → ⊥) → escaped kind (line_body u) ≡ []
  unfolding line_body
  escape_stops [] g l = refl
  escape_stops (b ∷ u) g l = line_case ok b u (λ r. escaped kind r ≡ []) refl (λ z. rw (ne_eqb (kind b) 3 g, ne_eqb (kind b) 4 l))

  -- ## The first solid byte

  pipe_ahead : (u : List ℕ) → pipe_first kind (line_body u) ≡ eqb (ahead_of kind u) 3
  unfolding line_body
  pipe_ahead [] = refl
  pipe_ahead (b ∷ u) = go (is_end b) refl
    where
      go : (t : Bool) → is_end b ≡ t → pipe_first kind (cond t [] (b ∷ line_body u)) ≡ eqb (kind b) 3
      go true e = rw (eqb-true (kind b) 2 (ok.ends b ∙ e))
      go false e = refl

  pub led_ahead : (s : List ℕ) (p : Point) → pipe_first kind (unindented kind (rest_of s p)) ≡ eqb (ahead_of kind (drop (run_end (indent kind) s p).index s)) 3
  led_ahead s p =
      ap (pipe_first kind) (sym (rest_end (indent kind) (unindented kind) (space_split kind) s p)) ∙ pipe_ahead (drop (run_end (indent kind) s p).index s)

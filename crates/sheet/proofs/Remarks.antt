-- A remark is no delimiter row where `>` has kind 0: what it writes before the first pipe begins with `>`, and is no value.
-- Assumes nothing.
use Prim.Native.Nat.{ℕ}
use mathlib.Core.Path.{◌≡◌, refl, ap, sym, ◌∙◌}
use mathlib.Core.List.{List, [], ◌∷◌, head-eq_of_cons-eq}
use mathlib.Core.Bool.{true, false, true≢false, false≢true}
use native.Mathlib.Omega.{arith}
use borrow.Author.Tests.{eqb-true}
use Rattle.tokenizer.specs.Lines.{is_space, unindented}
use Rattle.gfm_table.specs.Heads.{shallow, on_stretch, stretches, trimmed, untailed, unled, untrailed, values, hyphens, all_values}
use Rattle.sheet.specs.Walk.{starts_quote, remark}
use Rattle.sheet.specs.Demands.{NoRemark}
use Rattle.sheet.proofs.Tests.{test, both_true}
use Rattle.sheet.proofs.Walks.{opens-head}

quote-first : (u : List ℕ) → starts_quote u ≡ true → (v : List ℕ) × (u ≡ 62 ∷ v)
quote-first [] h = absurd (false≢true h)
quote-first (b ∷ u) h = (u, ap (λ (c : ℕ). c ∷ u) (eqb-true b 62 h))

module _ (kind : ℕ → ℕ) (zero : kind 62 ≡ 0) where
  -- the stretches of a line, the first of which begins with `>` behind its whitespace
  record Quoted (cs : List (List ℕ)) : Type 0 where
    c : List ℕ
    ds : List (List ℕ)
    v : List ℕ
    same : cs ≡ c ∷ ds
    first : unindented kind c ≡ 62 ∷ v

  on_quote : (cs : List (List ℕ)) → Quoted (on_stretch 62 cs)
  unfolding unindented
  on_quote [] = record { c = 62 ∷ []; ds = []; v = []; same = refl; first = rw zero }
  on_quote (c ∷ ds) = record { c = 62 ∷ c; ds = ds; v = c; same = refl; first = rw zero }

  on_space : (b : ℕ) → is_space kind b ≡ true → {cs : List (List ℕ)} → Quoted cs → Quoted (on_stretch b cs)
  unfolding unindented
  on_space b e q = record { c = b ∷ q.c; ds = q.ds; v = q.v; same = ap (on_stretch b) q.same; first = rw e q.first }

  quoted : (u v : List ℕ) → unindented kind u ≡ 62 ∷ v → Quoted (stretches kind u)
  unfolding stretches unindented
  quoted [] v h = let z : ◌≡◌ {A = ℕ} 0 1 = cc in absurd (omega arith)
  quoted (b ∷ u) v h =
      test (is_space kind b)
      (λ e. rw (eqb-true (kind b) 1 e) (on_space b e (quoted u v (rw e at h))))
      (λ e. let k : b ≡ 62 = head-eq_of_cons-eq (rw e at h) in rw (k, zero) (on_quote (stretches kind u)))

  no-hyphens : (x : List ℕ) → hyphens kind (62 ∷ x) ≡ false
  unfolding hyphens
  no-hyphens [] = rw zero
  no-hyphens (c ∷ x) = rw zero

  no-values : (x : List ℕ) (cs : List (List ℕ)) → all_values kind (untrailed (unled ((62 ∷ x) ∷ cs))) ≡ false
  unfolding untrailed all_values
  no-values x [] = rw (zero, no-hyphens x)
  no-values x (d ∷ cs) = rw (zero, no-hyphens x)

  quoted-values : (u v : List ℕ) → unindented kind u ≡ 62 ∷ v → all_values kind (values kind u) ≡ false
  unfolding trimmed untailed
  quoted-values u v h =
      let q = quoted u v h in
      rw (q.same, q.first, zero) (no-values (untailed kind q.v) (trimmed kind q.ds))

pub unquoted : (kind : ℕ → ℕ) → kind 62 ≡ 0 → NoRemark kind
unquoted kind zero on l d o =
    let u = d.line.body in
    test (remark kind u)
    (λ e.
    let s = quote-first (unindented kind u) (both_true (shallow kind u) _ e).1 in
    absurd (true≢false (sym (opens-head kind on l d o).valid ∙ quoted-values kind zero u s.0 s.1)))
    (λ e. e)

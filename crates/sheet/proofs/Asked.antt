-- What is read of a sheet only where questions 20 to 22 and 1 are answered yes.
-- Assumes nothing.
use Prim.Native.Nat.{ℕ, ◌<◌, ◌≤◌}
use mathlib.Core.Path.{◌≡◌, refl, sym}
use mathlib.Core.Bool.{Bool, true, false, cond}
use mathlib.Core.List.{List, []}
use native.Mathlib.Omega.{arith}
use borrow.Author.Tests.{eqb-true, eq-eqb, ne_eqb, ltb-false, le-ltb}
use lib.Dec.{eqb, ltb}
use lib.ListN.{length}
use Rattle.tokenizer.specs.declared.event.Event.{Event}
use Rattle.tokenizer.specs.Refusals.{length_refusal}
use Rattle.tokenizer.specs.Slots.{wrote}
use Rattle.tokenizer.proofs.Writing.{wrote_none}
use Rattle.tokenizer.specs.Bytes.{kind_in, kinds_refusal, Passes}
use Rattle.tokenizer.proofs.KindTables.{passes}
use Rattle.sheet.specs.Walk.{Found, tables, raw_of, resolved_of}
use Rattle.sheet.specs.Writing.{tables_read, aligned_from}

module _ (s t : List ℕ) (on : Bool) where
  -- what holds of no tables, and of all where both are accepted, holds of those that are read
  of_read : (P : List Found → Type 0) → P [] → (kinds_refusal t ≡ 0 → length s ≤ 65536 → P (tables (kind_in t) on s)) → P (tables_read s t on)
  of_read P none all = go (eqb (kinds_refusal t) 0) (ltb 65536 (length s)) refl refl
    where
      go : (a b : Bool) → eqb (kinds_refusal t) 0 ≡ a → ltb 65536 (length s) ≡ b → P (cond a (cond b [] (tables (kind_in t) on s)) [])
      go false b e f = none
      go true true e f = none
      go true false e f = all (eqb-true (kinds_refusal t) 0 e) (ltb-false 65536 (length s) f)

  -- a sheet of which a table is read is not too long, and the table of kinds passes
  pub read_short : 0 < length (tables_read s t on) → length s ≤ 65536
  read_short = of_read (λ (fs : List Found). 0 < length fs → length s ≤ 65536) (λ h. absurd (omega (arith, h))) (λ e l h. l)

  pub read-passes : 0 < length (tables_read s t on) → Passes t
  read-passes = of_read (λ (fs : List Found). 0 < length fs → Passes t) (λ h. absurd (omega (arith, h))) (λ e l h. passes t e)

  -- where both are accepted, all tables are read; where one is not, none
  pub read_all : kinds_refusal t ≡ 0 → length s ≤ 65536 → tables_read s t on ≡ tables (kind_in t) on s
  read_all k h = rw (eq-eqb (kinds_refusal t) 0 k, le-ltb 65536 (length s) h) refl

  pub read_unkind : (kinds_refusal t ≡ 0 → ⊥) → tables_read s t on ≡ []
  read_unkind k = rw (ne_eqb (kinds_refusal t) 0 k) refl

  pub read_long : (length_refusal s ≡ 0 → ⊥) → tables_read s t on ≡ []
  read_long h = of_read (λ (fs : List Found). fs ≡ []) refl (λ e l. absurd (h (rw (le-ltb 65536 (length s) l) refl)))

  -- and where none is, nothing is written
  module _ (none : tables_read s t on ≡ []) where
    pub raw_stays : (zs : List Event) → zs ≡ wrote 0 (raw_of (tables_read s t on)) zs
    unfolding raw_of
    raw_stays zs = rw none (sym (wrote_none 0 zs))

    pub results_stay : (zs : List Event) → zs ≡ wrote 0 (resolved_of (tables_read s t on)) zs
    unfolding resolved_of
    results_stay zs = rw none (sym (wrote_none 0 zs))

    pub alignments_stay : (us : List ℕ) → us ≡ aligned_from 0 (tables_read s t on) us
    unfolding aligned_from
    alignments_stay us = rw none refl

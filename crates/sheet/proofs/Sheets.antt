-- The slots of a whole sheet: what is written to them where it is accepted, cleared behind that; and cleared where it is not.
-- Assumes nothing.
use Prim.Native.Nat.{ℕ, ◌≤◌}
use mathlib.Core.Path.{◌≡◌, refl, ap, sym, ◌∙◌, subst}
use mathlib.Core.Bool.{Bool, true, false, cond}
use mathlib.Core.List.{List}
use native.Mathlib.Omega.{arith}
use borrow.Author.Tests.{eq-eqb, ne_eqb, eqb-true, eqb-false, ltb-false, le-leb}
use lib.Dec.{eqb, ltb}
use lib.ListN.{length, replicate}
use Rattle.std.specs.Prelude.{Result, Ok, Err, IfOk}
use Rattle.std.specs.Result.{result_unwrap_or}
use Rattle.tokenizer.specs.declared.event.Event.{Event}
use Rattle.tokenizer.specs.declared.refusal.Refusal.{Refusal}
use Rattle.tokenizer.specs.Bytes.{kinds_refusal}
use Rattle.tokenizer.specs.Events.{blank_event}
use Rattle.tokenizer.specs.Refusals.{length_refusal}
use Rattle.tokenizer.specs.Slots.{cleared, wrote}
use Rattle.tokenizer.proofs.Answering.{ok-answered, err-answered, short_enough}
use Rattle.tokenizer.proofs.Blanks.{slots_none, cleared_all}
use Rattle.tokenizer.proofs.Writing.{wrote_cleared, wrote-length}
use Rattle.gfm_table.specs.Calls.{or_else, slot_refusal}
use Rattle.sheet.specs.declared.calls.SheetCounts.{SheetCounts}
use Rattle.sheet.specs.Walk.{Found, raw_of, resolved_of, aligned_of}
use Rattle.sheet.specs.Aligning.{zeros}
use Rattle.sheet.specs.Writing.{tables_read, counts_of, aligned_from}
use Rattle.sheet.specs.Calls.{result_refusal, sheet_tables, sheet_number, sheet_of, sheet_raw, sheet_results, sheet_aligned}
use Rattle.sheet.proofs.Asked.{read_all}
use Rattle.sheet.proofs.Slots.{cleared-zeros, aligned-length, aligned-kept}

-- a question that none before it answers no, and that it does not either
or-0 : (a b : ℕ) → or_else a b ≡ 0 → (a ≡ 0) × (b ≡ 0)
or-0 a b = go (eqb a 0) refl
  where
    go : (t : Bool) → eqb a 0 ≡ t → cond t b a ≡ 0 → (a ≡ 0) × (b ≡ 0)
    go true e h = (eqb-true a 0 e, h)
    go false e h = absurd (eqb-false a 0 e h)

enough : (q n m : ℕ) → (q ≡ 0 → ⊥) → cond (ltb n m) q 0 ≡ 0 → m ≤ n
enough q n m z = go (ltb n m) refl
  where
    go : (t : Bool) → ltb n m ≡ t → cond t q 0 ≡ 0 → m ≤ n
    go true e h = absurd (z h)
    go false e h = ltb-false n m e

module _ (s t : List ℕ) (on : Bool) (ys ms : List Event) (ks : List ℕ) where
  abbrev n : ℕ
  n = length ys

  abbrev m : ℕ
  m = length ms

  abbrev k : ℕ
  k = length ks

  abbrev fs : List Found
  fs = sheet_tables s t on n m k

  abbrev none : SheetCounts
  none = record { tables = 0; events = 0; results = 0; alignments = 0 }

  -- where all questions are answered yes, there are slots enough
  enough-slots : sheet_number s t on n m k ≡ 0 → (length (raw_of fs) ≤ n) × ((length (resolved_of fs) ≤ m) × (length (aligned_of fs) ≤ k))
  enough-slots z =
      let a = or-0 (kinds_refusal t) _ z in
      let b = or-0 (length_refusal s) _ a.1 in
      let c = or-0 (slot_refusal n (raw_of fs)) _ b.1 in
      let d = or-0 (result_refusal m (resolved_of fs)) _ c.1 in
      (enough 9 n _ (λ e. omega arith) c.0, (enough 12 m _ (λ e. omega arith) d.0, enough 14 k _ (λ e. omega arith) d.1))

  -- what holds of the tables that are read holds of all where the sheet is accepted
  pub ok_read : (r : Result SheetCounts Refusal) → r ≡ sheet_of s t on n m k → (P : List Found → Type 0) → P (tables_read s t on) → IfOk r (λ _. P fs)
  ok_read (Ok c) e P p =
      let z = (ok-answered (sheet_number s t on n m k) (counts_of fs) c e).1 in
      let a = or-0 (kinds_refusal t) _ z in
      subst P (read_all s t on a.0 (short_enough s (or-0 (length_refusal s) _ a.1).0)) p
  ok_read (Err x) e P p = tt

  -- the tables that are read, and what is kept of the answer
  abbrev gs : List Found
  gs = tables_read s t on

  abbrev kept : SheetCounts
  kept = result_unwrap_or (sheet_of s t on n m k) none

  -- the slots cleared behind what is kept of an answer
  pub record RightBy (r : Result SheetCounts Refusal) (zs ws : List Event) (us : List ℕ) : Type 0 where
    pub events : cleared blank_event (result_unwrap_or r none).events zs ≡ sheet_raw s t on n m k
    pub results : cleared blank_event (result_unwrap_or r none).results ws ≡ sheet_results s t on n m k
    pub aligned : cleared 0 (result_unwrap_or r none).alignments us ≡ sheet_aligned s t on n m k

  pub right_by : (r : Result SheetCounts Refusal) (zs ws : List Event) (us : List ℕ) → r ≡ sheet_of s t on n m k → length zs ≡ n → length ws ≡ m → length us ≡ k
      → IfOk r (λ _. zs ≡ wrote 0 (raw_of fs) ys) → IfOk r (λ _. ws ≡ wrote 0 (resolved_of fs) ms) → IfOk r (λ _. us ≡ aligned_from 0 fs ks) → RightBy r zs ws us
  right_by (Ok c) zs ws us e x y z p q w =
      let a = ok-answered (sheet_number s t on n m k) (counts_of fs) c e in
      let f = enough-slots a.1 in
      rw (a.0, p, q, w)
      (record {
        events = wrote_cleared (raw_of fs) ys f.0 ∙ rw (eq-eqb _ 0 a.1) refl;
        results = wrote_cleared (resolved_of fs) ms f.1.0 ∙ rw (eq-eqb _ 0 a.1) refl;
        aligned = aligned-kept fs ks f.1.1 ∙ rw (eq-eqb _ 0 a.1, le-leb (length (aligned_of fs)) k f.1.1) refl;
      })
  right_by (Err x) zs ws us e a b d p q w =
      let h = ne_eqb _ 0 (err-answered (sheet_number s t on n m k) (counts_of fs) x e).1 in
      record {
        events = cleared_all zs ∙ ap (λ i. replicate i blank_event) a ∙ sym (slots_none n) ∙ rw h refl;
        results = cleared_all ws ∙ ap (λ i. replicate i blank_event) b ∙ sym (slots_none m) ∙ rw h refl;
        aligned = cleared-zeros us ∙ ap zeros d ∙ rw h refl;
      }

  -- every slot: what is written of the tables that are read, cleared behind what is kept
  pub record Right : Type 0 where
    pub events : cleared blank_event kept.events (wrote 0 (raw_of gs) ys) ≡ sheet_raw s t on n m k
    pub results : cleared blank_event kept.results (wrote 0 (resolved_of gs) ms) ≡ sheet_results s t on n m k
    pub aligned : cleared 0 kept.alignments (aligned_from 0 gs ks) ≡ sheet_aligned s t on n m k

  pub right : Right
  right =
      let r = sheet_of s t on n m k in
      let zs = wrote 0 (raw_of gs) ys in
      let ws = wrote 0 (resolved_of gs) ms in
      let us = aligned_from 0 gs ks in
      let h = right_by r zs ws us refl (wrote-length 0 (raw_of gs) ys) (wrote-length 0 (resolved_of gs) ms) (aligned-length 0 gs ks)
      (ok_read r refl (λ (x : List Found). zs ≡ wrote 0 (raw_of x) ys) refl)
      (ok_read r refl (λ (x : List Found). ws ≡ wrote 0 (resolved_of x) ms) refl)
      (ok_read r refl (λ (x : List Found). us ≡ aligned_from 0 x ks) refl) in
      record { events = h.events; results = h.results; aligned = h.aligned }

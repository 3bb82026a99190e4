-- The passes that the calls `resolve` and `align` make give their answers, and fill their slots.
-- Assumes nothing.
use Prim.Native.Nat.{ℕ, zero, suc, ◌-◌, ◌≤◌}
use mathlib.Core.Path.{◌≡◌, refl, sym, ap, ◌∙◌}
use mathlib.Core.List.{List, [], ◌∷◌, ◌++◌}
use mathlib.Core.Bool.{Bool, true, false, cond, ◌&&◌}
use mathlib.Core.Option.{Option, none, some}
use lib.Dec.{leb}
use lib.ListN.{length, drop, replicate, length-drop}
use native.Mathlib.Nat.{sub-zero}
use native.Mathlib.Omega.{arith}
use borrow.Author.Tests.{leb-true}
use Rattle.std.specs.Prelude.{Result, Ok, Err, Option as Maybe, Some, None}
use Rattle.std.specs.Result.{result_unwrap_or}
use Rattle.tokenizer.specs.declared.event.Event.{Event}
use Rattle.tokenizer.specs.Events.{blank_event}
use Rattle.tokenizer.specs.Slots.{slots_of, cleared}
use Rattle.tokenizer.specs.declared.refusal.Refusal.{Refusal}
use Rattle.tokenizer.proofs.Blanks.{slots_none, cleared_all}
use Rattle.edit_map.specs.declared.infer_step.Aligning.{Aligning}
use Rattle.edit_map.specs.declared.infer_step.Stage.TheVariants.{Opening}
use Rattle.edit_map.specs.Base.{most}
use Rattle.edit_map.specs.Accept.{accepts}
use Rattle.edit_map.specs.TablesOf.{resolved_list}
use Rattle.edit_map.specs.Cursors.{front, stepped, given_to}
use Rattle.edit_map.specs.AlignSteps.{start_at, is_found, done, scan_of, aligns_from}
use Rattle.edit_map.specs.Answers.{resolve_answer, resolve_slots, aligned_of, align_answer, aligned_slots, align_slots}
use Rattle.edit_map.specs.Verdicts.{streamed_by, streamed, streamed_slots, told_of}
use Rattle.edit_map.proofs.Steps.{as_many, Resolves}
use Rattle.edit_map.proofs.Resolving.{resolve_stream}
use Rattle.edit_map.proofs.Aligns.{align_given, aligns, counted, zeroed, fills}

-- ## Resolve

module _ (es ys : List Event) (fits : length es ≤ most) where
  -- the number of slots, and the result events
  abbrev n : ℕ
  n = length ys

  abbrev out : List Event
  out = resolved_list es

  pub streamed-answer : streamed es n ≡ resolve_answer es n
  unfolding streamed resolve_answer
  streamed-answer = go (accepts es) refl
    where
      fit : (b : Bool) → streamed_by (cond b (Some (length out)) None) ≡ cond b (Ok (length out)) (Err Refusal.TooFewResultSlots)
      fit true = refl
      fit false = refl

      go : (b : Bool) → accepts es ≡ b → cond b (streamed_by (given_to es 0 n front)) (Err Refusal.NoRawTables) ≡ cond b (cond (leb (length out) n) (Ok (length out)) (Err Refusal.TooFewResultSlots)) (Err Refusal.NoRawTables)
      go true e = ap streamed_by (resolve_stream es e fits ys).count ∙ fit (leb (length out) n)
      go false e = refl

  -- slots that are all cleared
  none_kept : (zs : List Event) → length zs ≡ n → cleared blank_event 0 zs ≡ slots_of n []
  none_kept zs h = cleared_all zs ∙ ap (λ (k : ℕ). replicate k blank_event) h ∙ sym (slots_none n)

  pub streamed_slots_lem : cleared blank_event (result_unwrap_or (streamed es n) 0) (streamed_slots es ys) ≡ resolve_slots es n
  unfolding streamed streamed_slots resolve_slots
  streamed_slots_lem = go (accepts es) refl
    where
      kept : Maybe ℕ → List Event
      kept o = cleared blank_event (result_unwrap_or (streamed_by o) 0) (stepped es front ys)

      fit : (b : Bool) → leb (length out) n ≡ b → Resolves es out ys → kept (cond b (Some (length out)) None) ≡ slots_of n (cond b out [])
      fit true e r = r.records (leb-true (length out) n e)
      fit false e r = none_kept (stepped es front ys) (as_many es front ys)

      go : (b : Bool) → accepts es ≡ b → cleared blank_event (result_unwrap_or (cond b (streamed_by (given_to es 0 n front)) (Err Refusal.NoRawTables)) 0) (cond b (stepped es front ys) ys) ≡ slots_of n (cond (b && leb (length out) n) out [])
      go true e = let r = resolve_stream es e fits ys in ap kept r.count ∙ fit (leb (length out) n) refl r
      go false e = none_kept ys refl

-- ## Align

zeroed-none : (n : ℕ) → zeroed n [] ≡ replicate n 0
unfolding zeroed
zeroed-none zero = refl
zeroed-none (suc n) = ap (λ (r : List ℕ). 0 ∷ r) (zeroed-none n)

zeroed-fit : (n : ℕ) (l : List ℕ) → length l ≤ n → zeroed n l ≡ l ++ replicate (n - length l) 0
unfolding zeroed
zeroed-fit n [] h = zeroed-none n ∙ ap (λ (k : ℕ). replicate k 0) (sym (sub-zero n))
zeroed-fit zero (x ∷ l) h = absurd (omega arith)
zeroed-fit (suc n) (x ∷ l) h = ap (λ (r : List ℕ). x ∷ r) (zeroed-fit n l (omega arith) ∙ ap (λ (k : ℕ). l ++ replicate k 0) (one_less n (length l)))
  where
    one_less : (a b : ℕ) → a - b ≡ suc a - suc b
    one_less a b = omega arith

module _ (es : List Event) (i n : ℕ) where
  -- what the slots hold where an answer is given
  abbrev pub aligned_by : Result ℕ Refusal → List ℕ
  aligned_by (Ok k) = aligns_from es n (start_at Opening i)
  aligned_by (Err r) = replicate n 0

module _ (es : List Event) (i n : ℕ) (fits : length es ≤ most) where
  abbrev found : Aligning
  found = scan_of es done (start_at Opening i)

  abbrev gs : List ℕ
  gs = align_given (start_at Opening i) (drop i es)

  count : found.count ≡ length gs
  count = counted (drop i es) (start_at Opening i) (rw (length-drop i es) (omega (arith, fits))) ∙ omega arith

  pub align-answer : told_of found n ≡ align_answer es i n
  unfolding told_of align_answer
  align-answer = go (is_found found.stage) ∙ ap (λ (o : Option (List ℕ)). aligned_of o n) (sym (aligns (drop i es) i))
    where
      go : (b : Bool) → cond b (cond (leb found.count n) (Ok found.count) (Err Refusal.TooFewAlignmentSlots)) (Err Refusal.NoTableToAlign) ≡ aligned_of (cond b (some gs) none) n
      go true = ap (λ (k : ℕ). cond (leb k n) (Ok k) (Err Refusal.TooFewAlignmentSlots)) count
      go false = refl

  pub align_slots_lem : aligned_by es i n (told_of found n) ≡ align_slots es i n
  unfolding told_of align_slots
  align_slots_lem = go (is_found found.stage) ∙ ap (λ (o : Option (List ℕ)). aligned_slots o n) (sym (aligns (drop i es) i))
    where
      fit : (b : Bool) → leb (length gs) n ≡ b → aligned_by es i n (cond b (Ok found.count) (Err Refusal.TooFewAlignmentSlots)) ≡ cond b (gs ++ replicate (n - length gs) 0) (replicate n 0)
      fit true e = fills es fits n (start_at Opening i) ∙ zeroed-fit n gs (leb-true (length gs) n e)
      fit false e = refl

      go : (b : Bool) → aligned_by es i n (cond b (cond (leb found.count n) (Ok found.count) (Err Refusal.TooFewAlignmentSlots)) (Err Refusal.NoTableToAlign)) ≡ aligned_slots (cond b (some gs) none) n
      go true = ap (λ (k : ℕ). aligned_by es i n (cond (leb k n) (Ok found.count) (Err Refusal.TooFewAlignmentSlots))) count ∙ fit (leb (length gs) n) refl
      go false = refl

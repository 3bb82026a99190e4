-- `head` meets its contract: the plan answers, and its cursor gives the slots; the built-in table lists `kind_of`.
-- Assumes nothing.
use Prim.Native.Nat.{ℕ}
use mathlib.Core.Path.{◌≡◌, ap, sym, ◌∙◌}
use mathlib.Core.Bool.{Bool, ◌||◌}
use mathlib.Core.List.{List}
use native.Mathlib.Omega.{arith}
use Rattle.std.proofs.Common.{rules}
use lib.ListN.{length}
use Rattle.std.specs.Prelude.{Result}
use Rattle.tokenizer.specs.declared.refusal.Refusal.{Refusal}
use Rattle.tokenizer.specs.Bytes.{kind_of, built_in, kind_in}
use Rattle.tokenizer.proofs.Answering.{ok-answered, err-answered, answered-ok, answered-err}
use Rattle.tokenizer.proofs.Blanks.{slots_none, cleared_all}
use Rattle.tokenizer.proofs.Bytes.{built}
use Rattle.tokenizer.proofs.KindTables.{built_passes, built_is}
use Rattle.gfm_table.specs.declared.calls.Plan.{Plan}
use Rattle.gfm_table.specs.declared.calls.HeadCounts.{HeadCounts}
use Rattle.gfm_table.specs.declared.stream.Cursor.TheVariants.{Begin}
use Rattle.gfm_table.specs.Stream.{gave}
use Rattle.gfm_table.specs.Calls.{point_at, head_counts, head_plan}
use Rattle.gfm_table.proofs.Plans.{head-good, head_gives, head_blanks}
use Rattle.gfm_table.proofs.head.Goals as goal
use Rattle.gfm_table.proofs.head.Goals.{then-lazy, else-lazy}

-- the plan by the built-in table is that by its rule
planned : {r : Result (Plan HeadCounts) Refusal} {ks : List ℕ} {z w : Bool} (s : List ℕ) (at : ℕ) (on : Bool) (n : ℕ) → ks ≡ built_in → z ≡ w → r ≡ head_plan (kind_in ks) s at on z n → r ≡ head_plan kind_of s at on w n
planned {w = w} s at on n e f h = h ∙ rw (e, f) (ap (λ (k : ℕ → ℕ). head_plan k s at on w n) built_is)

pub invariant_of-text : goal.invariant_of-text
invariant_of-text c = record { passes = rw c.builtin-kinds.ensures built_passes; fits = search rules }

pub fill-requires : goal.fill-requires
fill-requires c =
    let a = c.args in
    let n = length a.raw.now in
    let z : c.if-lazy.stray ≡ (a.lazy || a.pierced) = elim c.if-lazy.branch [ then-lazy w ↦ rw (w.stray-is, w.if-lazy.true) | else-lazy w ↦ rw (w.stray-is, w.if-lazy.false) ] in
    let p = ok-answered _ (record { answer = head_counts kind_of a.sheet.now a.offset a.code_indented (a.lazy || a.pierced) n; cursor = Begin (point_at a.sheet.now a.offset) }) _ (planned a.sheet.now a.offset a.code_indented n c.builtin-kinds.ensures z c.in-Ok.ensures) in
    rw p.0 (omega arith, head-good built a.sheet.now a.offset a.code_indented (a.lazy || a.pierced) n p.1)

pub returns-in-Ok : goal.returns-in-Ok
returns-in-Ok c =
    let a = c.args in
    let n = length a.raw.now in
    let z : c.if-lazy.stray ≡ (a.lazy || a.pierced) = elim c.if-lazy.branch [ then-lazy w ↦ rw (w.stray-is, w.if-lazy.true) | else-lazy w ↦ rw (w.stray-is, w.if-lazy.false) ] in
    let p = ok-answered _ (record { answer = head_counts kind_of a.sheet.now a.offset a.code_indented (a.lazy || a.pierced) n; cursor = Begin (point_at a.sheet.now a.offset) }) _ (planned a.sheet.now a.offset a.code_indented n c.builtin-kinds.ensures z c.in-Ok.ensures) in (
      rw p.0 (answered-ok _ _ p.1),
      c.fill.ensures ∙ rw (p.0, c.builtin-kinds.ensures) (ap (λ (k : ℕ → ℕ). gave k a.sheet.now n (Begin (point_at a.sheet.now a.offset))) built_is) ∙ head_gives built a.sheet.now a.offset a.code_indented (a.lazy || a.pierced) n p.1,
    )

pub returns-in-Err : goal.returns-in-Err
returns-in-Err c =
    let a = c.args in
    let n = length a.raw.now in
    let z : c.if-lazy.stray ≡ (a.lazy || a.pierced) = elim c.if-lazy.branch [ then-lazy w ↦ rw (w.stray-is, w.if-lazy.true) | else-lazy w ↦ rw (w.stray-is, w.if-lazy.false) ] in
    let p = err-answered _ (record { answer = head_counts kind_of a.sheet.now a.offset a.code_indented (a.lazy || a.pierced) n; cursor = Begin (point_at a.sheet.now a.offset) }) _ (planned a.sheet.now a.offset a.code_indented n c.builtin-kinds.ensures z c.in-Err.ensures) in (
      rw p.0 (answered-err _ _ p.1),
      c.clear_from.ensures ∙ cleared_all a.raw.now ∙ sym (slots_none n) ∙ head_blanks built a.sheet.now a.offset a.code_indented (a.lazy || a.pierced) n p.1,
    )

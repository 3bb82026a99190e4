-- `seek::closes_at` meets its contract: whitespace leads to the end of the line, or at most 3 units of it to `>`.
-- Assumes nothing.
use Prim.Native.Nat.{ℕ, ◌+◌, ◌-◌, ◌<◌}
use mathlib.Core.Path.{◌≡◌, ap, sym, ◌∙◌}
use mathlib.Core.List.{List}
use native.Mathlib.Omega.{arith}
use borrow.Author.Tests.{eq-eqb, eqb-true, ltb-true, ltb-false}
use lib.ListN.{length, drop, get_or}
use Rattle.tokenizer.specs.declared.kinds.Kind.TheVariants.{End}
use Rattle.tokenizer.specs.Lines.{line_body}
use Rattle.tokenizer.proofs.Widths.{same-indent}
use Rattle.tokenizer.proofs.Ends.{blank_ahead}
use Rattle.tokenizer.proofs.Ahead.{goes}
use Rattle.tokenizer.proofs.SameKinds.{same_number, other_number}
use Rattle.gfm_table.specs.Places.{point_in}
use Rattle.sheet.proofs.Closing.{same-shallow, blank-closes, closes-quote, closes_other, deep, unindented-at}
use Rattle.sheet.proofs.seek.closes_at.Goals as goal
use Rattle.sheet.proofs.seek.closes_at.Goals.{then-text-e-eq62, else-text-e-eq62}

pub returns-then-eq : goal.returns-then-eq
returns-then-eq g c =
    let a = c.args in
    let t = a.text.now in
    let s = t.bytes.now in
    let k = rw c.space_stop-e.ensures at c.kind_at.ensures in
    sym (blank-closes _ (line_body (drop a.at s)) (blank_ahead t.passes.reads s (point_in 0 a.at 1) ∙ eq-eqb _ 2 (sym k ∙ same_number _ End c.eq.ensures c.if-eq.true)))

pub is_shallow-requires : goal.is_shallow-requires
is_shallow-requires g c =
    let a = c.args in
    let t = a.text.now in
    let near : c.space_stop-e.result - a.at < 4 = elim c.if-text-e-eq62.branch [ then-text-e-eq62 w ↦ ltb-true _ _ (sym w.value-is ∙ c.if-e-at-lt4.true) | else-text-e-eq62 w ↦ absurd (w.if-text-e-eq62.false (eqb-true _ _ (sym w.value-is ∙ c.if-e-at-lt4.true))) ] in
    (c.space_stop-e.ensures ∙ ap (λ (v : List ℕ). a.at + length v) (sym (same-indent t.passes.reads (line_body (drop a.at t.bytes.now)))), omega (arith, near))

-- the byte behind the whitespace stands behind the indent
pub returns-then-e-at-lt4 : goal.returns-then-e-at-lt4
returns-then-e-at-lt4 g c =
    let t = c.args.text.now in
    let f = goes t.passes.reads _ _ _ c.kind_at.ensures (other_number _ End c.eq.ensures c.if-eq.false) in
    let quote : get_or t.bytes.now c.space_stop-e.result 0 ≡ 62 = elim c.if-text-e-eq62.branch [ then-text-e-eq62 w ↦ w.if-text-e-eq62.true | else-text-e-eq62 w ↦ eqb-true _ _ (sym w.value-is ∙ c.if-e-at-lt4.true) ] in
    c.is_shallow.ensures ∙ same-shallow t.passes.reads _ ∙ sym (closes-quote _ _ _ _ (unindented-at _ t.bytes.now c.args.at _ _ c.space_stop-e.ensures f) quote)

pub returns-else-e-at-lt4 : goal.returns-else-e-at-lt4
returns-else-e-at-lt4 g c =
    let t = c.args.text.now in
    let e = c.space_stop-e.result in
    let f = goes t.passes.reads t.bytes.now e _ c.kind_at.ensures (other_number _ End c.eq.ensures c.if-eq.false) in
    let u = unindented-at _ t.bytes.now c.args.at _ _ c.space_stop-e.ensures f in
    c.if-e-at-lt4.false
    ∙ sym (elim c.if-text-e-eq62.branch [
      | then-text-e-eq62 w ↦
          let far = ltb-false (e - c.args.at) 4 (sym w.value-is ∙ c.if-e-at-lt4.false) in
          closes-quote _ _ _ _ u w.if-text-e-eq62.true ∙ deep _ _ (λ h. omega (arith, c.space_stop-e.ensures, far))
      | else-text-e-eq62 w ↦ closes_other _ _ _ _ u w.if-text-e-eq62.false
    ])

-- `resolve::fill` meets its contract.
-- Assumes nothing.
use mathlib.Core.Path.{ap, sym, ◌∙◌}
use Prim.Native.Nat.{ℕ, ◌-◌, ◌+◌}
use native.Mathlib.Omega.{arith}
use lib.ListN.{length}
use Rattle.std.proofs.lemmas.List.{set-get_or}
use Rattle.std.specs.Bool.{then_some}
use mathlib.Core.Bool.{Bool}
use Rattle.edit_map.specs.Cursors.{given_to, next_of, over_at}
use Rattle.edit_map.proofs.Passes.{filled_over, filled_more, filled_none, given_over, given_more, given_none}
use Rattle.edit_map.proofs.resolve.fill.Goals as goal

pub returns-in-None : goal.returns-in-None
returns-in-None c =
    let l = c.loop-i in
    let s = l.stream in
    let o = c.in-None.ensures.1.0 in
    (sym (given_over s.list.now l.i (length c.args.results.now - l.i) s.cursor o) ∙ l.invariant.2, set-get_or l.results l.i _ ∙ filled_over s.list.now s.cursor l.i l.results o ∙ l.invariant.1)

pub loop-i-preserved : goal.loop-i-preserved
loop-i-preserved c =
    let l = c.loop-i in
    let es = l.stream.list.now in
    let cur = l.stream.cursor in
    let n = length c.args.results.now in
    let e = c.in-Some.ensures in
    rw (e.0, e.1.1, e.1.2) (
      l.invariant.0,
      filled_more es cur l.i l.results e.1.0 (omega arith) ∙ l.invariant.1,
      ap (λ (k : ℕ). given_to es k (n - (l.i + 1)) (next_of es cur)) (omega arith)
          ∙ sym (given_more es l.i (n - (l.i + 1)) cur e.1.0)
          ∙ ap (λ (k : ℕ). given_to es l.i k cur) (omega arith) ∙ l.invariant.2,
    )

pub returns : goal.returns
returns c =
    let l = c.loop-i in
    let es = l.stream.list.now in
    let cur = l.stream.cursor in (
      c.then_some.ensures ∙ ap (λ (b : Bool). then_some b (length l.results)) c.is_over.ensures
          ∙ ap (then_some (over_at es cur)) (omega arith) ∙ sym (given_none es l.i cur) ∙ ap (λ (k : ℕ). given_to es l.i k cur) (omega arith) ∙ l.invariant.2,
      filled_none es cur l.i l.results (omega arith) ∙ l.invariant.1,
    )

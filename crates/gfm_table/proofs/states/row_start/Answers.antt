-- `row_start` meets its contract: what stands after the indent says whether a divider leads.
-- Assumes nothing.
use Prim.Native.Nat.{ℕ}
use mathlib.Core.Bool.{Bool, true, false, not, cond}
use mathlib.Core.Path.{◌≡◌, ap, sym, ◌∙◌}
use lib.Dec.{eqb}
use mir.Val.{bool_byte}
use Rattle.std.specs.Prelude.{None}
use Rattle.tokenizer.specs.declared.event.Point.{Point}
use Rattle.tokenizer.specs.declared.kinds.Kind.TheVariants.{Pipe}
use Rattle.tokenizer.proofs.SameKinds.{same-numbers}
use Rattle.gfm_table.specs.declared.states.Scan.{Scan}
use Rattle.gfm_table.proofs.Stops.{led_ahead}
use Rattle.gfm_table.proofs.states.row_start.Goals as goal

-- the state where a divider leads, and where none does
started : (p : Point) (led seen : Bool) (b : ℕ) → seen ≡ not led → b ≡ bool_byte seen
    → ◌≡◌ {A = Scan} (record { at = p; from = p; name = None; count = 0; size = 0; size_b = b; seen = seen }) (record { at = p; from = p; name = None; count = 0; size = 0; size_b = cond led 0 1; seen = not led })
started p true seen b e f = rw (f, e)
started p false seen b e f = rw (f, e)

pub returns : goal.returns
returns c =
    let t = c.args.text.now in
    let ahead = rw c.space_end.ensures at c.ahead.ensures in
    let led = led_ahead t.passes.reads t.bytes.now c.args.p ∙ ap (λ (k : ℕ). eqb k 3) (sym ahead) ∙ sym (same-numbers c.ahead.result Pipe) in
    started c.args.p _ c.ne-seen.result c.from.result (c.ne-seen.ensures ∙ ap not (sym led)) c.from.ensures

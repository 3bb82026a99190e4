-- `values::value_end` meets its contract: whitespace, a colon, hyphens, a colon and whitespace, up to the end of the stretch.
-- Assumes nothing.
use mathlib.Core.Path.{◌∙◌}
use mathlib.Core.Logic.{⊎_elim}
use native.Mathlib.Omega.{arith}
use Rattle.tokenizer.specs.declared.kinds.Kind.TheVariants.{End, Pipe}
use Rattle.gfm_table.proofs.KindsAhead.{ahead_is, apart_kinds}
use Rattle.gfm_table.proofs.ValuePlaces.{no-hyphens, value_ends, value_goes_on, stretch_over, stretch-more}
use Rattle.gfm_table.proofs.values.value_end.Goals as goal
use Rattle.gfm_table.proofs.values.value_end.Goals.{in-End, in_default}

pub returns-then-a-b : goal.returns-then-a-b
returns-then-a-b g c =
    let t = c.args.text.now in
    no-hyphens t.passes.reads t.bytes.now c.args.at _ _ _ c.space_stop.ensures c.colon_end-a.ensures c.run_stop-b.ensures c.if-a-b.true

pub returns : goal.returns
returns g c =
    let t = c.args.text.now in
    let k = c.kind_at.result in
    let e = c.space_stop-e.result in
    c.then_some.ensures
    ∙ elim c.match-matches.branch [
      | in-End w ↦
          rw w.matches-is (value_ends t.passes.reads t.bytes.now c.args.at _ _ _ c.space_stop.ensures c.colon_end-a.ensures c.run_stop-b.ensures _ _ c.colon_end.ensures c.space_stop-e.ensures c.if-a-b.false
          (⊎_elim
          (λ z. stretch_over t.passes.reads t.bytes.now e 2 (ahead_is t.passes.reads t.bytes.now e k c.kind_at.ensures End z) (omega arith) (omega arith))
          (λ z. stretch_over t.passes.reads t.bytes.now e 3 (ahead_is t.passes.reads t.bytes.now e k c.kind_at.ensures Pipe z) (omega arith) (omega arith))
          w.in-End.is))
      | in_default w ↦
          rw w.matches-is (value_goes_on t.passes.reads t.bytes.now c.args.at _ _ _ c.space_stop.ensures c.colon_end-a.ensures c.run_stop-b.ensures _ _ c.colon_end.ensures c.space_stop-e.ensures c.if-a-b.false
          (stretch-more t.passes.reads t.bytes.now e _ c.kind_at.ensures (apart_kinds k End w.in_default.not-End) (apart_kinds k Pipe w.in_default.not-Pipe)))
    ]

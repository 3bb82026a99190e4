-- `align::scan_stretch` meets its contract: after each byte the ends of the rest, added, are those of the stretch.
-- Assumes nothing.
use Prim.Native.Nat.{◌+◌}
use mathlib.Core.Path.{◌≡◌, refl, sym, ◌∙◌}
use mathlib.Core.Logic.{⊎_elim}
use native.Mathlib.Omega.{arith}
use Rattle.tokenizer.specs.declared.kinds.Kind.TheVariants.{Space, End, Pipe}
use Rattle.gfm_table.proofs.KindsAhead.{ahead_is, front_at, front, apart_kinds}
use Rattle.tokenizer.specs.Bytes.{kind_in}
use Rattle.gfm_table.specs.Delimiters.{stretch}
use Rattle.sheet.specs.Aligning.{end_numbers, ends_past, line_from}
use Rattle.sheet.proofs.Aligning.{Over, space_over, solid_over, scan_end, scan_pipe, scan_on}
use Rattle.sheet.proofs.align.scan_stretch.Goals as goal
use Rattle.sheet.proofs.align.scan_stretch.Goals.{in-Space, in_default}

pub loop-e-init : goal.loop-e-init
loop-e-init c = (c.requires, refl, (λ z. cc))

pub returns-in-End : goal.returns-in-End
returns-in-End c =
    let l = c.loop-e in
    let t = c.args.text.now in (
      ⊎_elim
          (λ z. sym (scan_end t.passes.reads _ (end_numbers l.e) (sym (ahead_is t.passes.reads t.bytes.now l.e.end _ c.kind_at.ensures End z))) ∙ l.invariant.1)
          (λ z. sym (scan_pipe t.passes.reads _ (end_numbers l.e) (front_at t.passes.reads t.bytes.now l.e.end _ c.kind_at.ensures Pipe z (λ x. omega arith))) ∙ l.invariant.1)
          c.in-End.is,
      l.invariant.2,
    )

pub loop-e-preserved : goal.loop-e-preserved
loop-e-preserved c =
    let l = c.loop-e in
    let t = c.args.text.now in
    let k = c.kind_at.result in
    let d = c.match-kind_at.e in
    let m : (k ≡ End → ⊥) × (k ≡ Pipe → ⊥) × Over l.e (record { first = d.first; last = d.last; end = d.end + 1 }) k =
    elim c.match-kind_at.branch [
      | in-Space w ↦ rw w.e-is ((λ z. let y : Space ≡ End = sym w.in-Space.is ∙ z in cc), (λ z. let y : Space ≡ Pipe = sym w.in-Space.is ∙ z in cc), space_over l.e l.invariant.2 k w.in-Space.is)
      | in_default w ↦ rw (w.e-is, w.or-e.ensures) (w.in_default.not-End, w.in_default.not-Pipe, solid_over l.e l.invariant.2 k w.in_default.not-Space)
    ] in
    let f = front t.passes.reads t.bytes.now l.e.end _ c.kind_at.ensures m.0 in (
      omega (arith, m.2.end, f.below),
      (λ i. ends_past (kind_in t.kinds.now) (m.2.numbers i) (stretch (kind_in t.kinds.now) (line_from t.bytes.now (m.2.end i))))
          ∙ sym (scan_on t.passes.reads _ (end_numbers l.e) _ f (apart_kinds k Pipe m.1)) ∙ l.invariant.1,
      m.2.solid,
    )

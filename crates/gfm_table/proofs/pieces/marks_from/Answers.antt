-- `pieces::marks_from` meets its contract: what is counted and what is to come make the same sum. The measure is the bytes left.
-- Assumes nothing.
use Prim.Native.Nat.{ℕ, ◌+◌, ◌≤◌}
use mathlib.Core.Path.{◌≡◌, refl, ap, sym, ◌∙◌}
use mathlib.Core.Logic.{◌⊎◌, inl, inr}
use mathlib.Core.List.{List}
use native.Mathlib.Omega.{arith}
use lib.ListN.{length, drop}
use Rattle.tokenizer.specs.declared.kinds.Kind.{Kind}
use Rattle.tokenizer.specs.declared.kinds.Kind.TheVariants.{Space, End, Pipe, Colon}
use Rattle.tokenizer.specs.Bytes.{kind_number, Reads}
use Rattle.tokenizer.specs.Moves.{ahead_of}
use Rattle.gfm_table.proofs.KindsAhead.{front, front_at, apart_kinds}
use Rattle.gfm_table.proofs.Marks.{marks-few, no-marks, PastMark, passes_space, passes_divider, passes_marker, passes_filler}
use Rattle.gfm_table.specs.Delimiters.{filler_run}
use Rattle.gfm_table.proofs.Passing.{line_from}
use Rattle.gfm_table.proofs.pieces.marks_from.Goals as goal

pub overflow_add-n : goal.overflow_add-n
overflow_add-n c =
    let a = c.args in
    let t = a.text.now in
    let f = front_at t.passes.reads t.bytes.now c.loop-i.i c.kind_at.result c.kind_at.ensures Space c.in-Space.is (λ z. omega arith) in
    let m = passes_space t.passes.reads _ _ _ 1 f c.args.text.now.fits refl c.space_stop-i.ensures in
    record { fits = omega (arith, m.fewer, c.loop-i.invariant, marks-few t.passes.reads t.bytes.now a.at c.args.text.now.fits c.requires) }

pub loop-i-preserved-in-Space : goal.loop-i-preserved-in-Space
loop-i-preserved-in-Space c =
    let t = c.args.text.now in
    let f = front_at t.passes.reads t.bytes.now c.loop-i.i c.kind_at.result c.kind_at.ensures Space c.in-Space.is (λ z. omega arith) in
    let m = passes_space t.passes.reads _ _ _ 1 f c.args.text.now.fits refl c.space_stop-i.ensures in
    omega (arith, m.fewer, c.loop-i.invariant)

pub returns-in-End : goal.returns-in-End
returns-in-End c =
    let t = c.args.text.now in
    omega (arith, no-marks t.passes.reads t.bytes.now c.loop-i.i (sym c.kind_at.ensures ∙ ap kind_number c.in-End.is), c.loop-i.invariant)

alone : {kind : ℕ → ℕ} → Reads kind → (s : List ℕ) (i : ℕ) (k : Kind) → kind_number k ≡ ahead_of kind (drop i s) → (k ≡ Pipe) ⊎ (k ≡ Colon) → length s ≤ 65536 → PastMark kind s i (i + 1)
alone ok s i k e (inl h) short = passes_divider ok s i _ 3 (front_at ok s i k e Pipe h (λ z. omega arith)) short refl refl
alone ok s i k e (inr h) short = passes_marker ok s i _ 6 (front_at ok s i k e Colon h (λ z. omega arith)) short refl refl

pub overflow_add-n-in-Pipe : goal.overflow_add-n-in-Pipe
overflow_add-n-in-Pipe c =
    let a = c.args in
    let t = a.text.now in
    let m = alone t.passes.reads t.bytes.now c.loop-i.i c.kind_at.result c.kind_at.ensures c.in-Pipe.is c.args.text.now.fits in
    record { fits = omega (arith, m.fewer, c.loop-i.invariant, marks-few t.passes.reads t.bytes.now a.at c.args.text.now.fits c.requires) }

pub loop-i-preserved-in-Pipe : goal.loop-i-preserved-in-Pipe
loop-i-preserved-in-Pipe c =
    let t = c.args.text.now in
    let m = alone t.passes.reads t.bytes.now c.loop-i.i c.kind_at.result c.kind_at.ensures c.in-Pipe.is c.args.text.now.fits in
    omega (arith, m.fewer, c.loop-i.invariant)

-- a run of fillers
filled : {kind : ℕ → ℕ} → Reads kind → (s : List ℕ) (i j : ℕ) (k : Kind) → kind_number k ≡ ahead_of kind (drop i s) → (k ≡ Space → ⊥) → (k ≡ End → ⊥) → (k ≡ Pipe → ⊥) → (k ≡ Colon → ⊥)
    → length s ≤ 65536 → j ≡ i + length (filler_run kind (line_from s i)) → PastMark kind s i j
filled ok s i j k e a b d g short h =
    passes_filler ok s i j (kind_number k) (front ok s i k e b) short (apart_kinds k Space a) (apart_kinds k End b) (apart_kinds k Pipe d) (apart_kinds k Colon g) h

pub overflow_add-n-in_default : goal.overflow_add-n-in_default
overflow_add-n-in_default c =
    let a = c.args in
    let t = a.text.now in
    let o = c.in_default in
    let m = filled t.passes.reads t.bytes.now c.loop-i.i _ c.kind_at.result c.kind_at.ensures o.not-Space o.not-End o.not-Pipe o.not-Colon c.args.text.now.fits c.fillers_end-i.ensures in
    record { fits = omega (arith, m.fewer, c.loop-i.invariant, marks-few t.passes.reads t.bytes.now a.at c.args.text.now.fits c.requires) }

pub loop-i-smaller : goal.loop-i-smaller
loop-i-smaller c =
    let t = c.args.text.now in
    let o = c.in_default in
    let f = front t.passes.reads t.bytes.now c.loop-i.i c.kind_at.result c.kind_at.ensures o.not-End in
    let m = filled t.passes.reads t.bytes.now c.loop-i.i _ c.kind_at.result c.kind_at.ensures o.not-Space o.not-End o.not-Pipe o.not-Colon c.args.text.now.fits c.fillers_end-i.ensures in
    omega (arith, f.below, m.onward)

pub loop-i-preserved : goal.loop-i-preserved
loop-i-preserved c =
    let t = c.args.text.now in
    let o = c.in_default in
    let m = filled t.passes.reads t.bytes.now c.loop-i.i _ c.kind_at.result c.kind_at.ensures o.not-Space o.not-End o.not-Pipe o.not-Colon c.args.text.now.fits c.fillers_end-i.ensures in
    omega (arith, m.fewer, c.loop-i.invariant)

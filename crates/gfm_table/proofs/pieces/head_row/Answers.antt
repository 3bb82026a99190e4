-- `pieces::head_row` meets its contract: what is counted and what is to come make the same sums. The measure is the bytes left.
-- Assumes nothing.
use Prim.Native.Nat.{ℕ, ◌+◌}
use mathlib.Core.Bool.{Bool, false, not, cond}
use mathlib.Core.List.{List}
use mathlib.Core.Path.{◌≡◌, refl, ap, sym, ◌∙◌}
use native.Mathlib.Omega.{arith}
use lib.ListN.{length, drop}
use Rattle.tokenizer.specs.declared.kinds.Kind.{Kind}
use Rattle.tokenizer.specs.declared.kinds.Kind.TheVariants.{Space, End, Pipe}
use Rattle.tokenizer.specs.Bytes.{kind_number, kind_in, Reads}
use Rattle.tokenizer.specs.Moves.{ahead_of}
use Rattle.tokenizer.proofs.SameKinds.{same-numbers}
use Rattle.gfm_table.specs.Machine.{data_run}
use Rattle.gfm_table.proofs.Count.{begun}
use Rattle.gfm_table.proofs.KindsAhead.{front, front_at, apart_kinds}
use Rattle.gfm_table.proofs.Passing.{line_from, PastPiece, no_pieces, passes_space, passes_divider, passes_data}
use Rattle.gfm_table.proofs.HeadRows.{solid_from, solids-few, cells-few, bool-one, few-one, past_space, solid_fewer, cells_fewer, no-solids, head_read}
use Rattle.gfm_table.proofs.pieces.head_row.Goals as goal

pub loop-i-preserved-in-Space : goal.loop-i-preserved-in-Space
loop-i-preserved-in-Space c =
    let t = c.args.text.now in
    let l = c.loop-i in
    let f = front_at t.passes.reads t.bytes.now l.i c.kind_at-in-loop-i.result c.kind_at-in-loop-i.ensures Space c.in-Space.is (λ z. omega arith) in
    let e = past_space t.passes.reads _ _ _ (passes_space t.passes.reads _ _ _ f c.space_stop-i.ensures) in
    (omega (arith, ap (begun l.seen) e, l.invariant.0), omega (arith, ap length e, l.invariant.1))

pub returns-in-End : goal.returns-in-End
returns-in-End c =
    let t = c.args.text.now in
    let l = c.loop-i in
    let all = solid_from (kind_in t.kinds.now) t.bytes.now c.args.at in
    let seen = c.ne-seen.ensures ∙ ap not (same-numbers c.kind_at.result Pipe) in
    let z = no-solids t.passes.reads t.bytes.now l.i l.seen (no_pieces t.passes.reads t.bytes.now l.i (sym c.kind_at-in-loop-i.ensures ∙ ap kind_number c.in-End.is)) in
    let cells : l.size ≡ begun c.ne-seen.result all = omega (arith, z.0, l.invariant.0) in
    let solids : l.size_b ≡ cond c.ne-seen.result 1 0 + length all = omega (arith, z.1, l.invariant.1, c.from-size_b.ensures, bool-one c.ne-seen.result) in
    head_read t.passes.reads t.bytes.now _ _ _ _ _ c.space_stop.ensures c.kind_at.ensures (cells ∙ ap (λ (v : Bool). begun v all) seen) (solids ∙ ap (λ (v : Bool). cond v 1 0 + length all) seen)

pub overflow_add-size : goal.overflow_add-size
overflow_add-size c =
    let t = c.args.text.now in
    let l = c.loop-i in
    let f = front_at t.passes.reads t.bytes.now l.i c.kind_at-in-loop-i.result c.kind_at-in-loop-i.ensures Pipe c.in-Pipe.is (λ z. omega arith) in
    let m : PastPiece (kind_in t.kinds.now) t.bytes.now l.i (l.i + 1) 10 = passes_divider t.passes.reads _ _ _ f refl in
    record { fits = omega (arith, c.from-size.ensures, bool-one l.seen, cells_fewer t.passes.reads _ _ _ 10 refl m l.seen, l.invariant.0, cells-few t.passes.reads t.bytes.now c.args.at c.args.text.now.fits c.requires c.ne-seen.result) }

pub overflow_add-size_b : goal.overflow_add-size_b
overflow_add-size_b c =
    let t = c.args.text.now in
    let l = c.loop-i in
    let f = front_at t.passes.reads t.bytes.now l.i c.kind_at-in-loop-i.result c.kind_at-in-loop-i.ensures Pipe c.in-Pipe.is (λ z. omega arith) in
    let m : PastPiece (kind_in t.kinds.now) t.bytes.now l.i (l.i + 1) 10 = passes_divider t.passes.reads _ _ _ f refl in
    record { fits = omega (arith, few-one c.ne-seen.result _ (c.from-size_b.ensures ∙ bool-one c.ne-seen.result), solid_fewer t.passes.reads _ _ _ 10 refl m, l.invariant.1, solids-few t.passes.reads t.bytes.now c.args.at c.args.text.now.fits c.requires) }

pub loop-i-preserved-in-Pipe : goal.loop-i-preserved-in-Pipe
loop-i-preserved-in-Pipe c =
    let t = c.args.text.now in
    let l = c.loop-i in
    let f = front_at t.passes.reads t.bytes.now l.i c.kind_at-in-loop-i.result c.kind_at-in-loop-i.ensures Pipe c.in-Pipe.is (λ z. omega arith) in
    let m : PastPiece (kind_in t.kinds.now) t.bytes.now l.i (l.i + 1) 10 = passes_divider t.passes.reads _ _ _ f refl in
    (omega (arith, c.from-size.ensures, bool-one l.seen, cells_fewer t.passes.reads _ _ _ 10 refl m l.seen, l.invariant.0), omega (arith, solid_fewer t.passes.reads _ _ _ 10 refl m, l.invariant.1))

-- a piece of data
data_passed : {kind : ℕ → ℕ} → Reads kind → (s : List ℕ) (i j : ℕ) (k : Kind) → kind_number k ≡ ahead_of kind (drop i s) → (k ≡ Space → ⊥) → (k ≡ End → ⊥) → (k ≡ Pipe → ⊥)
    → j ≡ i + length (data_run kind false (line_from s i)) → PastPiece kind s i j 3
data_passed ok s i j k e a b d h = passes_data ok s i j (kind_number k) (front ok s i k e b) (apart_kinds k Space a) (apart_kinds k Pipe d) h

pub overflow_add-size-in_default : goal.overflow_add-size-in_default
overflow_add-size-in_default c =
    let t = c.args.text.now in
    let l = c.loop-i in
    let o = c.in_default in
    let m = data_passed t.passes.reads t.bytes.now l.i _ c.kind_at-in-loop-i.result c.kind_at-in-loop-i.ensures o.not-Space o.not-End o.not-Pipe c.text_end-i.ensures in
    record { fits = omega (arith, c.from-size-in_default.ensures, bool-one l.seen, cells_fewer t.passes.reads _ _ _ 3 refl m l.seen, l.invariant.0, cells-few t.passes.reads t.bytes.now c.args.at c.args.text.now.fits c.requires c.ne-seen.result) }

pub overflow_add-size_b-in_default : goal.overflow_add-size_b-in_default
overflow_add-size_b-in_default c =
    let t = c.args.text.now in
    let l = c.loop-i in
    let o = c.in_default in
    let m = data_passed t.passes.reads t.bytes.now l.i _ c.kind_at-in-loop-i.result c.kind_at-in-loop-i.ensures o.not-Space o.not-End o.not-Pipe c.text_end-i.ensures in
    record { fits = omega (arith, few-one c.ne-seen.result _ (c.from-size_b.ensures ∙ bool-one c.ne-seen.result), solid_fewer t.passes.reads _ _ _ 3 refl m, l.invariant.1, solids-few t.passes.reads t.bytes.now c.args.at c.args.text.now.fits c.requires) }

pub loop-i-smaller : goal.loop-i-smaller
loop-i-smaller c =
    let t = c.args.text.now in
    let l = c.loop-i in
    let o = c.in_default in
    let f = front t.passes.reads t.bytes.now l.i c.kind_at-in-loop-i.result c.kind_at-in-loop-i.ensures o.not-End in
    let m = data_passed t.passes.reads t.bytes.now l.i _ c.kind_at-in-loop-i.result c.kind_at-in-loop-i.ensures o.not-Space o.not-End o.not-Pipe c.text_end-i.ensures in
    omega (arith, f.below, m.onward)

pub loop-i-preserved : goal.loop-i-preserved
loop-i-preserved c =
    let t = c.args.text.now in
    let l = c.loop-i in
    let o = c.in_default in
    let m = data_passed t.passes.reads t.bytes.now l.i _ c.kind_at-in-loop-i.result c.kind_at-in-loop-i.ensures o.not-Space o.not-End o.not-Pipe c.text_end-i.ensures in
    (omega (arith, c.from-size-in_default.ensures, bool-one l.seen, cells_fewer t.passes.reads _ _ _ 3 refl m l.seen, l.invariant.0), omega (arith, solid_fewer t.passes.reads _ _ _ 3 refl m, l.invariant.1))

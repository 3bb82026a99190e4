-- `DelimiterRow::solid_piece` meets its contract: a colon is a marker, and what is no whitespace, line end, divider or colon is a filler.
-- Assumes nothing.
use Prim.Native.Nat.{ℕ, ◌≤◌}
use mathlib.Core.Path.{◌≡◌, refl, ap, sym, ◌∙◌}
use mathlib.Core.List.{List}
use native.Mathlib.Omega.{arith}
use lib.ListN.{drop, length}
use Rattle.std.specs.Prelude.{Some}
use Rattle.tokenizer.specs.declared.event.Name.TheVariants.{GfmTableDelimiterMarker, GfmTableDelimiterFiller}
use Rattle.tokenizer.specs.declared.kinds.Kind.TheVariants.{Colon}
use Rattle.tokenizer.specs.Bytes.{Reads}
use Rattle.tokenizer.specs.Lines.{line_body}
use Rattle.tokenizer.specs.Moves.{ahead_of, rest_of}
use Rattle.tokenizer.proofs.Ahead.{goes}
use Rattle.tokenizer.proofs.SameKinds.{same_number, other_number}
use Rattle.gfm_table.specs.declared.rows.Stop.{Stop}
use Rattle.gfm_table.specs.Delimiters.{filler_run}
use Rattle.gfm_table.specs.Places.{point_in, Near, Solid}
use Rattle.gfm_table.proofs.Fillers.{First, first_marker, first_filler}
use Rattle.gfm_table.proofs.Placing.{inside-at, solid-front, byte-column, filler_columns, flat-placed}
use Rattle.gfm_table.proofs.rows.DelimiterRowRowKind.solid_piece.Goals as goal

pub returns-then-eq : goal.returns-then-eq
returns-then-eq c =
    let a = c.args in
    let t = a.text.now in
    let h = c.requires in
    let i = inside-at t.bytes.now a.from.at a.from.column (t.fits, h.0.0, h.0.1) in
    let f = goes t.passes.reads t.bytes.now a.from.at 6 (sym (same_number _ Colon c.eq.ensures c.if-eq.true) ∙ c.kind_at.ensures) (λ z. omega arith) in
    rw (first_marker t.passes.reads t.bytes.now (point_in 0 a.from.at a.from.column) 6 f i refl).pieces
    (ap Some (flat-placed _ GfmTableDelimiterMarker a.from.at _ a.from.column _ c.flat.ensures refl (byte-column t.passes.reads _ a.from.column (λ z. omega (arith, f.is, z)))))

-- the filler that the line goes on with, where no colon stands
filler_here : {kind : ℕ → ℕ} → Reads kind → (s : List ℕ) (p : Stop) → length s ≤ 65536 → Near s p × Solid (ahead_of kind (drop p.at s)) → (ahead_of kind (drop p.at s) ≡ 6 → ⊥)
    → First kind s (point_in 0 p.at p.column) 15 (filler_run kind (rest_of s (point_in 0 p.at p.column)))
filler_here ok s p short h n6 =
    let x = solid-front ok s p short h.0.0 h.0.1 h.1 in
    first_filler ok s (point_in 0 p.at p.column) _ x.1 x.0 h.1.0 h.1.1 h.1.2 n6

pub flat-requires-2 : goal.flat-requires-2
flat-requires-2 c =
    let a = c.args in
    let t = a.text.now in
    let h = c.requires in
    let n = (filler_here t.passes.reads t.bytes.now a.from t.fits h (λ z. other_number _ Colon c.eq.ensures c.if-eq.false (c.kind_at.ensures ∙ z))).inside in
    let e = c.fillers_end.ensures in
    (omega (arith, e), omega (arith, e, n.within, n.short), omega (arith, t.fits, h.0.0, h.0.1))

pub returns : goal.returns
returns c =
    let a = c.args in
    let t = a.text.now in
    rw (filler_here t.passes.reads t.bytes.now a.from t.fits c.requires (λ z. other_number _ Colon c.eq.ensures c.if-eq.false (c.kind_at.ensures ∙ z))).pieces
    (ap Some (flat-placed _ GfmTableDelimiterFiller a.from.at _ a.from.column _ c.flat-2.ensures c.fillers_end.ensures (filler_columns t.passes.reads (line_body (drop a.from.at t.bytes.now)) a.from.column)))

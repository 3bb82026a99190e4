-- `TextRow::solid_piece` meets its contract: what is no whitespace, no line end and no divider is data.
-- Assumes nothing.
use Prim.Native.Nat.{ℕ, ◌≤◌}
use mathlib.Core.Path.{ap}
use mathlib.Core.Bool.{false}
use native.Mathlib.Omega.{arith}
use mathlib.Core.List.{List}
use lib.ListN.{drop, length}
use Rattle.std.specs.Prelude.{Some}
use Rattle.tokenizer.specs.declared.event.Name.TheVariants.{Data}
use Rattle.tokenizer.specs.Bytes.{Reads}
use Rattle.tokenizer.specs.Lines.{line_body}
use Rattle.tokenizer.specs.Moves.{ahead_of, rest_of}
use Rattle.gfm_table.specs.declared.rows.Stop.{Stop}
use Rattle.gfm_table.specs.Machine.{data_run}
use Rattle.gfm_table.specs.Places.{point_in, Near, Solid}
use Rattle.gfm_table.proofs.Runs.{data_columns}
use Rattle.gfm_table.proofs.Machine.{First, first_data, data_ahead}
use Rattle.gfm_table.proofs.Placing.{solid-front, flat-placed}
use Rattle.gfm_table.proofs.rows.TextRowRowKind.solid_piece.Goals as goal

-- the piece of data that the line goes on with
data_here : {kind : ℕ → ℕ} → Reads kind → (s : List ℕ) (p : Stop) → length s ≤ 65536 → Near s p × Solid (ahead_of kind (drop p.at s)) → First kind s (point_in 0 p.at p.column) 3 (data_run kind false (rest_of s (point_in 0 p.at p.column)))
data_here ok s p short h =
    let x = solid-front ok s p short h.0.0 h.0.1 h.1 in
    first_data ok s (point_in 0 p.at p.column) x.0 (data_ahead ok s (point_in 0 p.at p.column) _ x.1 x.0 h.1.0 h.1.2)

pub flat-requires : goal.flat-requires
flat-requires c =
    let a = c.args in
    let t = a.text.now in
    let h = c.requires in
    let n = (data_here t.passes.reads t.bytes.now a.from t.fits h).inside in
    let e = c.text_end.ensures in
    (omega (arith, e), omega (arith, e, n.within, n.short), omega (arith, t.fits, h.0.0, h.0.1))

pub returns : goal.returns
returns c =
    let a = c.args in
    let t = a.text.now in
    rw (data_here t.passes.reads t.bytes.now a.from t.fits c.requires).pieces
    (ap Some (flat-placed _ Data a.from.at _ a.from.column _ c.flat.ensures c.text_end.ensures (data_columns t.passes.reads false (line_body (drop a.from.at t.bytes.now)) a.from.column)))

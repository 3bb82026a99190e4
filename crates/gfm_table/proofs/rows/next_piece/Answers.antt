-- `rows::next_piece` meets its contract: the kind of the byte at the place says which piece is next.
-- Assumes nothing.
use mathlib.Core.Path.{refl, ap, sym, ◌∙◌}
use native.Mathlib.Omega.{arith}
use lib.ListN.{drop}
use Rattle.std.specs.Prelude.{Some}
use Rattle.tokenizer.specs.declared.event.Name.TheVariants.{SpaceOrTab, GfmTableCellDivider}
use Rattle.tokenizer.proofs.Ahead.{goes, ends}
use Rattle.gfm_table.specs.Places.{point_in}
use Rattle.gfm_table.specs.Stream.{pieces_of}
use Rattle.gfm_table.proofs.Coming.{no_pieces, first-space, first-divider}
use Rattle.gfm_table.proofs.Placing.{inside-at, byte-column, flat-placed}
use Rattle.gfm_table.proofs.rows.next_piece.Goals as goal

pub returns-in-Space : goal.returns-in-Space
returns-in-Space g c =
    let a = c.args in
    let t = a.text.now in
    let i = inside-at t.bytes.now a.from.at a.from.column (t.fits, c.requires.0, c.requires.1) in
    let e = first-space t.passes.reads t.bytes.now (point_in 0 a.from.at a.from.column) i g.R.RowKind.part (sym c.in-Space.ensures) in
    rw e (ap Some (λ k. record { name = SpaceOrTab; end = c.spaces_past-stop.ensures.0 k; column = c.spaces_past-stop.ensures.1 k }))

pub returns-in-End : goal.returns-in-End
returns-in-End g c =
    let t = c.args.text.now in
    rw (ap (pieces_of _ g.R.RowKind.part) (ends t.passes.reads (drop c.args.from.at t.bytes.now) (sym c.in-End.ensures)) ∙ no_pieces t.passes.reads g.R.RowKind.part)

pub returns-in-Pipe : goal.returns-in-Pipe
returns-in-Pipe g c =
    let a = c.args in
    let t = a.text.now in
    let i = inside-at t.bytes.now a.from.at a.from.column (t.fits, c.requires.0, c.requires.1) in
    let f = goes t.passes.reads t.bytes.now a.from.at 3 c.in-Pipe.ensures (λ z. omega arith) in
    rw (first-divider t.passes.reads t.bytes.now (point_in 0 a.from.at a.from.column) i g.R.RowKind.part (sym c.in-Pipe.ensures))
    (ap Some (flat-placed _ GfmTableCellDivider a.from.at _ a.from.column _ c.flat.ensures refl (byte-column t.passes.reads _ a.from.column (λ z. omega (arith, f.is, z)))))

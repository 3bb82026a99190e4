-- `tables::write_break` meets its contract.
-- Assumes nothing.
use Rattle.sheet.proofs.Placing.{break-made}
use Rattle.sheet.proofs.tables.write_break.Goals as goal

pub returns : goal.returns
returns c =
    let a = c.args in (
      c.below-b.ensures,
      rw (c.put-2.ensures, c.exit.ensures, c.point-2.ensures, c.put.ensures, c.enter.ensures, c.point.ensures, c.below-b.ensures) (break-made a.s.now a.w c.requires.0 a.slots.now),
    )

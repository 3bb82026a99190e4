-- `infer::scan` meets its contract.
-- Assumes nothing.
use mathlib.Core.Path.{ap, sym, ◌∙◌}
use Prim.Native.Nat.{◌+◌}
use lib.ListN.{drop, drop_of_length-le}
use Rattle.tokenizer.specs.Events.{blank_event}
use Rattle.tokenizer.proofs.Reading.{left-from}
use Rattle.edit_map.specs.AlignSteps.{scan_all}
use Rattle.edit_map.proofs.Passes.{scan_more, scan_stays, scan_none}
use Rattle.edit_map.proofs.infer.scan.Goals as goal

pub returns-then-stops : goal.returns-then-stops
returns-then-stops g c =
    let l = c.loop-e in
    sym (scan_stays g.off l.cur (drop l.e-index c.rest_from-e-items.result.now) (sym (c.requires.1.1 _ _ c.stops.ensures) ∙ c.if-stops.true)) ∙ l.invariant

pub loop-e-preserved : goal.loop-e-preserved
loop-e-preserved g c =
    let l = c.loop-e in
    let es = c.rest_from-e-items.result.now in
    let on = sym (c.requires.1.1 _ _ c.stops.ensures) ∙ c.if-stops.false in
    rw c.step-cur.ensures (sym (scan_more g.off l.cur _ (drop (l.e-index + 1) es) on) ∙ ap (scan_all g.off l.cur) (sym (left-from es l.e-index blank_event c.loop-e-test.true)) ∙ l.invariant)

pub returns : goal.returns
returns g c =
    let l = c.loop-e in
    sym (scan_none g.off l.cur) ∙ ap (scan_all g.off l.cur) (sym (drop_of_length-le c.rest_from-e-items.result.now c.loop-e-test.false)) ∙ l.invariant

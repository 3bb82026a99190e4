-- `resolve::resolve` meets its contract.
-- Assumes nothing.
use Prim.Native.Nat.{◌<◌, ◌^◌}
use mathlib.Core.Path.{◌∙◌}
use native.Mathlib.Omega.{arith}
use lib.ListN.{length}
use Rattle.edit_map.proofs.Passes.{in_most}
use Rattle.edit_map.proofs.Calls.{streamed-answer, streamed_slots_lem}
use Rattle.edit_map.proofs.resolve.resolve.Goals as goal

pub returns : goal.returns
returns c =
    let es = c.args.list.now in
    let ys = c.args.results.now in
    let f : length es < 2 ^ 64 = omega arith in
    let e = c.resolve_into-answer.ensures in
    (e.0 ∙ streamed-answer es ys (in_most f), rw (c.clear_from.ensures, c.unwrap_or-keep.ensures, e.0, e.1) (streamed_slots_lem es ys (in_most f)))

-- `Point::onward` meets its contract: a case for each kind of unit.
-- Assumes nothing.
use mathlib.Core.Path.{ap, ◌∙◌}
use mathlib.Core.Logic.{⊎_elim}
use Rattle.std.proofs.Common.{rules}
use native.Mathlib.Omega.{arith}
use lib.ListN.{drop}
use Rattle.tokenizer.specs.Points.{next_line}
use Rattle.tokenizer.proofs.Ends.{end_fits}
use Rattle.tokenizer.proofs.Units.{onward_over, onward_tab, onward-end, onward-byte}
use Rattle.tokenizer.proofs.event.Point.onward.Goals as goal

pub returns-then-s-i : goal.returns-then-s-i
returns-then-s-i c = onward_over c.args.s.now c.args.self c.if-s-i.true

pub next_line-requires : goal.next_line-requires
next_line-requires c =
    let a = c.args in
    let h = c.requires in
    let e = (end_fits (drop a.self.index a.s.now)).1 in
    let f = c.end_length.ensures in
    (omega (arith, h.lined), omega (arith, h.within), omega arith)

pub returns-in-9 : goal.returns-in-9
returns-in-9 c = c.tab_unit.ensures ∙ onward_tab c.args.s.now c.args.self c.if-s-i.false c.in-9.is

pub returns-in-10 : goal.returns-in-10
returns-in-10 c =
    c.next_line.ensures
    ∙ ap (next_line c.args.self) c.end_length.ensures
    ∙ onward-end c.args.s.now c.args.self c.if-s-i.false (⊎_elim (λ e. rw e) (λ e. rw e) c.in-10.is)

pub returns-in_default : goal.returns-in_default
returns-in_default c =
    c.over.ensures ∙ onward-byte c.args.s.now c.args.self c.if-s-i.false (search rules) (search rules) (search rules)

-- `lines::starts_line` meets its contract: where the first line starts, or behind a byte that ends a line.
-- Assumes nothing.
use mathlib.Core.Path.{sym, ◌∙◌}
use Rattle.tokenizer.proofs.Starts.{starts_far, starts_none, starts-at}
use Rattle.tokenizer.proofs.lines.starts_line.Goals as goal

pub returns-then-at-eq0 : goal.returns-then-at-eq0
returns-then-at-eq0 c =
    sym (starts_none c.args.s.now c.args.at (λ e. c.if-at-first_start.false (e ∙ sym c.first_start.ensures)) c.if-at-eq0.true)

pub returns-then-s-at : goal.returns-then-s-at
returns-then-s-at c = sym (starts_far c.args.s.now c.args.at c.if-s-at.true)

pub returns : goal.returns
returns c =
    c.ends_line.ensures
    ∙ sym (starts-at c.args.s.now c.args.at (λ z. c.if-at-first_start.false (z ∙ sym c.first_start.ensures)) c.if-at-eq0.false c.if-s-at.false)

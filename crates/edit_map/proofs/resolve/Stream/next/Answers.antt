-- The next event of the stream meets its contract.
-- Assumes nothing.
use mathlib.Core.Path.{refl, sym, ap, ◌∙◌}
use Rattle.edit_map.specs.Cursors.{is_over}
use Rattle.edit_map.proofs.Passes.{turned}
use Rattle.edit_map.proofs.resolve.Stream.next.Goals as goal

pub returns : goal.returns
returns c =
    let s = c.args.self.now in
    rw (c.after-self.ensures, c.turn-t.ensures, c.look_ahead-look.ensures, c.next_at.ensures, c.at_or_blank-this.ensures, turned s.list.now s.cursor) (
      refl,
      (sym (c.is_over.ensures ∙ ap (is_over s.cursor) c.at_or_blank-this.ensures) ∙ c.if-is_over.false, refl, refl),
    )

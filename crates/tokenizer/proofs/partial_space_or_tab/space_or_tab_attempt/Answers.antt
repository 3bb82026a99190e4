-- `space_or_tab_attempt` meets its contract: what is left of the run ends where the whole run ends. The measure is the units left.
-- Assumes nothing.
use mathlib.Core.Path.{◌≡◌, refl, ap, sym, ◌∙◌}
use mathlib.Core.Bool.{Bool, true, false}
use Prim.Native.Nat.{ℕ, ◌+◌, ◌-◌}
use mathlib.Core.List.{List}
use native.Mathlib.Omega.{arith}
use lib.Dec.{leb}
use Rattle.tokenizer.specs.declared.event.Point.{Point}
use Rattle.std.specs.Prelude.{Some, None, cond}
use Rattle.tokenizer.specs.declared.feed.Feed.{Feed}
use Rattle.tokenizer.specs.Feed.{feed_at}
use Rattle.tokenizer.specs.Spaces.{space_units, space_ahead}
use Rattle.tokenizer.proofs.Chosen.{chosen}
use Rattle.tokenizer.proofs.Spaces.{fed-next, ahead_some, past_more, units_more, past_done, units_done}
use Rattle.tokenizer.proofs.partial_space_or_tab.space_or_tab_attempt.Goals as goal
use Rattle.tokenizer.proofs.partial_space_or_tab.space_or_tab_attempt.Goals.{After-consume-q}

-- whether whitespace is ahead is told at the feed's point
ahead : (s : List ℕ) (f : Feed) (n : ℕ) (b t : Bool) → f ≡ feed_at s f.point → b ≡ space_ahead f n → b ≡ t → space_ahead (feed_at s f.point) n ≡ t
ahead s f n b t r e h = sym (e ∙ ap (λ (g : Feed). space_ahead g n) r) ∙ h

more : (c : After-consume-q) → space_ahead (feed_at c.args.s.now c.loop-q.q.point) c.loop-q.left ≡ true
more c = ahead _ _ _ _ _ c.loop-q.invariant.0.read c.space_ahead.ensures c.loop-q-test.true

-- after the loop: as many units as the whole run has
counted : (s : List ℕ) (p : Point) (max n u : ℕ) → space_ahead (feed_at s p) n ≡ false → max - n + space_units s n p ≡ u → max - n ≡ u
counted s p max n u h e = omega (arith, e, units_done s p n h)

pub overflow_sub-left : goal.overflow_sub-left
overflow_sub-left c = ahead_some _ c.loop-q.q.point c.loop-q.left (more c)

pub loop-q-smaller : goal.loop-q-smaller
loop-q-smaller c = let n = overflow_sub-left c in omega arith

pub loop-q-preserved : goal.loop-q-preserved
loop-q-preserved c =
    let l = c.loop-q in
    let s = c.args.s.now in
    let e = more c in
    let n = overflow_sub-left c in
    rw c.consume-q.ensures (
      record { fed = fed-next s l.q.point l.invariant.0.fed; read = refl },
      omega arith,
      past_more s l.q.point l.left e ∙ l.invariant.2,
      omega (arith, units_more s l.q.point l.left e),
    )

pub returns : goal.returns
returns c =
    let l = c.loop-q in
    let a = c.args in
    let s = a.s.now in
    let h = ahead _ _ _ _ _ l.invariant.0.read c.space_ahead.ensures c.loop-q-test.false in
    c.then_some.ensures
    ∙ chosen (leb a.min (a.max - l.left)) l.q
    ∙ ap (λ (n : ℕ). cond (leb a.min n) (Some l.q) None) (counted s l.q.point a.max l.left _ h l.invariant.3)
    ∙ ap (λ (f : Feed). cond (leb a.min (space_units s a.max a.f.point)) (Some f) None) (l.invariant.0.read ∙ ap (feed_at s) (sym (past_done s l.q.point l.left h) ∙ l.invariant.2))

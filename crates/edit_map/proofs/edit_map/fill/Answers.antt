-- `edit_map::fill` meets its contract.
-- Assumes nothing.
use Prim.Native.Nat.{ℕ, zero, suc, ◌+◌, ◌-◌, ◌<◌, ◌≤◌}
use mathlib.Core.Path.{◌≡◌, sym, ap, ◌∙◌}
use mathlib.Core.List.{List, [], ◌∷◌, ◌++◌, append-nil}
use Rattle.tokenizer.specs.Events.{blank_event}
use native.Mathlib.Omega.{arith}
use lib.ListN.{length, take, set}
use lib.Seq.{take_all}
use Rattle.std.proofs.lemmas.List.{set-get_or}
use Rattle.tokenizer.specs.declared.event.Event.{Event}
use Rattle.tokenizer.specs.Slots.{slots_of, cleared}
use Rattle.tokenizer.proofs.Blanks.{slots_none, cleared_all, cleared_none}
use Rattle.tokenizer.proofs.Filling.{take-set}
use Rattle.edit_map.proofs.edit_map.fill.Goals as goal

-- one slot more is written, with the first of what is still to come
one_more : (n i : ℕ) (zs xs : List Event) (x : Event) (ys all : List Event) → xs ≡ x ∷ ys → i < length zs → i < n → take i zs ++ slots_of (n - i) xs ≡ all → take (i + 1) (set zs i x) ++ slots_of (n - (i + 1)) ys ≡ all
unfolding slots_of
one_more n i zs xs x ys all f h l e =
    let less : n - i ≡ suc (n - (i + 1)) = omega arith in
    sym (take-set zs i x (slots_of (n - (i + 1)) ys) h) ∙ ap (λ (k : ℕ). take i zs ++ slots_of k (x ∷ ys)) (sym less) ∙ rw f at e

-- past the last slot: n slots are written
all_done : (n i : ℕ) (zs xs all : List Event) → length zs ≡ n → length zs ≤ i → take i zs ++ slots_of (n - i) xs ≡ all → zs ≡ all
unfolding slots_of
all_done n i zs xs all e h w =
    let none : n - i ≡ 0 = omega arith in
    rw (none, append-nil, take_all i zs h) at w

-- slots cleared from i on are the first i and k blank ones
cleared_rest : (i k : ℕ) (zs : List Event) → i + k ≡ length zs → cleared blank_event i zs ≡ take i zs ++ slots_of k []
unfolding cleared
cleared_rest zero k zs e = cleared_all zs ∙ sym (slots_none (length zs)) ∙ ap (λ (j : ℕ). slots_of j []) (omega (arith, e))
cleared_rest (suc i) k [] e = absurd (omega (arith, e))
cleared_rest (suc i) k (z ∷ zs) e = ap {B = List Event} (λ r. z ∷ r) (cleared_rest i k zs (omega (arith, e)))

pub returns-in-None : goal.returns-in-None
returns-in-None c =
    let l = c.loop-i in
    ap (cleared blank_event l.i) (set-get_or l.results l.i _)
    ∙ cleared_rest l.i (length c.args.results.now - l.i) l.results (omega arith)
    ∙ rw c.in-None.ensures.steps.1.0 at l.invariant

pub loop-i-preserved : goal.loop-i-preserved
loop-i-preserved c =
    let l = c.loop-i in
    one_more _ l.i l.results _ _ _ _ c.in-Some.ensures.steps.1 (omega arith) (omega arith) l.invariant

pub loop-i-preserved-derived : goal.loop-i-preserved-derived
loop-i-preserved-derived c = (c.in-Some.ensures.steps.0, tt)

pub returns : goal.returns
returns c = let l = c.loop-i in cleared_none _ _ _ (omega arith) ∙ all_done _ l.i _ _ _ l.auto.results (omega arith) l.invariant

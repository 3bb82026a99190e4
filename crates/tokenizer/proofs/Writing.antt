-- Events that are written to slots, one after the other.
-- Assumes nothing.
use Prim.Native.Nat.{ℕ, suc, ◌+◌, ◌≤◌}
use mathlib.Core.Path.{◌≡◌, refl, sym, ap, ◌∙◌}
use mathlib.Core.List.{List, [], ◌∷◌, ◌++◌}
use mathlib.Core.Bool.{Bool, true, false}
use lib.ListN.{length, set, length-set}
use native.Mathlib.Omega.{arith}
use Rattle.tokenizer.specs.declared.event.Event.{Event}
use Rattle.tokenizer.specs.Events.{blank_event}
use Rattle.tokenizer.specs.Slots.{slots_of, cleared, wrote, past_if, event_if}
use Rattle.tokenizer.proofs.Blanks.{slots_none, cleared_all}

-- nothing, and one event
pub wrote_none : (i : ℕ) (zs : List Event) → wrote i [] zs ≡ zs
unfolding wrote
wrote_none i zs = refl

pub wrote_one : (i : ℕ) (e : Event) (zs : List Event) → wrote i (e ∷ []) zs ≡ set zs i e
unfolding wrote
wrote_one i e zs = refl

-- one event, and then others
pub wrote-more : (i : ℕ) (e : Event) (es zs : List Event) → wrote i (e ∷ es) zs ≡ wrote (i + 1) es (set zs i e)
unfolding wrote
wrote-more i e es zs = ap (λ (k : ℕ). wrote k es (set zs i e)) (omega arith)

-- some events, and then others
pub wrote-append : (i : ℕ) (a b zs : List Event) → wrote i (a ++ b) zs ≡ wrote (i + length a) b (wrote i a zs)
unfolding wrote
wrote-append i [] b zs = ap (λ (k : ℕ). wrote k b zs) (omega arith)
wrote-append i (e ∷ a) b zs = wrote-append (suc i) a b (set zs i e) ∙ ap (λ (k : ℕ). wrote k b (wrote (suc i) a (set zs i e))) (omega arith)

-- as many slots as there were
pub wrote-length : (i : ℕ) (es zs : List Event) → length (wrote i es zs) ≡ length zs
unfolding wrote
wrote-length i [] zs = refl
wrote-length i (e ∷ es) zs = wrote-length (suc i) es (set zs i e) ∙ length-set zs i e

-- the first slot stays where the others are written
behind-first : (i : ℕ) (es : List Event) (z : Event) (zs : List Event) → wrote (suc i) es (z ∷ zs) ≡ z ∷ wrote i es zs
unfolding wrote
behind-first i [] z zs = refl
behind-first i (e ∷ es) z zs = behind-first (suc i) es z (set zs i e)

-- events that fit, and blank ones behind them
pub wrote_cleared : (es zs : List Event) → length es ≤ length zs → cleared blank_event (length es) (wrote 0 es zs) ≡ slots_of (length zs) es
unfolding wrote cleared slots_of
wrote_cleared [] zs h = cleared_all zs ∙ sym (slots_none (length zs))
wrote_cleared (e ∷ es) [] h = absurd (omega arith)
wrote_cleared (e ∷ es) (z ∷ zs) h = ap (cleared blank_event (suc (length es))) (behind-first 0 es e zs) ∙ ap (λ (l : List Event). e ∷ l) (wrote_cleared es zs (omega arith))

-- the place behind one event, or none
pub past-if : (b : Bool) (i : ℕ) (e : Event) → past_if b i ≡ i + length (event_if b e)
past-if true i e = refl
past-if false i e = omega arith

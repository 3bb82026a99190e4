-- Slots for events that are lent: what stands in one, and what is in all of them once a stream is written, or once they are cleared.
use Rattle.std.specs.Prelude.{ℕ, zero, suc, ◌+◌, List, [], ◌∷◌, Bool, cond, get_or, set, drop}
use Rattle.tokenizer.specs.declared.event.Event.{Event}
use Rattle.tokenizer.specs.Events.{blank_event}

-- the event at i, or a blank one past the end
abbrev pub event_at : List Event → ℕ → Event
event_at xs i = get_or xs i blank_event

-- n slots that the events xs are written to from the left: the first n of xs followed by blank events for ever
unfoldable pub slots_of : ℕ → List Event → List Event
slots_of zero xs = []
slots_of (suc n) xs = event_at xs 0 ∷ slots_of n (drop 1 xs)

-- slots of which each from the n-th on is blank
unfoldable pub cleared : {A : Type 0} → A → ℕ → List A → List A
cleared blank n [] = []
cleared blank zero (x ∷ xs) = blank ∷ cleared blank zero xs
cleared blank (suc n) (x ∷ xs) = x ∷ cleared blank n xs

-- slots of which those from the i-th on are written with some events, as far as there are slots; the others stay
unfoldable pub wrote : ℕ → List Event → List Event → List Event
wrote i [] zs = zs
wrote i (e ∷ es) zs = wrote (suc i) es (set zs i e)

-- a place past every slot
abbrev pub nowhere : ℕ
nowhere = 18446744073709551615

-- the place of a slot that is written, or one past all slots
abbrev pub slot_if : Bool → ℕ → ℕ
slot_if b i = cond b i nowhere

-- the place behind a slot that is written, or the same place
abbrev pub past_if : Bool → ℕ → ℕ
past_if b i = cond b (i + 1) i

-- one event, or none
abbrev pub event_if : Bool → Event → List Event
event_if b e = cond b (e ∷ []) []

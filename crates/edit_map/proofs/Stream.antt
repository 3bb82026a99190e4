-- The resolver as a stream: what one turn gives, by the mode and the records at hand.
-- Assumes nothing.
use Prim.Native.Nat.{ℕ, zero, suc}
use mathlib.Core.List.{List, [], ◌∷◌}
use mathlib.Core.Bool.{Bool, false, cond, ◌||◌}
use lib.Dec.{eqb}
use Rattle.tokenizer.specs.declared.event.Event.{Event}
use Rattle.tokenizer.specs.Events.{GfmTableCellDivider, SpaceOrTab, blank_event}
use Rattle.edit_map.specs.declared.resolve_turn.Mode.{Mode}
use Rattle.edit_map.specs.declared.resolve_turn.Turn.{Turn}
use Rattle.edit_map.specs.Turns.{turn_of}
use Rattle.edit_map.specs.Base.{is_text_name}

-- ## The stream over what is left of the list

abbrev pub first : List Event → Event
first [] = blank_event
first (e ∷ es) = e

abbrev pub rest : List Event → List Event
rest [] = []
rest (e ∷ es) = es

-- one more record, where something stands ahead
abbrev pub onward : ℕ → ℕ
onward zero = zero
onward (suc n) = suc (suc n)

-- how many records lead to past the last text before a divider or the row's end; 0 where there is none
unfoldable pub ahead_of : List Event → ℕ
ahead_of [] = 0
ahead_of (e ∷ es) = cond (eqb e.name SpaceOrTab) (onward (ahead_of es)) (cond (is_text_name e.name) (suc (ahead_of es)) 0)

-- whether something other than whitespace comes before the row's end
unfoldable pub solid_of : List Event → Bool
solid_of [] = false
solid_of (e ∷ es) = cond (eqb e.name SpaceOrTab) (solid_of es) (is_text_name e.name || eqb e.name GfmTableCellDivider)

abbrev pub turn_at : Mode → List Event → Turn
turn_at m es = turn_of m (first es) (first (rest es)) (suc (ahead_of (rest (rest es)))) (solid_of (rest (rest es)))

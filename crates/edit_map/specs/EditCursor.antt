-- The cursor over the result of edits that rise: the records that it has yet to give.
use Rattle.std.specs.Prelude.{ℕ, zero, suc, ◌+◌, ◌-◌, ◌*◌, ◌≤◌, ◌<◌, ◌≡◌, List, [], ◌∷◌, ◌++◌, true, cond, eqb, length, get_or, take, drop}
use Rattle.tokenizer.specs.declared.event.Event.{Event}
use Rattle.edit_order.specs.declared.edit_slots.Edit.{Edit}
use Rattle.edit_map.specs.declared.edit_walk.Cursor.{Cursor}
use Rattle.edit_map.specs.declared.edit_walk.Cursor.TheVariants.{Between, Back, Forth}
use Rattle.edit_map.specs.declared.edit_walk.Stepped.{Stepped}
use Rattle.edit_map.specs.declared.edit_walk.Stepped.TheVariants as step
use Rattle.edit_order.specs.EditFives.{no_edit}
use Rattle.edit_order.specs.Edits.{addition, edited, edits_fit}
use Rattle.edit_order.specs.EditOrder.{Rises}

-- the edits at position p that a list begins with
unfoldable pub leading : ℕ → List Edit → List Edit
leading p [] = []
leading p (e ∷ es) = cond (eqb e.at p) (e ∷ leading p es) []

-- what an edit adds before the earlier additions
abbrev pub front : List Event → Edit → List Event
front pool e = cond (eqb e.before 0) [] (addition pool e)

-- what an edit adds behind the earlier additions
abbrev pub back : List Event → Edit → List Event
back pool e = cond (eqb e.before 0) (addition pool e) []

-- the additions that go before, the last first
unfoldable pub fronts : List Event → List Edit → List Event
fronts pool [] = []
fronts pool (e ∷ es) = fronts pool es ++ front pool e

-- the other additions, the first first
unfoldable pub backs : List Event → List Edit → List Event
backs pool [] = []
backs pool (e ∷ es) = back pool e ++ backs pool es

-- the fronts of the first k edits, where `off` records of the k-th have come
unfoldable pub backward : List Event → List Edit → ℕ → ℕ → List Event
backward pool es off zero = []
backward pool es off (suc k) = drop off (front pool (get_or es k no_edit)) ++ fronts pool (take k es)

-- the backs of the first k edits, where `off` records of the first have come
unfoldable pub forward : List Event → List Edit → ℕ → ℕ → List Event
forward pool es off zero = []
forward pool es off (suc k) = drop off (back pool (get_or es 0 no_edit)) ++ backs pool (take k (drop 1 es))

-- the records still to come
abbrev pub to_come : List Event → List Event → List Edit → Cursor → List Event
to_come list pool es (Between at i) = edited pool (drop i es) at 0 (drop at list)
to_come list pool es (Back b) =
    backward pool (drop b.edit es) b.off b.left ++ (backs pool (take b.size (drop b.edit es)) ++ edited pool (drop b.size (drop b.edit es)) b.next 0 (drop b.next list))
to_come list pool es (Forth f) = forward pool (drop f.edit es) f.off f.left ++ edited pool (drop f.left (drop f.edit es)) f.next 0 (drop f.next list)

-- a cursor stays within the edits and the list
abbrev pub Stands : ℕ → List Edit → Cursor → Type 0
Stands len es (Between at i) = (at ≤ len) × (i ≤ length es)
Stands len es (Back b) = (b.next ≤ len) × (b.edit + b.size ≤ length es) × (b.left ≤ b.size)
Stands len es (Forth f) = (f.next ≤ len) × (f.edit + f.left ≤ length es)

-- steps that give no record are at most this many
abbrev pub steps : List Edit → Cursor → ℕ
steps es (Between at i) = 5 * (length es - i)
steps es (Back b) = 5 * (length es - (b.edit + b.size)) + (b.left + b.size + 2)
steps es (Forth f) = 5 * (length es - (f.edit + f.left)) + (f.left + 1)

-- edits that rise and fit, and a cursor within them
pub record Ordered (len pool : ℕ) (es : List Edit) (c : Cursor) : Type 0 where
  pub rise : Rises 0 es
  pub fit : edits_fit len pool es ≡ true
  pub stand : Stands len es c

-- what a step tells of what is still to come
abbrev pub Steps : List Event → List Event → List Edit → Cursor → Stepped → Type 0
Steps list pool es c (step.Gives e d) = Ordered (length list) (length pool) es d × (to_come list pool es c ≡ e ∷ to_come list pool es d)
Steps list pool es c (step.On d) = (steps es d < steps es c) × Ordered (length list) (length pool) es d × (to_come list pool es c ≡ to_come list pool es d)
Steps list pool es c step.End = to_come list pool es c ≡ []

-- Question 12 by numbers: how many records the result has.
use Rattle.std.specs.Prelude.{ℕ, ◌+◌, ◌-◌, List, [], ◌∷◌, cond, leb, Option, Some, None}
use Rattle.edit_order.specs.declared.edit_slots.Edit.{Edit}
use Rattle.edit_order.specs.Edits.{removed}

-- additions add up
unfoldable pub adding : List Edit → ℕ
adding [] = 0
adding (e ∷ es) = e.adds + adding es

-- how many records the result has
abbrev pub result_count : ℕ → List Edit → ℕ
result_count len es = (len - removed es) + adding es

-- a number, or none where it is over the limit
abbrev pub capped : ℕ → ℕ → Option ℕ
capped limit n = cond (leb n limit) (Some n) None

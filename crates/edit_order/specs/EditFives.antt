-- One edit and its five numbers.
use Rattle.std.specs.Prelude.{ℕ, ◌+◌, List, [], ◌∷◌, get_or, set}
use Rattle.edit_order.specs.declared.edit_slots.Edit.{Edit}

-- an edit of zeros
abbrev pub no_edit : Edit
no_edit = record { at = 0; removes = 0; from = 0; adds = 0; before = 0 }

-- the edit that five numbers are
abbrev pub edit_of : List ℕ → Edit
edit_of g = record { at = get_or g 0 0; removes = get_or g 1 0; from = get_or g 2 0; adds = get_or g 3 0; before = get_or g 4 0 }

-- an edit's five numbers
abbrev pub numbers : Edit → List ℕ
numbers e = e.at ∷ e.removes ∷ e.from ∷ e.adds ∷ e.before ∷ []

-- an edit's five numbers, stored from k on
abbrev pub store : List ℕ → ℕ → Edit → List ℕ
store l k e = set (set (set (set (set l k e.at) (k + 1) e.removes) (k + 2) e.from) (k + 3) e.adds) (k + 4) e.before

-- The edit slots: five numbers an edit. What stands behind the last whole group of five is no edit.
use Rattle.std.specs.Prelude.{ℕ, List, [], ◌∷◌, ◌++◌}
use Rattle.edit_order.specs.declared.edit_slots.Edit.{Edit}

-- the edits that the slots hold
unfoldable pub edits_of : List ℕ → List Edit
edits_of [] = []
edits_of (a ∷ []) = []
edits_of (a ∷ r ∷ []) = []
edits_of (a ∷ r ∷ f ∷ []) = []
edits_of (a ∷ r ∷ f ∷ n ∷ []) = []
edits_of (a ∷ r ∷ f ∷ n ∷ b ∷ l) = record { at = a; removes = r; from = f; adds = n; before = b } ∷ edits_of l

-- the numbers behind the last edit
unfoldable pub extra : List ℕ → List ℕ
extra [] = []
extra (a ∷ []) = a ∷ []
extra (a ∷ r ∷ []) = a ∷ r ∷ []
extra (a ∷ r ∷ f ∷ []) = a ∷ r ∷ f ∷ []
extra (a ∷ r ∷ f ∷ n ∷ []) = a ∷ r ∷ f ∷ n ∷ []
extra (a ∷ r ∷ f ∷ n ∷ b ∷ l) = extra l

-- the numbers of edits, one edit behind the other
unfoldable pub flat : List Edit → List ℕ
flat [] = []
flat (e ∷ es) = e.at ∷ e.removes ∷ e.from ∷ e.adds ∷ e.before ∷ flat es

-- the slots with these edits in them, and what stands behind as it was
unfoldable pub holding : List Edit → List ℕ → List ℕ
holding es l = flat es ++ extra l

-- Questions 11 and 12.
use Rattle.std.specs.Prelude.{ℕ, List, Result}
use Rattle.tokenizer.specs.declared.refusal.Refusal.{Refusal}
use Rattle.edit_order.specs.declared.edit_slots.Edit.{Edit}
use Rattle.edit_order.specs.Edits.{edits_fit}
use Rattle.edit_order.specs.EditCount.{result_count}
use Rattle.edit_map.specs.EditAnswer.{answered}

-- the answer, of edits over a list, a pool and result slots of these numbers
unfoldable pub settled : ℕ → ℕ → ℕ → List Edit → Result ℕ Refusal
settled len pool slots es = answered (edits_fit len pool es) (result_count len es) slots

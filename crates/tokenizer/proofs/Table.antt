-- A table that lists the values of a rule in order: each lookup gives the rule's value.
-- Assumes nothing.
use Prim.Native.Nat.{ℕ, zero, suc, ◌+◌, ◌<◌}
use mathlib.Core.Path.{◌≡◌, ap, sym, ◌∙◌}
use native.Mathlib.Nat.{add-zero, zero-add, add-suc, suc-add, le_of_suc-le-suc, not-suc-le-zero}
use lib.ListN.{get_or}
use Rattle.tokenizer.specs.Bytes.{tabulated}

from : (rule : ℕ → ℕ) (i n k : ℕ) → k < n → get_or (tabulated rule i n) k 0 ≡ rule (i + k)
unfolding tabulated
from rule i zero k h = absurd (not-suc-le-zero h)
from rule i (suc n) zero h = ap rule (sym (add-zero i))
from rule i (suc n) (suc k) h = from rule (suc i) n k (le_of_suc-le-suc h) ∙ ap rule (suc-add i k ∙ sym (add-suc i k))

pub lookup : (rule : ℕ → ℕ) (n k : ℕ) → k < n → get_or (tabulated rule 0 n) k 0 ≡ rule k
lookup rule n k h = from rule 0 n k h ∙ ap rule (zero-add k)

-- The lesser of two numbers, which a test picks.
-- Assumes nothing.
use mathlib.Core.Bool.{Bool, true, false, not, cond}
use Prim.Native.Nat.{ℕ, ◌≤◌, ◌<◌}
use native.Mathlib.Omega.{arith}
use lib.Dec.{T as Holds, ltb, ltb→lt, nltb→le}

-- it is at most the second
pub least_right : (a b : ℕ) → cond (ltb a b) a b ≤ b
least_right a b = of (ltb a b) (λ h. ltb→lt a b h) (λ h. nltb→le a b h)
  where
    of : (t : Bool) → (Holds t → a < b) → (Holds (not t) → b ≤ a) → cond t a b ≤ b
    of true h k = omega (arith, h tt)
    of false h k = omega arith

-- What `then_some` gives, and what is left of a choice by another.
-- Assumes nothing.
use mathlib.Core.Path.{◌≡◌, refl}
use mathlib.Core.Bool.{Bool, true, false}
use Rattle.std.specs.Prelude.{Some, None, cond}
use Rattle.std.specs.Bool.{then_some}

pub chosen : {A : Type 0} (b : Bool) (x : A) → then_some b x ≡ cond b (Some x) None
chosen true x = refl
chosen false x = refl

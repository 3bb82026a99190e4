-- Tests that are joined.
-- Assumes nothing.
use mathlib.Core.Path.{◌≡◌, refl, sym}
use mathlib.Core.Bool.{Bool, true, false, ◌||◌, ◌&&◌, true≢false}

pub both_true : (b c : Bool) → b && c ≡ true → (b ≡ true) × (c ≡ true)
both_true true c e = (refl, e)
both_true false c e = absurd (true≢false (sym e))

pub either : {A : Type 0} (b c : Bool) → (b ≡ true → A) → (c ≡ true → A) → b || c ≡ true → A
either true c f g e = f refl
either false c f g e = g e

pub and_false : (b : Bool) → b && false ≡ false
and_false true = refl
and_false false = refl

pub and_true : (b : Bool) → b && true ≡ b
and_true true = refl
and_true false = refl

pub or_false : (b : Bool) → b || false ≡ b
or_false true = refl
or_false false = refl

pub or_true : (b : Bool) → b || true ≡ true
or_true true = refl
or_true false = refl

pub or_none : (b c : Bool) → b || c ≡ false → (b ≡ false) × (c ≡ false)
or_none true c e = absurd (true≢false e)
or_none false c e = (refl, e)

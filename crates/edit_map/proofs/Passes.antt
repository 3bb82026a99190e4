-- What one turn of each loop over slots or records makes, and none.
-- Assumes nothing.
use Prim.Native.Nat.{ℕ, zero, suc, ◌+◌, ◌<◌, ◌≤◌, ◌^◌}
use mathlib.Core.Path.{◌≡◌, refl, sym, ap, ◌∙◌}
use mathlib.Core.Bool.{Bool, true, false, cond}
use Rattle.std.specs.Bool.{then_some}
use mathlib.Core.List.{List, [], ◌∷◌, ◌++◌, append-nil}
use native.Mathlib.Omega.{arith}
use lib.ListN.{length, get_or, take, drop, set, take-append-drop, drop_of_length-le}
use lib.Seq.{take_all}
use Rattle.tokenizer.specs.Events.{blank_event}
use Rattle.tokenizer.proofs.Reading.{left-from}
use Rattle.tokenizer.proofs.Filling.{take-set, kept_set}
use Rattle.std.specs.Prelude.{Some, None}
use Rattle.tokenizer.specs.declared.event.Event.{Event}
use Rattle.edit_map.specs.declared.resolve_step.Cursor.{Cursor}
use Rattle.edit_map.specs.declared.infer_step.Aligning.{Aligning}
use Rattle.edit_map.specs.Base.{most}
use Rattle.edit_map.specs.Cursors.{look_of, next_at, over_at, turn_here, next_of, stepped, given_to}
use Rattle.edit_map.specs.Turns.{turn_of}
use Rattle.tokenizer.specs.Slots.{event_at}
use Rattle.edit_map.specs.AlignSteps.{slot_of, align_step, pauses, scan_all, scan_of, aligns_from}

-- the turn at a cursor, by what it reads
pub turned : (es : List Event) (c : Cursor) → (let l = look_of es c (event_at es c.at) in turn_of c.mode (event_at es c.at) (next_at es c) l.ahead l.solid) ≡ turn_here es c
unfolding turn_here
turned es c = refl

-- at the end of the stream the slots stay; before it a slot more is filled
pub stepped_over : (es : List Event) (c : Cursor) (ys : List Event) → over_at es c ≡ true → stepped es c ys ≡ ys
unfolding stepped
stepped_over es c [] h = refl
stepped_over es c (y ∷ ys) h = rw h

pub stepped_more : (es : List Event) (c : Cursor) (y : Event) (ys : List Event) → over_at es c ≡ false → stepped es c (y ∷ ys) ≡ (turn_here es c).event ∷ stepped es (next_of es c) ys
unfolding stepped
stepped_more es c y ys h = rw h

pub stepped_none : (es : List Event) (c : Cursor) → stepped es c [] ≡ []
unfolding stepped
stepped_none es c = refl

-- the same for the number of records
pub given_over : (es : List Event) (k n : ℕ) (c : Cursor) → over_at es c ≡ true → given_to es k n c ≡ Some k
unfolding given_to
given_over es k zero c h = rw h
given_over es k (suc n) c h = rw h

pub given_more : (es : List Event) (k n : ℕ) (c : Cursor) → over_at es c ≡ false → given_to es k (suc n) c ≡ given_to es (suc k) n (next_of es c)
unfolding given_to
given_more es k n c h = rw h

pub given_none : (es : List Event) (k : ℕ) (c : Cursor) → given_to es k 0 c ≡ then_some (over_at es c) k
unfolding given_to
given_none es k c = go (over_at es c)
  where
    go : (b : Bool) → cond b (Some k) None ≡ then_some b k
    go true = refl
    go false = refl

-- the slots of which i are filled, with what the stream makes of the rest: at its end, one more, and no more
pub filled_over : (es : List Event) (c : Cursor) (i : ℕ) (zs : List Event) → over_at es c ≡ true → zs ≡ take i zs ++ stepped es c (drop i zs)
filled_over es c i zs h = sym (ap (λ (k : List Event). take i zs ++ k) (stepped_over es c (drop i zs) h) ∙ take-append-drop i zs)

pub filled_more : (es : List Event) (c : Cursor) (i : ℕ) (zs : List Event) → over_at es c ≡ false → i < length zs
    → (let e = (turn_here es c).event in take (i + 1) (set zs i e) ++ stepped es (next_of es c) (drop (i + 1) (set zs i e)) ≡ take i zs ++ stepped es c (drop i zs))
filled_more es c i zs h l =
    let e = (turn_here es c).event in
    let s = (next_of es c) in
    ap (λ (k : List Event). take (i + 1) (set zs i e) ++ stepped es s k) (kept_set zs zs i e refl)
    ∙ sym (take-set zs i e (stepped es s (drop (i + 1) zs)) l)
    ∙ ap (λ (k : List Event). take i zs ++ k) (sym (stepped_more es c (get_or zs i blank_event) (drop (i + 1) zs) h) ∙ ap (stepped es c) (sym (left-from zs i blank_event l)))

pub filled_none : (es : List Event) (c : Cursor) (i : ℕ) (zs : List Event) → length zs ≤ i → zs ≡ take i zs ++ stepped es c (drop i zs)
filled_none es c i zs h = sym (ap (λ (k : List Event). take i zs ++ stepped es c k) (drop_of_length-le zs h) ∙ ap (λ (k : List Event). take i zs ++ k) (stepped_none es c) ∙ append-nil (take i zs) ∙ take_all i zs h)

-- a length of a slice
pub in_most : {n : ℕ} → n < 2 ^ 64 → n ≤ most
in_most h = omega (arith, h)

-- ## Scans

-- the alignments
pub scan_more : (off : Aligning → Bool) (s : Aligning) (e : Event) (es : List Event) → off s ≡ false → scan_all off s (e ∷ es) ≡ scan_all off (align_step s e) es
unfolding scan_all
scan_more off s e es h = rw h

pub scan_stays : (off : Aligning → Bool) (s : Aligning) (es : List Event) → off s ≡ true → scan_all off s es ≡ s
unfolding scan_all
scan_stays off s [] h = refl
scan_stays off s (e ∷ es) h = rw h

pub scan_none : (off : Aligning → Bool) (s : Aligning) → scan_all off s [] ≡ s
unfolding scan_all
scan_none off s = refl

-- a slot more is filled, and none
pub aligns_more : (es : List Event) (n : ℕ) (s : Aligning) → aligns_from es (suc n) s ≡ slot_of (scan_of es pauses s).given ∷ aligns_from es n (scan_of es pauses s)
unfolding aligns_from
aligns_more es n s = refl

pub aligns_none : (es : List Event) (s : Aligning) → aligns_from es 0 s ≡ []
unfolding aligns_from
aligns_none es s = refl

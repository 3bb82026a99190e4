-- What the kind that is read ahead says of the line, by its number and by its name.
-- Assumes nothing.
use Prim.Native.Nat.{ℕ, ◌<◌, ◌≤◌}
use mathlib.Core.Path.{◌≡◌, refl, ap, sym, ◌∙◌}
use mathlib.Core.Bool.{cond}
use mathlib.Core.Logic.{◌⊎◌, inl, inr, ⊎_elim}
use native.Mathlib.Omega.{arith}
use mathlib.Core.List.{List}
use lib.Dec.{eqb}
use lib.ListN.{drop}
use Rattle.tokenizer.specs.declared.kinds.Kind.{Kind}
use Rattle.tokenizer.specs.declared.kinds.Kind.TheVariants.{Other, Space, End, Pipe, Backslash, Hyphen, Colon}
use Rattle.tokenizer.specs.Bytes.{kind_number, Reads}
use Rattle.tokenizer.specs.Moves.{ahead_of}
use Rattle.tokenizer.proofs.Ahead.{Front, goes}

-- the kind with a number
by_number : ℕ → Kind
by_number n = cond (eqb n 1) Space (cond (eqb n 2) End (cond (eqb n 3) Pipe (cond (eqb n 4) Backslash (cond (eqb n 5) Hyphen (cond (eqb n 6) Colon Other)))))

numbered : (k : Kind) → by_number (kind_number k) ≡ k
unfolding by_number
numbered Other = refl
numbered Space = refl
numbered End = refl
numbered Pipe = refl
numbered Backslash = refl
numbered Hyphen = refl
numbered Colon = refl

-- kinds with one number are one kind
pub same_kind : (a b : Kind) → kind_number a ≡ kind_number b → a ≡ b
same_kind a b e = sym (numbered a) ∙ ap by_number e ∙ numbered b

-- so other kinds have other numbers
pub apart_kinds : (a b : Kind) → (a ≡ b → ⊥) → kind_number a ≡ kind_number b → ⊥
apart_kinds a b h e = h (same_kind a b e)

module _ {kind : ℕ → ℕ} (ok : Reads kind) (s : List ℕ) (i : ℕ) (k : Kind) (e : kind_number k ≡ ahead_of kind (drop i s)) where
  -- the kind that is read ahead is b
  pub ahead_is : (b : Kind) → k ≡ b → kind_number b ≡ ahead_of kind (drop i s)
  ahead_is b h = ap kind_number (sym h) ∙ e

  -- or it is not
  pub ahead_not : (b : Kind) → (k ≡ b → ⊥) → ahead_of kind (drop i s) ≡ kind_number b → ⊥
  ahead_not b h z = apart_kinds k b h (e ∙ z)

  -- where it is no line end's, the line goes on
  pub front_at : (b : Kind) → k ≡ b → (kind_number b ≡ 2 → ⊥) → Front kind s i (kind_number b)
  front_at b h z = goes ok s i (kind_number b) (ahead_is b h) z

  pub front : (k ≡ End → ⊥) → Front kind s i (kind_number k)
  front h = goes ok s i (kind_number k) e (apart_kinds k End h)

-- ## Which numbers some kinds have

-- whitespace, a line end or a pipe
pub low_kind : (k : Kind) → (k ≡ Space) ⊎ ((k ≡ End) ⊎ (k ≡ Pipe)) → (1 ≤ kind_number k) × (kind_number k ≤ 3)
low_kind k (inl e) = rw e (omega arith, omega arith)
low_kind k (inr (inl e)) = rw e (omega arith, omega arith)
low_kind k (inr (inr e)) = rw e (omega arith, omega arith)

-- or a colon
pub stop_kind : (k : Kind) → (k ≡ Space) ⊎ ((k ≡ End) ⊎ ((k ≡ Pipe) ⊎ (k ≡ Colon))) → (kind_number k ≡ 6) ⊎ ((1 ≤ kind_number k) × (kind_number k ≤ 3))
stop_kind k (inl e) = inr (low_kind k (inl e))
stop_kind k (inr (inl e)) = inr (low_kind k (inr (inl e)))
stop_kind k (inr (inr (inl e))) = inr (low_kind k (inr (inr e)))
stop_kind k (inr (inr (inr e))) = inl (ap kind_number e)

-- none of the first three
pub far_kind : (k : Kind) → (k ≡ Space → ⊥) → (k ≡ End → ⊥) → (k ≡ Pipe → ⊥) → (kind_number k < 1) ⊎ (3 < kind_number k)
far_kind Other a b d = inl (omega arith)
far_kind Space a b d = absurd (a refl)
far_kind End a b d = absurd (b refl)
far_kind Pipe a b d = absurd (d refl)
far_kind Backslash a b d = inr (omega arith)
far_kind Hyphen a b d = inr (omega arith)
far_kind Colon a b d = inr (omega arith)

-- nor a backslash
pub plain_kind : (k : Kind) → (k ≡ Space → ⊥) → (k ≡ End → ⊥) → (k ≡ Pipe → ⊥) → (k ≡ Backslash → ⊥) → (kind_number k < 1) ⊎ (4 < kind_number k)
plain_kind k a b d e = ⊎_elim (λ l. inl l) (λ l. inr (let z = apart_kinds k Backslash e in omega arith)) (far_kind k a b d)

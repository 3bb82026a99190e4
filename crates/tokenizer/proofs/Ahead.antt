-- The line ahead of a place: what the current byte's kind says of it, and points that move along it.
-- Assumes nothing.
use Prim.Native.Nat.{ℕ, zero, suc, ◌+◌, ◌-◌, ◌*◌, ◌/◌, ◌≤◌, ◌<◌}
use mathlib.Core.Path.{◌≡◌, refl, ap, sym, ◌∙◌}
use mathlib.Core.Bool.{Bool, true, false, cond, true≢false}
use mathlib.Core.List.{List, [], ◌∷◌, ◌++◌}
use native.Mathlib.Nat.{add-zero, add_assoc}
use native.Mathlib.Numerals.{add-one}
use native.Mathlib.Omega.{arith}
use lib.Dec.{eqb}
use lib.ListN.{length, drop, get_or, length-append, length-drop, drop_of_length-le}
use lib.Seq.{drop-cons, drop-drop}
use Rattle.tokenizer.specs.declared.event.Point.{Point}
use Rattle.tokenizer.specs.Bytes.{is_end, Reads}
use Rattle.tokenizer.specs.Points.{column_after, column_past, past}
use Rattle.tokenizer.specs.Lines.{line_body}
use Rattle.tokenizer.specs.Moves.{ahead_of, rest_of, over_at, Inside, run_of}
use Rattle.tokenizer.proofs.Bytes.{is-end, no_end}
use Rattle.tokenizer.proofs.Runs.{run_off}

-- ## The line is at its end, or goes on

module _ (kind : ℕ → ℕ) where
  pub record Front (s : List ℕ) (i k : ℕ) : Type 0 where
    pub below : i < length s
    pub line : line_body (drop i s) ≡ get_or s i 0 ∷ line_body (drop (i + 1) s)
    pub is : kind (get_or s i 0) ≡ k

  below : (s : List ℕ) (i : ℕ) → (ahead_of kind (drop i s) ≡ 2 → ⊥) → i < length s
  below [] zero h = absurd (h refl)
  below [] (suc i) h = absurd (h refl)
  below (b ∷ s) zero h = omega arith
  below (b ∷ s) (suc i) h = let l : i < length s = below s i h in omega arith

module _ {kind : ℕ → ℕ} (ok : Reads kind) where
  pub ends : (u : List ℕ) → ahead_of kind u ≡ 2 → line_body u ≡ []
  unfolding line_body
  ends [] e = refl
  ends (b ∷ u) e = rw (is-end ok b e)

  goes_on_lem : (b : ℕ) (u : List ℕ) → (kind b ≡ 2 → ⊥) → line_body (b ∷ u) ≡ b ∷ line_body u
  unfolding line_body
  goes_on_lem b u h = rw (no_end ok b h)

  pub goes : (s : List ℕ) (i k : ℕ) → k ≡ ahead_of kind (drop i s) → (k ≡ 2 → ⊥) → Front kind s i k
  goes s i k e h =
      let l : i < length s = below kind s i (λ q. h (e ∙ q)) in
      let d : drop i s ≡ get_or s i 0 ∷ drop (i + 1) s = rw (add-one, drop-cons s i 0) in
      let q : k ≡ kind (get_or s i 0) = e ∙ ap (ahead_of kind) d in
      record { below = l; line = ap line_body d ∙ goes_on_lem (get_or s i 0) (drop (i + 1) s) (λ z. h (q ∙ z)); is = sym q }

-- behind the sheet's last byte nothing is left of the line
pub past_last : (s : List ℕ) (i : ℕ) → length s ≤ i → line_body (drop i s) ≡ []
unfolding line_body
past_last s i l = rw (drop_of_length-le s l)

-- ## Points

column-append : (c : ℕ) (a b : List ℕ) → column_past c (a ++ b) ≡ column_past (column_past c a) b
unfolding column_past
column-append c [] b = refl
column-append c (x ∷ a) b = column-append (column_after c x) a b

-- past one stretch and then another is past both
pub past-append : (p : Point) (a b : List ℕ) → past (past p a) b ≡ past p (a ++ b)
past-append p a b = rw (column-append p.column a b, length-append, ← add_assoc)

pub past-none : (p : Point) → p.vs ≡ 0 → past p [] ≡ p
unfolding column_past
past-none p e = rw add-zero (ap {B = Point} (λ v. record { line = p.line; column = p.column; index = p.index; vs = v }) (sym e))

cut : (t : Bool) (b x : ℕ) (u r : List ℕ) → cond t [] (b ∷ u) ≡ x ∷ r → u ≡ r
cut true b x u r e = absurd (let z : ◌≡◌ {A = ℕ} 0 1 = cc in omega arith)
cut false b x u r e = cc

line-drop : (u a t : List ℕ) → line_body u ≡ a ++ t → line_body (drop (length a) u) ≡ t
unfolding line_body
line-drop u [] t e = e
line-drop [] (x ∷ a) t e = absurd (let z : ◌≡◌ {A = ℕ} 0 1 = cc in omega arith)
line-drop (b ∷ u) (x ∷ a) t e = line-drop u a t (cut (is_end b) b x (line_body u) (a ++ t) e)

-- what is left of the line after a stretch of it
pub rest-past : (s : List ℕ) (p : Point) (a t : List ℕ) → rest_of s p ≡ a ++ t → rest_of s (past p a) ≡ t
rest-past s p a t e = rw (← drop-drop (length a) p.index s) (line-drop (drop p.index s) a t e)

line-short : (u : List ℕ) → length (line_body u) ≤ length u
unfolding line_body
line-short [] = omega arith
line-short (b ∷ u) = go (is_end b) (line-short u)
  where
    go : (t : Bool) → length (line_body u) ≤ length u → length (cond t [] (b ∷ line_body u)) ≤ suc (length u)
    go true h = omega arith
    go false h = omega arith

after-le : (c b : ℕ) → column_after c b ≤ c + 4
unfolding column_after
after-le c b = go (eqb b 9)
  where
    go : (t : Bool) → cond t ((c + 3) / 4 * 4 + 1) (c + 1) ≤ c + 4
    go true = omega arith
    go false = omega arith

past-le : (c : ℕ) (a : List ℕ) → column_past c a ≤ c + 4 * length a
unfolding column_past
past-le c [] = omega arith
past-le c (b ∷ a) = let h = past-le (column_after c b) a in omega (arith, after-le c b)

-- a point that has moved over a stretch of the line is inside still
pub inside_past : (s : List ℕ) (p : Point) (a t : List ℕ) → Inside s p → rest_of s p ≡ a ++ t → Inside s (past p a)
inside_past s p a t h e =
    let l : length a + length t ≤ length s - p.index = rw (← length-append a t, ← e, ← length-drop) (line-short (drop p.index s)) in
    record { short = h.short; within = omega (arith, h.within); narrow = omega (arith, h.narrow, past-le p.column a); lined = omega (arith, h.lined); flat = refl }

-- ## A run at a point, byte by byte

-- where a run that starts at a point ends
abbrev pub run_end : (List ℕ → List ℕ) → List ℕ → Point → Point
run_end run s q = past q (run (rest_of s q))

pub end_none : (run : List ℕ → List ℕ) (s : List ℕ) (q : Point) → Inside s q → run (rest_of s q) ≡ [] → run_end run s q ≡ q
end_none run s q h e = rw e (past-none q h.flat)

module _ {kind : ℕ → ℕ} (s : List ℕ) (q : Point) (k : ℕ) (f : Front kind s q.index k) where
  pub over_inside : Inside s q → Inside s (over_at s q)
  over_inside h = inside_past s q (get_or s q.index 0 ∷ []) (rest_of s (over_at s q)) h f.line

  pub end_over : (run run' : List ℕ → List ℕ) → ((b : ℕ) (u : List ℕ) → kind b ≡ k → run (b ∷ u) ≡ b ∷ run' u) → run_end run' s (over_at s q) ≡ run_end run s q
  end_over run run' on = past-append q _ _ ∙ ap (past q) (sym (ap run f.line ∙ on _ _ f.is))

-- after a run, what is left of the line is the rest
module _ (run rest : List ℕ → List ℕ) (split : (u : List ℕ) → run u ++ rest u ≡ u) (s : List ℕ) (p : Point) where
  pub rest_end : rest_of s (run_end run s p) ≡ rest (rest_of s p)
  rest_end = rest-past s p (run (rest_of s p)) (rest (rest_of s p)) (sym (split (rest_of s p)))

  pub inside-end : Inside s p → Inside s (run_end run s p)
  inside-end h = inside_past s p (run (rest_of s p)) (rest (rest_of s p)) h (sym (split (rest_of s p)))

  pub end-end : (f g : List ℕ → List ℕ) → ((u : List ℕ) → f u ≡ run u ++ g (rest u)) → run_end g s (run_end run s p) ≡ run_end f s p
  end-end f g on = ap (λ (l : List ℕ). past (run_end run s p) (g l)) rest_end ∙ past-append p (run (rest_of s p)) (g (rest (rest_of s p))) ∙ ap (past p) (sym (on (rest_of s p)))

-- ## Where runs stop

module _ {kind : ℕ → ℕ} (ok : Reads kind) where
  pub line_case : (b : ℕ) (u : List ℕ) (P : List ℕ → Type 0) → P [] → ((kind b ≡ 2 → ⊥) → P (b ∷ line_body u)) → P (line_body (b ∷ u))
  unfolding line_body
  line_case b u P none more = go (is_end b) refl
    where
      go : (t : Bool) → is_end b ≡ t → P (cond t [] (b ∷ line_body u))
      go true e = none
      go false e = more (λ z. true≢false (sym (is-end ok b z) ∙ e))

  pub run_stops : (k : ℕ) (u : List ℕ) → (ahead_of kind u ≡ k → ⊥) → run_of kind k (line_body u) ≡ []
  unfolding line_body run_of
  run_stops k [] h = refl
  run_stops k (b ∷ u) h = line_case b u (λ l. run_of kind k l ≡ []) refl (λ z. run_off kind k b (line_body u) h)

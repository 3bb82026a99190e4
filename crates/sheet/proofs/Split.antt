-- A sheet's lines, cut at one of them.
-- Assumes nothing.
use Prim.Native.Nat.{ℕ, ◌+◌, ◌<◌}
use mathlib.Core.Path.{◌≡◌, refl, ap, sym, ◌∙◌}
use mathlib.Core.List.{List, [], ◌∷◌, ◌++◌, append_assoc, append-nil, head-eq_of_cons-eq, tail-eq_of_cons-eq}
use mathlib.Core.Bool.{Bool, true, false, false≢true}
use native.Mathlib.Omega.{arith}
use lib.Dec.{eqb}
use lib.ListN.{length, length-append}
use borrow.Author.Tests.{eqb-true, not-true}
use Rattle.tokenizer.specs.declared.event.Point.{Point}
use Rattle.tokenizer.specs.Lines.{Line, lines, starts_lf, empty_line, on_first}
use Rattle.sheet.specs.Demands.{plain}
use Rattle.sheet.proofs.Tests.{both_true, either_false}
use Rattle.sheet.proofs.Walks.{onward}

-- s begins with a line end of n bytes, and r follows
pub data Ends : List ℕ → ℕ → List ℕ → Type 0 where
  lf : {r : List ℕ} → Ends (10 ∷ r) 1 r
  crlf : {r : List ℕ} → Ends (13 ∷ 10 ∷ r) 2 r
  cr : {r : List ℕ} → starts_lf r ≡ false → Ends (13 ∷ r) 1 r

lines_end : {s r : List ℕ} {n : ℕ} → Ends s n r → lines s ≡ empty_line n (lines r)
unfolding lines
lines_end lf = refl
lines_end crlf = refl
lines_end (cr e) = rw e

-- a plain byte goes in front of the first line
lines-plain : (b : ℕ) (u s : List ℕ) → plain (b ∷ u) ≡ true → (lines (b ∷ s) ≡ on_first b (lines s)) × (plain u ≡ true)
unfolding plain lines
lines-plain b u s h = go (eqb b 10) (eqb b 13) refl refl
  where
    go : (c d : Bool) → eqb b 10 ≡ c → eqb b 13 ≡ d → (lines (b ∷ s) ≡ on_first b (lines s)) × (plain u ≡ true)
    go true d e f = absurd (false≢true (rw e at h))
    go false true e f = absurd (false≢true (rw (e, f) at h))
    go false false e f = (rw (e, f), rw (e, f) at h)

pub lines-last : (u : List ℕ) → plain u ≡ true → lines u ≡ record { body = u; end = 0 } ∷ []
unfolding lines
lines-last [] h = refl
lines-last (b ∷ u) h = let k = lines-plain b u u h in k.0 ∙ ap (on_first b) (lines-last u k.1)

pub lines_next : (u : List ℕ) {s r : List ℕ} {n : ℕ} → plain u ≡ true → Ends s n r → lines (u ++ s) ≡ record { body = u; end = n } ∷ lines r
lines_next [] h e = lines_end e
lines_next (b ∷ u) {s} h e = let k = lines-plain b u (u ++ s) h in k.0 ∙ ap (on_first b) (lines_next u k.1 e)

-- a sheet is its first line with its end, and the rest; or a last line
pub data Cut (s : List ℕ) : Type 0 where
  last : plain s ≡ true → Cut s
  next : (u t : List ℕ) (n : ℕ) (r : List ℕ) → s ≡ u ++ t → plain u ≡ true → Ends t n r → Cut s

pub cut : (s : List ℕ) → Cut s
unfolding plain
cut [] = last refl
cut (b ∷ s) = go (eqb b 10) (eqb b 13) s refl refl (cut s)
  where
    go : (c d : Bool) (s : List ℕ) → eqb b 10 ≡ c → eqb b 13 ≡ d → Cut s → Cut (b ∷ s)
    go true d s e f k = next [] (b ∷ s) 1 s refl refl (rw (eqb-true b 10 e) lf)
    go false true [] e f k = next [] (b ∷ []) 1 [] refl refl (rw (eqb-true b 13 f) (cr refl))
    go false true (c ∷ s) e f k = two (eqb c 10) refl
      where
        two : (g : Bool) → eqb c 10 ≡ g → Cut (b ∷ c ∷ s)
        two true g = next [] (b ∷ c ∷ s) 2 s refl refl (rw (eqb-true b 13 f, eqb-true c 10 g) crlf)
        two false g = next [] (b ∷ c ∷ s) 1 (c ∷ s) refl refl (rw (eqb-true b 13 f) (cr g))
    go false false s e f (last h) = last (rw (e, f) h)
    go false false s e f (next u t n r w h k) = next (b ∷ u) t n r (rw w) (rw (e, f) h) k

-- the bytes of a line end; another sheet may follow them, if it does not make a line end of two bytes of one of one
record EndBytes (t : List ℕ) (n : ℕ) (r : List ℕ) : Type 0 where
  e : List ℕ
  size : length e ≡ n
  whole : t ≡ e ++ r
  again : (q : List ℕ) → (starts_lf r ≡ false → starts_lf q ≡ false) → Ends (e ++ q) n q

end_bytes : {t r : List ℕ} {n : ℕ} → Ends t n r → EndBytes t n r
end_bytes lf = record { e = 10 ∷ []; size = refl; whole = refl; again = λ q f. lf }
end_bytes crlf = record { e = 13 ∷ 10 ∷ []; size = refl; whole = refl; again = λ q f. crlf }
end_bytes (cr h) = record { e = 13 ∷ []; size = refl; whole = refl; again = λ q f. cr (f h) }

-- the point after some lines
unfoldable pub after : Point → List Line → Point
after p [] = p
after p (l ∷ ls) = after (onward p l) ls

-- a sheet whose lines are ls, l and ms: x are the bytes up to l, y those from l's end on; another line than l may stand between them
pub record Around (s : List ℕ) (ls : List Line) (l : Line) (ms : List Line) : Type 0 where
  pub x : List ℕ
  pub y : List ℕ
  pub whole : s ≡ x ++ (l.body ++ y)
  pub size : (p : Point) → (after p ls).index ≡ p.index + length x
  pub here : lines (l.body ++ y) ≡ l ∷ ms
  pub swap : (u : List ℕ) → plain u ≡ true → 0 < length u → lines (x ++ (u ++ y)) ≡ ls ++ record { body = u; end = l.end } ∷ ms

around_last : (s : List ℕ) → plain s ≡ true → Around s [] (record { body = s; end = 0 }) []
unfolding after
around_last s h =
    record {
      x = [];
      y = [];
      whole = rw (append-nil s);
      size = λ p. omega arith;
      here = rw (append-nil s) (lines-last s h);
      swap = λ u k n. rw (append-nil u) (lines-last u k);
    }

around_next : (u : List ℕ) {t r : List ℕ} {n : ℕ} → plain u ≡ true → Ends t n r → Around (u ++ t) [] (record { body = u; end = n }) (lines r)
unfolding after
around_next u {t} h k = record { x = []; y = t; whole = refl; size = λ p. omega arith; here = lines_next u h k; swap = λ v m n. lines_next v m k }

starts_lf-swap : (x v y u : List ℕ) → plain u ≡ true → 0 < length u → starts_lf (x ++ (v ++ y)) ≡ false → starts_lf (x ++ (u ++ y)) ≡ false
unfolding plain
starts_lf-swap [] v y [] k n h = absurd (omega arith)
starts_lf-swap [] v y (b ∷ u) k n h = (either_false (eqb b 10) _ (not-true _ (both_true _ _ k).0)).0
starts_lf-swap (c ∷ x) v y u k n h = h

around_cons : (u : List ℕ) {t r : List ℕ} {n : ℕ} {ls : List Line} {l : Line} {ms : List Line} → plain u ≡ true → Ends t n r → Around r ls l ms
    → Around (u ++ t) (record { body = u; end = n } ∷ ls) l ms
unfolding after
around_cons u {t} {r} {n} {ls} {l} {ms} h k a =
    let e = end_bytes k in
    record {
      x = u ++ (e.e ++ a.x);
      y = a.y;
      whole = simp append_assoc (ap (λ (z : List ℕ). u ++ z) (e.whole ∙ ap (λ (z : List ℕ). e.e ++ z) a.whole));
      size = λ p. simp length-append (omega (arith, a.size (onward p (record { body = u; end = n })), e.size));
      here = a.here;
      swap = λ v m o.
          simp append_assoc
          (lines_next u h (e.again (a.x ++ (v ++ a.y)) (λ z. starts_lf-swap a.x l.body a.y v m o (rw a.whole at z)))
          ∙ ap (λ (z : List Line). record { body = u; end = n } ∷ z) (a.swap v m o));
    }

pub nil_ne_append : {A : Type 0} (xs : List A) (y : A) (ys : List A) → [] ≡ xs ++ y ∷ ys → ⊥
nil_ne_append xs y ys e = let n = ap length e in omega (arith, rw (length-append xs (y ∷ ys)) at n)

pub around : (ls : List Line) (s : List ℕ) (l : Line) (ms : List Line) → lines s ≡ ls ++ l ∷ ms → Around s ls l ms
around [] s l ms w = go (cut s)
  where
    go : Cut s → Around s [] l ms
    go (last h) = let e = sym (lines-last s h) ∙ w in rw (← head-eq_of_cons-eq e, ← tail-eq_of_cons-eq e) (around_last s h)
    go (next u t n r f h k) = let e = sym (lines_next u h k) ∙ (rw f at w) in rw (f, ← head-eq_of_cons-eq e, ← tail-eq_of_cons-eq e) (around_next u h k)
around (k ∷ ls) s l ms w = go (cut s) (λ r. around ls r l ms)
  where
    go : Cut s → ((r : List ℕ) → lines r ≡ ls ++ l ∷ ms → Around r ls l ms) → Around s (k ∷ ls) l ms
    go (last h) ih = absurd (nil_ne_append ls l ms (tail-eq_of_cons-eq (sym (lines-last s h) ∙ w)))
    go (next u t n r f h c) ih =
        let e = sym (lines_next u h c) ∙ (rw f at w) in rw (f, ← head-eq_of_cons-eq e) (around_cons u h c (ih r (tail-eq_of_cons-eq e)))

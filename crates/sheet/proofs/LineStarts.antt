-- Where a line starts, a line of the sheet stands.
-- Assumes nothing.
use Prim.Native.Nat.{ℕ, zero, suc, ◌+◌}
use mathlib.Core.Path.{◌≡◌, refl, ap, sym, ◌∙◌}
use mathlib.Core.List.{List, [], ◌∷◌, ◌++◌, head-eq_of_cons-eq}
use mathlib.Core.Bool.{Bool, true, false, true≢false, false≢true}
use native.Mathlib.Omega.{arith}
use lib.Dec.{eqb}
use lib.ListN.{length, drop}
use borrow.Author.Tests.{eqb-true}
use Rattle.tokenizer.specs.declared.event.Point.{Point}
use Rattle.tokenizer.specs.Lines.{Line, lines, starts_lf, empty_line, bom, first_start, ends_line, ends_before, starts_line, ends_within}
use Rattle.tokenizer.specs.Places.{Placed, placed, first_point}
use Rattle.tokenizer.proofs.Starts.{BomCase, bom_case, bom-number}
use Rattle.sheet.specs.Demands.{Starts}
use Rattle.sheet.proofs.Tests.{test}
use Rattle.sheet.proofs.Walks.{starting, onward}
use Rattle.sheet.proofs.Split.{Cut, cut, lines-last, lines_next, after}

-- how many bytes lie in some lines, with their line ends
unfoldable pub bytes : List Line → ℕ
bytes [] = 0
bytes (l ∷ ls) = length l.body + l.end + bytes ls

-- the lines of a sheet up to offset a, and those from there on
record LinesAt (s : List ℕ) (a : ℕ) : Type 0 where
  ls : List Line
  l : Line
  ms : List Line
  split : lines s ≡ ls ++ l ∷ ms
  size : bytes ls ≡ a
  count : length ls ≡ ends_within a s

-- there is always a line
first : (s : List ℕ) → LinesAt s 0
unfolding bytes ends_within
first s = go (cut s)
  where
    go : Cut s → LinesAt s 0
    go (Cut.last h) = record { ls = []; l = _; ms = []; split = lines-last s h; size = refl; count = refl }
    go (Cut.next u t n r f h k) = record { ls = []; l = _; ms = lines r; split = ap lines f ∙ lines_next u h k; size = refl; count = refl }

-- a line end of one byte in front
ended-lines : (b : ℕ) (u : List ℕ) → ends_line b u ≡ true → lines (b ∷ u) ≡ empty_line 1 (lines u)
unfolding lines
ended-lines b u h = go (eqb b 10) (eqb b 13) (starts_lf u) refl refl refl
  where
    go : (c d e : Bool) → eqb b 10 ≡ c → eqb b 13 ≡ d → starts_lf u ≡ e → lines (b ∷ u) ≡ empty_line 1 (lines u)
    go true d e f g k = rw f
    go false true false f g k = rw (f, g, k)
    go false true true f g k = absurd (false≢true (rw (f, g, k) at h))
    go false false e f g k = absurd (false≢true (rw (f, g) at h))

ended : (b : ℕ) (u : List ℕ) (a : ℕ) → ends_line b u ≡ true → LinesAt u a → LinesAt (b ∷ u) (suc a)
unfolding bytes ends_within
ended b u a e r =
    record {
      ls = record { body = []; end = 1 } ∷ r.ls;
      l = r.l;
      ms = r.ms;
      split = ended-lines b u e ∙ ap (empty_line 1) r.split;
      size = omega (arith, r.size);
      count = rw e (omega (arith, r.count));
    }

-- another byte in front makes the first line k one byte longer
record Longer (b : ℕ) (u : List ℕ) (k : Line) (ls : List Line) : Type 0 where
  j : Line
  split : lines (b ∷ u) ≡ j ∷ ls
  size : length j.body + j.end ≡ 1 + (length k.body + k.end)

feed-size : (u : List ℕ) (k : Line) (ls : List Line) → starts_lf u ≡ true → lines u ≡ k ∷ ls → length k.body + k.end ≡ 1
unfolding lines
feed-size [] k ls h e = absurd (false≢true h)
feed-size (c ∷ u) k ls h e =
    let f : empty_line 1 (lines u) ≡ k ∷ ls = rw h at e in
    ap (λ (z : Line). length z.body + z.end) (sym (head-eq_of_cons-eq f))

longer : (b : ℕ) (u : List ℕ) (k : Line) (ls : List Line) → ends_line b u ≡ false → lines u ≡ k ∷ ls → Longer b u k ls
unfolding lines
longer b u k ls h e = go (eqb b 10) (eqb b 13) (starts_lf u) refl refl refl
  where
    go : (c d f : Bool) → eqb b 10 ≡ c → eqb b 13 ≡ d → starts_lf u ≡ f → Longer b u k ls
    go true d f g i j = absurd (true≢false (rw g at h))
    go false true false g i j = absurd (true≢false (rw (g, i, j) at h))
    go false true true g i j = record { j = record { body = []; end = 2 }; split = rw (g, i, j, e); size = omega (arith, feed-size u k ls j e) }
    go false false f g i j = record { j = record { body = b ∷ k.body; end = k.end }; split = rw (g, i, e); size = omega arith }

joined : (b : ℕ) (u : List ℕ) (a : ℕ) → ends_line b u ≡ false → (r : LinesAt u (suc a)) → LinesAt (b ∷ u) (suc (suc a))
unfolding bytes ends_within
joined b u a e r = go r.ls r.split r.size r.count
  where
    go : (ls : List Line) → lines u ≡ ls ++ r.l ∷ r.ms → bytes ls ≡ suc a → length ls ≡ ends_within (suc a) u → LinesAt (b ∷ u) (suc (suc a))
    go [] f z c = absurd (omega arith)
    go (k ∷ ls) f z c =
        let g = longer b u k (ls ++ r.l ∷ r.ms) e f in
        record { ls = g.j ∷ ls; l = r.l; ms = r.ms; split = g.split; size = omega (arith, g.size); count = rw e (omega arith) }

before-lines : (s : List ℕ) (a : ℕ) → ends_before s a ≡ true → LinesAt s a
unfolding ends_before
before-lines s zero h = absurd (false≢true h)
before-lines [] (suc a) h = absurd (false≢true h)
before-lines (b ∷ u) (suc zero) h = ended b u 0 h (first u)
before-lines (b ∷ u) (suc (suc a)) h =
    let r = before-lines u (suc a) h in
    test (ends_line b u) (λ e. ended b u (suc a) e r) (λ e. joined b u a e r)

-- ## With a byte order mark or without

-- the lines of a sheet, from the first one on, up to offset a
record LinesTo (s : List ℕ) (a : ℕ) : Type 0 where
  ls : List Line
  l : Line
  ms : List Line
  split : lines (drop (first_start s) s) ≡ ls ++ l ∷ ms
  size : first_start s + bytes ls ≡ a
  count : length ls ≡ ends_within a s

plain-to : (s : List ℕ) (a : ℕ) → first_start s ≡ 0 → LinesAt s a → LinesTo s a
plain-to s a e r = record { ls = r.ls; l = r.l; ms = r.ms; split = ap (λ (k : ℕ). lines (drop k s)) e ∙ r.split; size = omega (arith, r.size); count = r.count }

bom-to : (u : List ℕ) (a : ℕ) → LinesAt u a → LinesTo (bom ++ u) (suc (suc (suc a)))
bom-to u a r = record { ls = r.ls; l = r.l; ms = r.ms; split = r.split; size = omega (arith, r.size); count = omega (arith, r.count, bom-number u a) }

bom-lines : (u : List ℕ) (a : ℕ) → ends_before (bom ++ u) a ≡ true → LinesTo (bom ++ u) a
unfolding ends_before
bom-lines u zero h = absurd (false≢true h)
bom-lines u (suc zero) h = absurd (false≢true h)
bom-lines u (suc (suc zero)) h = absurd (false≢true h)
bom-lines u (suc (suc (suc zero))) h = absurd (false≢true h)
bom-lines u (suc (suc (suc (suc a)))) h = bom-to u (suc a) (before-lines u (suc a) h)

starts-lines : (s : List ℕ) (a : ℕ) → starts_line s a ≡ true → LinesTo s a
starts-lines s a h = go s (bom_case s) h
  where
    go : (s : List ℕ) → BomCase s → starts_line s a ≡ true → LinesTo s a
    go s (BomCase.with u) h =
        test (eqb a 3) (λ f. rw (eqb-true a 3 f) (bom-to u 0 (first u)))
        (λ f. bom-lines u a (rw f at h))
    go s (BomCase.without _ e) h =
        test (eqb a (first_start s)) (λ f. plain-to s a e (rw (eqb-true a (first_start s) f ∙ e) (first s)))
        (λ f. plain-to s a e (before-lines s a (rw f at h)))

-- the same among placed lines
placed-append : (p : Point) (ls : List Line) (l : Line) (ms : List Line) → placed p (ls ++ l ∷ ms) ≡ placed p ls ++ starting (after p ls) l ∷ placed (onward (after p ls) l) ms
unfolding placed after
placed-append p [] l ms = refl
placed-append p (k ∷ ls) l ms = ap (λ (z : List Placed). starting p k ∷ z) (placed-append (onward p k) ls l ms)

pub after-size : (p : Point) (ls : List Line) → ((after p ls).index ≡ p.index + bytes ls) × ((after p ls).line ≡ p.line + length ls)
unfolding after bytes
after-size p [] = (omega arith, omega arith)
after-size p (l ∷ ls) = let h = after-size (onward p l) ls in (omega (arith, h.0), omega (arith, h.1))

pub starts : Starts
starts s a h =
    let r = starts-lines s a h in
    let p = first_point s in
    let z = after-size p r.ls in
    record {
      above = placed p r.ls;
      line = starting (after p r.ls) r.l;
      below = _;
      split = ap (placed p) r.split ∙ placed-append p r.ls r.l r.ms;
      from = omega (arith, z.0, r.size);
      number = omega (arith, z.1, r.count);
    }

-- Where a table's head stands among a sheet's lines.
-- Assumes nothing.
use Prim.Native.Nat.{ℕ}
use mathlib.Core.Path.{◌≡◌, refl, ap}
use mathlib.Core.List.Memᴰ
use mathlib.Core.List.{List, [], ◌∷◌, ◌++◌, Memᴰ}
use mathlib.Core.Logic.{⊎_elim}
use mathlib.Core.Bool.{Bool}
use lib.ListN.{drop}
use Rattle.tokenizer.specs.declared.event.Point.{Point}
use Rattle.tokenizer.specs.Lines.{Line, lines, first_start}
use Rattle.tokenizer.specs.Places.{Placed, placed, first_point}
use Rattle.sheet.specs.Walk.{Found, closes, opens, heads, rows, tables}
use Rattle.sheet.proofs.Tests.{by_cases}
use Rattle.sheet.proofs.Walks.{starting, onward, found_at, Head, opens-head}

module _ (kind : ℕ → ℕ) (on : Bool) where
  pub record HeadAt (p : Point) (all : List Line) (f : Found) : Type 0 where
    pub above : List Placed
    pub at : Point
    pub l : Line
    pub d : Line
    pub ls : List Line
    pub split : placed p all ≡ above ++ placed at (l ∷ d ∷ ls)
    pub head : Head kind on l d
    pub same : f ≡ found_at kind on at l d ls

  -- one more line above
  under : {p : Point} {all : List Line} {f : Found} (l : Line) → HeadAt (onward p l) all f → HeadAt p (l ∷ all) f
  unfolding placed
  under {p} l h =
      record {
        above = starting p l ∷ h.above;
        at = h.at;
        l = h.l;
        d = h.d;
        ls = h.ls;
        split = ap (λ (z : List Placed). starting p l ∷ z) h.split;
        head = h.head;
        same = h.same;
      }

  mutual
    unfolding heads placed

    heads_headed : (p : Point) (all : List Line) (f : Found) → Memᴰ f (heads kind on (placed p all)) → HeadAt p all f
    heads_headed p [] f i = absurd (Memᴰ.not-nil i)
    heads_headed p (l ∷ []) f i = absurd (Memᴰ.not-nil i)
    heads_headed p (l ∷ d ∷ all) f i =
        by_cases (λ z. Memᴰ f z → HeadAt p (l ∷ d ∷ all) f) (opens kind on (starting p l) (starting (onward p l) d))
        (λ e k.
        ⊎_elim
        (λ q. record { above = []; at = p; l = l; d = d; ls = all; split = refl; head = opens-head kind on (starting p l) (starting (onward p l) d) e; same = q })
        (λ m. under l (under d (rows_headed (onward (onward p l) d) all f m))) (Memᴰ.cases_cons k))
        (λ e k. under l (heads_headed (onward p l) (d ∷ all) f k))
        i

    rows_headed : (p : Point) (all : List Line) (f : Found) → Memᴰ f (rows kind on (placed p all)) → HeadAt p all f
    rows_headed p [] f i = absurd (Memᴰ.not-nil i)
    rows_headed p (l ∷ all) f i =
        by_cases (λ z. Memᴰ f z → HeadAt p (l ∷ all) f) (closes kind l.body)
        (λ e k. under l (heads_headed (onward p l) all f k)) (λ e k. under l (rows_headed (onward p l) all f k)) i

  pub headed : (s : List ℕ) (f : Found) → Memᴰ f (tables kind on s) → HeadAt (first_point s) (lines (drop (first_start s) s)) f
  headed s f m = heads_headed (first_point s) (lines (drop (first_start s) s)) f m

-- Each line of a sheet is blank, or a remark, or prose, or of one table.
-- Assumes nothing.
use Prim.Native.Nat.{ℕ}
use mathlib.Core.Path.{◌≡◌, refl, ap, sym}
use mathlib.Core.List.{List, [], ◌∷◌, ◌++◌}
use mathlib.Core.Bool.{Bool, true, false, not}
use lib.Dec.{eqb}
use borrow.Author.Tests.{not-true}
use Rattle.tokenizer.specs.Lines.{blank}
use Rattle.tokenizer.specs.Places.{Placed, placed_lines}
use Rattle.gfm_table.specs.Heads.{head_refusal}
use Rattle.sheet.specs.Walk.{Found, remark, closes, opens, found, body_rows, heads, rows}
use Rattle.sheet.specs.Demands.{none_closes, closes_first, refused, Read, Walked}
use Rattle.sheet.proofs.Tests.{test, both_true}
use Rattle.sheet.proofs.Closing.{blank-closes, remark-closes, closes-remark}

module _ (kind : ℕ → ℕ) (on : Bool) where
  -- a body ends before a blank line or a remark
  body_rows-end : (k : Placed) (bs ls : List Placed) → none_closes kind bs ≡ true → closes_first kind ls ≡ true → body_rows kind k (bs ++ ls) ≡ body_rows kind k bs
  unfolding body_rows none_closes
  body_rows-end k [] [] h e = refl
  body_rows-end k [] (l ∷ ls) h e = rw e
  body_rows-end k (b ∷ bs) ls h e =
      let n = both_true (not (closes kind b.line.body)) _ h in
      rw (not-true (closes kind b.line.body) n.0, body_rows-end b bs ls n.1 e)

  rows_end : (bs ls : List Placed) → none_closes kind bs ≡ true → closes_first kind ls ≡ true → rows kind on (bs ++ ls) ≡ heads kind on ls
  unfolding heads none_closes
  rows_end [] [] h e = refl
  rows_end [] (l ∷ []) h e = rw e
  rows_end [] (l ∷ d ∷ ls) h e = rw e
  rows_end (b ∷ bs) ls h e =
      let n = both_true (not (closes kind b.line.body)) _ h in
      rw (not-true (closes kind b.line.body) n.0) (rows_end bs ls n.1 e)

  -- lines are read in one way
  heads_only : {ls : List Placed} {fs : List Found} → Read kind on ls fs → fs ≡ heads kind on ls
  unfolding heads
  heads_only Read.end = refl
  heads_only (Read.gap {ls = []} e r) = heads_only r
  heads_only (Read.gap {l = l} {ls = d ∷ ls} e r) = rw (blank-closes kind l.line.body e) (heads_only r)
  heads_only (Read.quoted {ls = []} e r) = heads_only r
  heads_only (Read.quoted {l = l} {ls = d ∷ ls} e r) = rw (remark-closes kind l.line.body e) (heads_only r)
  heads_only (Read.prose {ls = []} e f r) = heads_only r
  heads_only (Read.prose {l = l} {ls = d ∷ ls} e f r) = rw (e, not-true (eqb (head_refusal kind on false l.line d.line) 0) f) (heads_only r)
  heads_only (Read.table l d bs ls o h e r) =
      rw (o, body_rows-end d bs ls h e, rows_end bs ls h e) (ap (λ (z : List Found). found kind on l d bs ∷ z) (heads_only r))

  -- some lines in a body: those up to a blank one or a remark, and what is read from there on
  record Body (ls : List Placed) : Type 0 where
    bs : List Placed
    rest : List Placed
    split : ls ≡ bs ++ rest
    solid : none_closes kind bs ≡ true
    ends : closes_first kind rest ≡ true
    read : Read kind on rest (heads kind on rest)

  longer : {l : Placed} {ls : List Placed} → closes kind l.line.body ≡ false → Body ls → Body (l ∷ ls)
  unfolding none_closes
  longer {l} e b =
      record { bs = l ∷ b.bs; rest = b.rest; split = ap (λ (z : List Placed). l ∷ z) b.split; solid = rw (e, b.solid); ends = b.ends; read = b.read }

  gap-heads : {l : Placed} {ls : List Placed} → blank kind l.line.body ≡ true → Read kind on ls (heads kind on ls) → Read kind on (l ∷ ls) (heads kind on (l ∷ ls))
  gap-heads {l} {ls} e r = rw (sym (heads_only (Read.gap {l = l} e r))) (Read.gap e r)

  quoted-heads : {l : Placed} {ls : List Placed} → remark kind l.line.body ≡ true → Read kind on ls (heads kind on ls) → Read kind on (l ∷ ls) (heads kind on (l ∷ ls))
  quoted-heads {l} {ls} e r = rw (sym (heads_only (Read.quoted {l = l} e r))) (Read.quoted e r)

  -- the two lines that end a table
  closed-heads : {l : Placed} {ls : List Placed} → closes kind l.line.body ≡ true → Read kind on ls (heads kind on ls) → Read kind on (l ∷ ls) (heads kind on (l ∷ ls))
  closed-heads {l} e r = test (blank kind l.line.body) (λ f. gap-heads f r) (λ f. quoted-heads (closes-remark kind l.line.body e f) r)

  prose-heads : {l : Placed} {ls : List Placed} → closes kind l.line.body ≡ false → refused kind on l ls ≡ true → Read kind on ls (heads kind on ls)
      → Read kind on (l ∷ ls) (heads kind on (l ∷ ls))
  prose-heads {l} e f r = rw (sym (heads_only (Read.prose {l = l} e f r))) (Read.prose e f r)

  table-heads : {l d : Placed} {ls : List Placed} → opens kind on l d ≡ true → Body ls → Read kind on (l ∷ d ∷ ls) (heads kind on (l ∷ d ∷ ls))
  table-heads {l} {d} o b =
      let r = Read.table l d b.bs b.rest o b.solid b.ends b.read in
      rw (b.split, sym (heads_only r)) r

  mutual
    unfolding heads none_closes

    heads-read : (ls : List Placed) → Read kind on ls (heads kind on ls)
    heads-read [] = Read.end
    heads-read (l ∷ []) = test (closes kind l.line.body) (λ e. closed-heads e Read.end) (λ e. prose-heads e refl Read.end)
    heads-read (l ∷ d ∷ ls) =
        test (closes kind l.line.body) (λ e. closed-heads e (heads-read (d ∷ ls)))
        (λ e.
        test (eqb (head_refusal kind on false l.line d.line) 0) (λ f. table-heads (rw (e, f)) (body-read ls)) (λ f. prose-heads e (rw f) (heads-read (d ∷ ls))))

    body-read : (ls : List Placed) → Body ls
    body-read [] = record { bs = []; rest = []; split = refl; solid = refl; ends = refl; read = Read.end }
    body-read (l ∷ ls) =
        test (closes kind l.line.body)
        (λ e. record { bs = []; rest = l ∷ ls; split = refl; solid = refl; ends = e; read = closed-heads e (heads-read ls) })
        (λ e. longer e (body-read ls))

pub walked : (kind : ℕ → ℕ) → Walked kind
walked kind on s fs = (λ e. rw e (heads-read kind on (placed_lines s)), λ r. heads_only kind on r)

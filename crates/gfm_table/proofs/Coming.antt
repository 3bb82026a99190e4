-- The raw events that are still to come from a cursor, and what a step makes of them.
-- Assumes nothing.
use Prim.Native.Nat.{ℕ, zero, suc, ◌<◌}
use mathlib.Core.Path.{◌≡◌, refl, ap, sym, ◌∙◌}
use mathlib.Core.Bool.{Bool, true, false, cond}
use mathlib.Core.List.{List, [], ◌∷◌, ◌++◌}
use native.Mathlib.Omega.{arith}
use borrow.Author.Tests.{eqb-true, eqb-false}
use lib.Dec.{eqb}
use lib.ListN.{length, drop, get_or, length-drop}
use Rattle.tokenizer.specs.declared.event.Point.{Point}
use Rattle.tokenizer.specs.declared.event.Event.{Event}
use Rattle.tokenizer.specs.Bytes.{Reads}
use Rattle.tokenizer.specs.Points.{past, next_line}
use Rattle.tokenizer.specs.Events.{LineEnding, GfmTableHead, number, named, enter, leave}
use Rattle.tokenizer.specs.Slots.{slots_of}
use Rattle.tokenizer.specs.Lines.{end_at, indent}
use Rattle.tokenizer.specs.Moves.{ahead_of, rest_of, Inside}
use Rattle.tokenizer.proofs.Ahead.{Front, goes, ends, past-append, past-none}
use Rattle.tokenizer.proofs.Ends.{end_fits}
use Rattle.gfm_table.specs.declared.stream.Part.{Part}
use Rattle.gfm_table.specs.declared.stream.Part.TheVariants.{Head, Delimiter, Body}
use Rattle.gfm_table.specs.declared.stream.Cursor.{Cursor}
use Rattle.gfm_table.specs.declared.stream.Cursor.TheVariants.{Begin, Enter, Between, Entered, Ended, Broken}
use Rattle.gfm_table.specs.declared.stream.Stepped.{Stepped}
use Rattle.gfm_table.specs.Rows.{Piece, passed, all_both, row_pieces, delimiter_pieces}
use Rattle.gfm_table.specs.Stream.{name_of, pieces_of, over_at, step_of, gave, Good}
use Rattle.gfm_table.proofs.Machine as M
use Rattle.gfm_table.proofs.Fillers as F

module _ {kind : ℕ → ℕ} (ok : Reads kind) where
  -- no bytes have no pieces
  pub no_pieces : (t : Part) → pieces_of kind t [] ≡ []
  unfolding row_pieces delimiter_pieces
  no_pieces Head = refl
  no_pieces Delimiter = refl
  no_pieces Body = refl

-- ## The first piece at a point

module _ (kind : ℕ → ℕ) where
  pub record Piecing (s : List ℕ) (t : Part) (p : Point) (n : ℕ) (u : List ℕ) : Type 0 where
    pub pieces : (pieces_of kind) t (rest_of s p) ≡ record { name = n; text = u } ∷ pieces_of kind t (rest_of s (past p u))
    pub real : number (named n) ≡ n
    pub long : 0 < length u
    pub line : past (past p u) (rest_of s (past p u)) ≡ past p (rest_of s p)
    pub inside : Inside s (past p u)

  -- a row has ended at a point, or its next piece stands there
  pub data Next (s : List ℕ) (t : Part) (p : Point) : Type 0 where
    none : rest_of s p ≡ [] → Next s t p
    some : {n : ℕ} {u : List ℕ} → Piecing s t p n u → Next s t p

module _ {kind : ℕ → ℕ} (ok : Reads kind) (s : List ℕ) (p : Point) (h : Inside s p) where
  abbrev here : ℕ
  here = ahead_of kind (drop p.index s)

  same_line : (u : List ℕ) → rest_of s p ≡ u ++ rest_of s (past p u) → past (past p u) (rest_of s (past p u)) ≡ past p (rest_of s p)
  same_line u e = past-append p u (rest_of s (past p u)) ∙ ap (past p) (sym e)

  text : {n : ℕ} {u : List ℕ} → number (named n) ≡ n → M.First kind s p n u → Next kind s Body p
  text {n} {u} r f = some (record { pieces = f.pieces; real = r; long = f.some; line = same_line u f.line; inside = f.inside })

  mark : {n : ℕ} {u : List ℕ} → number (named n) ≡ n → F.First kind s p n u → Next kind s Delimiter p
  mark {n} {u} r f = some (record { pieces = f.pieces; real = r; long = f.some; line = same_line u f.line; inside = f.inside })

  -- at whitespace, and at a divider, the first piece is the same in every row
  pub first-space : (t : Part) → here ≡ 1 → pieces_of kind t (rest_of s p) ≡ record { name = 1; text = indent kind (rest_of s p) } ∷ pieces_of kind t (rest_of s (past p (indent kind (rest_of s p))))
  first-space t e = go t
    where
      f : Front kind s p.index here
      f = goes ok s p.index here refl (λ z. omega (arith, z, e))

      go : (t : Part) → pieces_of kind t (rest_of s p) ≡ record { name = 1; text = indent kind (rest_of s p) } ∷ pieces_of kind t (rest_of s (past p (indent kind (rest_of s p))))
      go Head = (M.first_space ok s p here f h e).pieces
      go Delimiter = (F.first_space ok s p here f h e).pieces
      go Body = (M.first_space ok s p here f h e).pieces

  pub first-divider : (t : Part) → here ≡ 3 → pieces_of kind t (rest_of s p) ≡ record { name = 10; text = get_or s p.index 0 ∷ [] } ∷ pieces_of kind t (rest_of s (past p (get_or s p.index 0 ∷ [])))
  first-divider t e = go t
    where
      f : Front kind s p.index here
      f = goes ok s p.index here refl (λ z. omega (arith, z, e))

      go : (t : Part) → pieces_of kind t (rest_of s p) ≡ record { name = 10; text = get_or s p.index 0 ∷ [] } ∷ pieces_of kind t (rest_of s (past p (get_or s p.index 0 ∷ [])))
      go Head = (M.first_divider ok s p here f h e).pieces
      go Delimiter = (F.first_divider ok s p here f h e).pieces
      go Body = (M.first_divider ok s p here f h e).pieces

  next-text : Next kind s Body p
  next-text = go (eqb here 2) (eqb here 1) (eqb here 3) refl refl refl
    where
      go : (a b c : Bool) → eqb here 2 ≡ a → eqb here 1 ≡ b → eqb here 3 ≡ c → Next kind s Body p
      go true b c e f g = none (ends ok (drop p.index s) (eqb-true here 2 e))
      go false true c e f g = text {n = 1} refl (M.first_space ok s p here (goes ok s p.index here refl (eqb-false here 2 e)) h (eqb-true here 1 f))
      go false false true e f g = text {n = 10} refl (M.first_divider ok s p here (goes ok s p.index here refl (eqb-false here 2 e)) h (eqb-true here 3 g))
      go false false false e f g =
          text {n = 3} refl (M.first_data ok s p h (M.data_ahead ok s p here (goes ok s p.index here refl (eqb-false here 2 e)) h (eqb-false here 1 f) (eqb-false here 3 g)))

  next-mark : Next kind s Delimiter p
  next-mark = go (eqb here 2) (eqb here 1) (eqb here 3) (eqb here 6) refl refl refl refl
    where
      go : (a b c d : Bool) → eqb here 2 ≡ a → eqb here 1 ≡ b → eqb here 3 ≡ c → eqb here 6 ≡ d → Next kind s Delimiter p
      go true b c d e f g i = none (ends ok (drop p.index s) (eqb-true here 2 e))
      go false true c d e f g i = mark {n = 1} refl (F.first_space ok s p here (goes ok s p.index here refl (eqb-false here 2 e)) h (eqb-true here 1 f))
      go false false true d e f g i = mark {n = 10} refl (F.first_divider ok s p here (goes ok s p.index here refl (eqb-false here 2 e)) h (eqb-true here 3 g))
      go false false false true e f g i = mark {n = 12} refl (F.first_marker ok s p here (goes ok s p.index here refl (eqb-false here 2 e)) h (eqb-true here 6 i))
      go false false false false e f g i =
          mark {n = 15} refl (F.first_filler ok s p here (goes ok s p.index here refl (eqb-false here 2 e)) h (eqb-false here 1 f) (eqb-false here 2 e) (eqb-false here 3 g) (eqb-false here 6 i))

  head-text : Next kind s Body p → Next kind s Head p
  head-text (none e) = none e
  head-text (some f) = some (record { pieces = f.pieces; real = f.real; long = f.long; line = f.line; inside = f.inside })

  pub next-piece : (t : Part) → Next kind s t p
  next-piece Head = head-text next-text
  next-piece Delimiter = next-mark
  next-piece Body = next-text

-- ## What comes

module _ (kind : ℕ → ℕ) where
  -- what is left of a row at a point, and a row from its entry on
  abbrev pub row_left : List ℕ → Part → Point → List Event
  row_left s t p = all_both (passed p (pieces_of kind t (rest_of s p))) ++ leave (name_of t) (past p (rest_of s p)) ∷ []

  abbrev pub row_from : List ℕ → Part → Point → List Event
  row_from s t p = enter (name_of t) p ∷ row_left s t p

module _ {kind : ℕ → ℕ} (ok : Reads kind) where
  -- rest tells what follows a head or a row that ends at a point
  module _ (s : List ℕ) (rest : Point → List Event) where
    -- after a delimiter row, and from one on
    abbrev pub head_left : Point → List Event
    head_left e = leave GfmTableHead e ∷ rest e

    abbrev pub delimited : Point → List Event
    delimited p = row_from kind s Delimiter p ++ head_left (past p (rest_of s p))

    -- after a head line, whose line end has n bytes
    abbrev pub broken : Point → ℕ → List Event
    broken e n = cond (eqb n 0) (rest e) (enter LineEnding e ∷ leave LineEnding (next_line e n) ∷ delimited (next_line e n))

    -- after a row
    abbrev pub follow : Part → Point → List Event
    follow Head e = broken e (end_at (drop e.index s))
    follow Delimiter e = head_left e
    follow Body e = rest e

    unfoldable pub coming : Cursor → List Event
    coming (Begin p) = enter GfmTableHead p ∷ row_from kind s Head p ++ follow Head (past p (rest_of s p))
    coming (Enter t p) = row_from kind s t p ++ follow t (past p (rest_of s p))
    coming (Between t p) = row_left kind s t p ++ follow t (past p (rest_of s p))
    coming (Entered t n p) = leave n p ∷ row_left kind s t p ++ follow t (past p (rest_of s p))
    coming (Ended t e) = follow t e
    coming (Broken t p) = leave LineEnding p ∷ row_from kind s t p ++ follow t (past p (rest_of s p))

    -- ## Steps

    -- a step gives the next event, or nothing more comes but the rest from a point on
    pub data Steps (c : Cursor) (r : Stepped) : Type 0 where
      gives : coming c ≡ r.event ∷ coming r.next → (r.event.kind ≡ 0 → ⊥) → Good s r.next → Steps c r
      over : {p : Point} → coming c ≡ rest p → r ≡ over_at p → Steps c r

    module _ (t : Part) (p : Point) (h : Inside s p) where
      -- where nothing is left, the row ends at the point
      row_over : rest_of s p ≡ [] → Steps (Between t p) (step_of kind s (Between t p))
      unfolding coming all_both passed
      row_over e =
          let n : (pieces_of kind) t (rest_of s p) ≡ [] = ap (pieces_of kind t) e ∙ no_pieces ok t in
          let q : past p (rest_of s p) ≡ p = ap (past p) e ∙ past-none p h.flat in
          rw n
          (gives
          (ap (λ (xs : List Piece). (all_both (passed p xs) ++ leave (name_of t) (past p (rest_of s p)) ∷ []) ++ follow t (past p (rest_of s p))) n
          ∙ ap (λ (e : Point). leave (name_of t) e ∷ follow t e) q)
          (λ z. omega (arith, z)) (ended t))
        where
          ended : (t : Part) → Good s (Ended t p)
          ended Head = h
          ended Delimiter = omega arith
          ended Body = omega arith

      row_on : {n : ℕ} {u : List ℕ} → Piecing kind s t p n u → Steps (Between t p) (step_of kind s (Between t p))
      unfolding coming all_both passed
      row_on {n} {u} f =
          let q = past p u in
          rw f.pieces
          (gives
          (ap (λ (xs : List Piece). (all_both (passed p xs) ++ leave (name_of t) (past p (rest_of s p)) ∷ []) ++ follow t (past p (rest_of s p))) f.pieces
          ∙ ap (λ (e : Point). enter n p ∷ leave n q ∷ (all_both (passed q (pieces_of kind t (rest_of s q))) ++ leave (name_of t) e ∷ []) ++ follow t e) (sym f.line)
          ∙ ap (λ (m : ℕ). enter m p ∷ leave m q ∷ (all_both (passed q (pieces_of kind t (rest_of s q))) ++ leave (name_of t) (past q (rest_of s q)) ∷ []) ++ follow t (past q (rest_of s q))) (sym f.real))
          (λ z. omega (arith, z)) f.inside)

      between : Steps (Between t p) (step_of kind s (Between t p))
      between = go (next-piece ok s p h t)
        where
          go : (Next kind) s t p → Steps (Between t p) (step_of kind s (Between t p))
          go (none e) = row_over e
          go (some f) = row_on f

    -- the next line starts in the sheet
    pub next-inside : (p : Point) → Inside s p → (end_at (drop p.index s) ≡ 0 → ⊥) → Inside s (next_line p (end_at (drop p.index s)))
    next-inside p h z =
        let l = (end_fits (drop p.index s)).0 in
        record { short = h.short; within = omega (arith, h.within, length-drop p.index s); narrow = omega arith; lined = omega (arith, h.lined); flat = refl }

    breaks : (p : Point) → Inside s p → Steps (Ended Head p) (step_of kind s (Ended Head p))
    unfolding coming
    breaks p h = go (eqb (end_at (drop p.index s)) 0) refl
      where
        go : (t : Bool) → eqb (end_at (drop p.index s)) 0 ≡ t → Steps (Ended Head p) (step_of kind s (Ended Head p))
        go true e = rw e (over {p = p} (rw e) refl)
        go false e = rw e (gives (rw e) (λ z. omega (arith, z)) (next-inside p h (eqb-false (end_at (drop p.index s)) 0 e)))

    pub steps : (c : Cursor) → Good s c → Steps c (step_of kind s c)
    unfolding coming
    steps (Begin p) h = gives refl (λ z. omega (arith, z)) h
    steps (Enter t p) h = gives refl (λ z. omega (arith, z)) h
    steps (Between t p) h = between t p h
    steps (Entered t n p) h = gives refl (λ z. omega (arith, z)) h
    steps (Ended Head p) h = breaks p h
    steps (Ended Delimiter p) h = gives refl (λ z. omega (arith, z)) (omega arith)
    steps (Ended Body p) h = over {p = p} refl refl
    steps (Broken t p) h = gives refl (λ z. omega (arith, z)) h

    -- a step keeps a cursor good
    pub good-next : (c : Cursor) → Good s c → Good s (step_of kind s c).next
    good-next c h = go (steps c h)
      where
        go : Steps c (step_of kind s c) → Good s (step_of kind s c).next
        go (gives e k g) = g
        go (over e r) = rw r (omega arith)

  -- ## Slots

  -- the slots that steps fill hold the events that come, and then blank ones
  pub gave_slots : (s : List ℕ) (n : ℕ) (c : Cursor) → Good s c → gave kind s n c ≡ slots_of n (coming s (λ e. []) c)
  unfolding gave slots_of coming
  gave_slots s zero c h = refl
  gave_slots s (suc n) c h = go (steps s (λ e. []) c h) (gave_slots s n (step_of kind s c).next (good-next s (λ e. []) c h))
    where
      go : Steps s (λ e. []) c (step_of kind s c) → gave kind s n (step_of kind s c).next ≡ slots_of n (coming s (λ e. []) (step_of kind s c).next) → gave kind s (suc n) c ≡ slots_of (suc n) (coming s (λ e. []) c)
      go (gives e k g) i = rw e (ap (λ (l : List Event). (step_of kind s c).event ∷ l) i)
      go (over e r) i = rw e (ap (λ (l : List Event). (step_of kind s c).event ∷ l) i ∙ rw r)

-- How many events heads and rows have, and what the questions make of them.
-- Assumes nothing.
use Prim.Native.Nat.{ℕ, suc, ◌+◌, ◌*◌, ◌≤◌, ◌<◌}
use mathlib.Core.Path.{◌≡◌, refl, ap, sym, ◌∙◌}
use mathlib.Core.Bool.{Bool, true, false, cond, ◌&&◌, true≢false}
use mathlib.Core.List.{List, [], ◌∷◌, ◌++◌, append-nil}
use native.Mathlib.Omega.{arith}
use borrow.Author.Tests.{eq-eqb, ne_eqb, eqb-true, eqb-false, ltb-true, ltb-false, lt-ltb, le-ltb}
use lib.Dec.{eqb, ltb}
use lib.ListN.{length, length-append}
use Rattle.tokenizer.specs.declared.event.Point.{Point}
use Rattle.tokenizer.specs.declared.event.Event.{Event}
use Rattle.tokenizer.specs.Bytes.{Reads}
use Rattle.tokenizer.specs.Points.{past, next_line}
use Rattle.tokenizer.specs.Events.{LineEnding, GfmTableHead, enter, leave}
use Rattle.tokenizer.specs.Slots.{slots_of}
use Rattle.tokenizer.specs.Lines.{Line, starts_line, blank}
use Rattle.tokenizer.specs.Moves.{rest_of, line_at, after, Inside}
use Rattle.tokenizer.proofs.Starts.{starts_far, ends-few}
use Rattle.tokenizer.proofs.Ends.{body-inside, end-past}
use Rattle.gfm_table.specs.declared.stream.Part.TheVariants.{Head, Body}
use Rattle.gfm_table.specs.declared.stream.Cursor.TheVariants.{Begin, Enter}
use Rattle.gfm_table.specs.Rows.{Piece, joins, on_pieces, row_name, odd_after, row_pieces, delimiter_name, delimiter_pieces, passed, all_both, raw_row}
use Rattle.gfm_table.specs.Heads.{head_refusal}
use Rattle.gfm_table.specs.Raw.{row_at, head_events}
use Rattle.gfm_table.specs.Stream.{gave, Good}
use Rattle.gfm_table.proofs.Answers.{refused_end}
use Rattle.gfm_table.proofs.Coming.{row_from, broken, delimited, coming, gave_slots}
use Rattle.gfm_table.specs.Calls.{place_refusal, slot_refusal, or_else, point_at, head_events_at, head_number, head_slots, row_events_at, row_number, row_slots}

-- ## Few pieces

on_few : (n b : ℕ) (ps : List Piece) → length (on_pieces n b ps) ≤ suc (length ps)
on_few n b [] = omega arith
on_few n b (p ∷ ps) = go (joins n && eqb n p.name)
  where
    go : (t : Bool) → length (cond t (record { name = n; text = b ∷ p.text } ∷ ps) (record { name = n; text = b ∷ [] } ∷ p ∷ ps)) ≤ suc (suc (length ps))
    go true = omega arith
    go false = omega arith

module _ (kind : ℕ → ℕ) where
  pub row-few : (odd : Bool) (u : List ℕ) → length (row_pieces kind odd u) ≤ length u
  unfolding row_pieces
  row-few odd [] = omega arith
  row-few odd (b ∷ u) = let h = row-few (odd_after kind odd b) u in omega (arith, on_few (row_name kind odd b) b (row_pieces kind (odd_after kind odd b) u))

  pub delimiter-few : (u : List ℕ) → length (delimiter_pieces kind u) ≤ length u
  unfolding delimiter_pieces
  delimiter-few [] = omega arith
  delimiter-few (b ∷ u) = let h = delimiter-few u in omega (arith, on_few (delimiter_name kind b) b (delimiter_pieces kind u))

-- what is left of a line is no longer than the sheet
pub rest-few : (s : List ℕ) (p : Point) → Inside s p → length (rest_of s p) ≤ 65536
rest-few s p h = let i = body-inside s p h in omega (arith, i.within, i.short)

-- ## How many events

passed_length : (p : Point) (xs : List Piece) → length (all_both (passed p xs)) ≡ 2 * length xs
unfolding passed all_both
passed_length p [] = refl
passed_length p (x ∷ xs) = let h = passed_length (past p x.text) xs in omega arith

pub row-length : (n : ℕ) (pieces : List ℕ → List Piece) (p : Point) (u : List ℕ) → length (raw_row (row_at n pieces p u)) ≡ 2 * length (pieces u) + 2
row-length n pieces p u = simp length-append (let h = passed_length p (pieces u) in omega arith)

pub head-length : (kind : ℕ → ℕ) (p : Point) (l d : Line) → length (head_events kind p l d) ≡ 2 * (length (row_pieces kind false l.body) + length (delimiter_pieces kind d.body)) + 8
head-length kind p l d =
    let q = next_line (past p l.body) l.end in
    simp length-append
    (let h = passed_length p (row_pieces kind false l.body) in let g = passed_length q (delimiter_pieces kind d.body) in omega arith)

-- ## The place

module _ (s : List ℕ) (i : ℕ) where
  place_short : place_refusal s i ≡ 0 → length s ≤ 65536
  place_short e = go (ltb 65536 (length s)) refl e
    where
      go : (t : Bool) → ltb 65536 (length s) ≡ t → ◌≡◌ {A = ℕ} (cond t 1 (cond (starts_line s i) 0 2)) 0 → length s ≤ 65536
      go true f e = absurd (omega arith)
      go false f e = ltb-false 65536 (length s) f

  place-starts : place_refusal s i ≡ 0 → starts_line s i ≡ true
  place-starts e = go (ltb 65536 (length s)) (starts_line s i) e
    where
      go : (t v : Bool) → ◌≡◌ {A = ℕ} (cond t 1 (cond v 0 2)) 0 → v ≡ true
      go true v e = absurd (omega arith)
      go false true e = refl
      go false false e = absurd (omega arith)

  place-within : place_refusal s i ≡ 0 → i ≤ length s
  place-within e = go (ltb (length s) i) refl
    where
      go : (t : Bool) → ltb (length s) i ≡ t → i ≤ length s
      go true f = absurd (true≢false (sym (place-starts e) ∙ starts_far s i (ltb-true (length s) i f)))
      go false f = ltb-false (length s) i f

  pub place_inside : place_refusal s i ≡ 0 → Inside s (point_at s i)
  place_inside e =
      record { short = place_short e; within = place-within e; narrow = omega arith; lined = omega (arith, ends-few i s); flat = refl }

-- ## The slots

pub slots-short : (n m : ℕ) (xs : List Event) → m ≡ length xs → n < m → slot_refusal n xs ≡ 9
slots-short n m xs e l = rw (← e, lt-ltb n m l)

pub slots-enough : (n m : ℕ) (xs : List Event) → m ≡ length xs → m ≤ n → slot_refusal n xs ≡ 0
slots-enough n m xs e l = rw (← e, le-ltb n m l)

-- ## Heads

module _ (kind : ℕ → ℕ) (s : List ℕ) (i : ℕ) (on stray : Bool) (n : ℕ) where
  abbrev p : Point
  p = point_at s i

  abbrev no : ℕ
  no = head_refusal kind on stray (line_at s p) (line_at s (after s p))

  -- the number that refuses it: that of the place, else that of the lines, else that of the slots
  pub head-place : (place_refusal s i ≡ 0 → ⊥) → head_number kind s i on stray n ≡ place_refusal s i
  head-place z = rw (ne_eqb (place_refusal s i) 0 z)

  pub head-lines : place_refusal s i ≡ 0 → (no ≡ 0 → ⊥) → head_number kind s i on stray n ≡ no
  head-lines e z = rw (eq-eqb (place_refusal s i) 0 e, ne_eqb no 0 z)

  pub head-slots : place_refusal s i ≡ 0 → no ≡ 0 → head_number kind s i on stray n ≡ slot_refusal n (head_events_at kind s p)
  head-slots e z = rw (eq-eqb (place_refusal s i) 0 e, eq-eqb no 0 z)

-- ## Rows

module _ (kind : ℕ → ℕ) (s : List ℕ) (i : ℕ) (lazy : Bool) (n : ℕ) where
  abbrev at : Point
  at = point_at s i

  pub row-place : (place_refusal s i ≡ 0 → ⊥) → row_number kind s i lazy n ≡ place_refusal s i
  row-place z = rw (ne_eqb (place_refusal s i) 0 z)

  pub row_lazy : place_refusal s i ≡ 0 → lazy ≡ true → row_number kind s i lazy n ≡ 5
  row_lazy e f = rw (eq-eqb (place_refusal s i) 0 e, f)

  pub row-blank : place_refusal s i ≡ 0 → lazy ≡ false → blank kind (rest_of s at) ≡ true → row_number kind s i lazy n ≡ 8
  row-blank e f g = rw (eq-eqb (place_refusal s i) 0 e, f, g)

  pub row-slots : place_refusal s i ≡ 0 → lazy ≡ false → blank kind (rest_of s at) ≡ false → row_number kind s i lazy n ≡ slot_refusal n (row_events_at kind s at)
  row-slots e f g = rw (eq-eqb (place_refusal s i) 0 e, f, g)

-- ## Slots

or_zero : (a b : ℕ) → or_else a b ≡ 0 → (a ≡ 0) × (b ≡ 0)
or_zero a b e = go (eqb a 0) refl e
  where
    go : (t : Bool) → eqb a 0 ≡ t → cond t b a ≡ 0 → (a ≡ 0) × (b ≡ 0)
    go true f e = (eqb-true a 0 f, e)
    go false f e = absurd (eqb-false a 0 f e)

module _ {kind : ℕ → ℕ} (ok : Reads kind) where
  -- what comes from the start of a head whose line has a line end
  coming-head : (s : List ℕ) (p : Point) → ((line_at s p).end ≡ 0 → ⊥) → coming ok s (λ e. []) (Begin p) ≡ head_events_at kind s p
  unfolding coming
  coming-head s p z =
      let e = past p (rest_of s p) in
      ap (λ (m : ℕ). enter GfmTableHead p ∷ row_from kind s Head p ++ broken ok s (λ e. []) e m) (end-past s p)
      ∙ ap (λ (t : Bool). enter GfmTableHead p ∷ row_from kind s Head p ++ cond t [] (enter LineEnding e ∷ leave LineEnding (after s p) ∷ delimited ok s (λ e. []) (after s p))) (ne_eqb (line_at s p).end 0 z)

  coming-row : (s : List ℕ) (p : Point) → coming ok s (λ e. []) (Enter Body p) ≡ row_events_at kind s p
  unfolding coming
  coming-row s p = append-nil (row_events_at kind s p)

  module _ (s : List ℕ) (i : ℕ) (on stray : Bool) (n : ℕ) where
    -- the cursor of a head that is accepted is good, and gives the slots
    pub head-good : head_number kind s i on stray n ≡ 0 → Good s (Begin (point_at s i))
    head-good e = place_inside s i (or_zero _ _ e).0

    pub head_gives : head_number kind s i on stray n ≡ 0 → gave kind s n (Begin (point_at s i)) ≡ head_slots kind s i on stray n
    head_gives e =
        let q = point_at s i in
        let m = slot_refusal n (head_events_at kind s q) in
        let r = head_refusal kind on stray (line_at s q) (line_at s (after s q)) in
        let z : r ≡ 0 = (or_zero r m (or_zero (place_refusal s i) (or_else r m) e).1).0 in
        gave_slots ok s n (Begin q) (head-good e)
        ∙ ap (slots_of n) (coming-head s q (refused_end ok on stray (line_at s q) (line_at s (after s q)) z))
        ∙ ap (λ (t : Bool). slots_of n (cond t (head_events_at kind s q) [])) (sym (eq-eqb _ 0 e))

    -- the slots of one that is refused are blank
    pub head_blanks : (head_number kind s i on stray n ≡ 0 → ⊥) → slots_of n [] ≡ head_slots kind s i on stray n
    head_blanks z = rw (ne_eqb (head_number kind s i on stray n) 0 z)

  module _ (s : List ℕ) (i : ℕ) (lazy : Bool) (n : ℕ) where
    pub row-good : row_number kind s i lazy n ≡ 0 → Good s (Enter Body (point_at s i))
    row-good e = place_inside s i (or_zero _ _ e).0

    pub row_gives : row_number kind s i lazy n ≡ 0 → gave kind s n (Enter Body (point_at s i)) ≡ row_slots kind s i lazy n
    row_gives e =
        let q = point_at s i in
        gave_slots ok s n (Enter Body q) (row-good e)
        ∙ ap (slots_of n) (coming-row s q)
        ∙ ap (λ (t : Bool). slots_of n (cond t (row_events_at kind s q) [])) (sym (eq-eqb _ 0 e))

    pub row_blanks : (row_number kind s i lazy n ≡ 0 → ⊥) → slots_of n [] ≡ row_slots kind s i lazy n
    row_blanks z = rw (ne_eqb (row_number kind s i lazy n) 0 z)

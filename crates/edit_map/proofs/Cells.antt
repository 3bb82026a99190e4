-- The events of a row's cells, piece by piece.
-- Assumes nothing.
use Prim.Native.Nat.{ℕ, ◌+◌, ◌*◌, ◌≤◌}
use mathlib.Core.Path.{◌≡◌, refl, sym, ap, ◌∙◌}
use mathlib.Core.List.{List, [], ◌∷◌, ◌++◌, append_assoc}
use mathlib.Core.Bool.{Bool, true, false, cond, ◌||◌, ◌&&◌, not, true≢false}
use lib.ListN.{length, length-append}
use native.Mathlib.Omega.{arith}
use borrow.Author.Tests.{eqb-true}
use Rattle.tokenizer.specs.declared.event.Point.{Point}
use Rattle.tokenizer.specs.declared.event.Event.{Event}
use Rattle.tokenizer.specs.Events.{Data, GfmTableCellDivider, GfmTableCellText, GfmTableDelimiterCellValue, GfmTableDelimiterFiller, GfmTableDelimiterMarker, SpaceOrTab, enter, leave, linked, point_of}
use Rattle.tokenizer.specs.Slots.{event_if}
use Rattle.gfm_table.specs.Rows.{Passed, all_both}
use Rattle.edit_map.specs.Tables.{named, is_text, is_solid, any_solid, any_text, cells, first_cell, other_cells, before, last_text, after_text, upto_text, row_inner, delimiter_inner, first_point, boundary, cell_events}
use Rattle.edit_map.specs.Cells.{text_ahead, later, last_ahead, from_within, tail, value_left, marked, marks_inner, tail_marks, opens_cell, row_turn, mark_turn}
use Rattle.edit_map.proofs.Parse.{no_nil}
use Rattle.edit_map.proofs.Gives.{Tests, Sort, space, divider, text, Fine, AllFine, some-cell, cell, is_ahead, goes_on_lem, last-is, value_cells, and_none, none_and}
use Rattle.edit_order.proofs.Bools.{both_true, and_false, and_true, or_false, or_true, or_none}

-- ## The names of pieces

a_space : (x : Passed) → x.entry.name ≡ SpaceOrTab → Tests false true false false x.entry.name
a_space x e = rw e (record { row = refl; space = refl; divider = refl; text = refl })

a_divider : (x : Passed) → x.entry.name ≡ GfmTableCellDivider → Tests false false true false x.entry.name
a_divider x e = rw e (record { row = refl; space = refl; divider = refl; text = refl })

pub a_text : (x : Passed) → x.entry.name ≡ Data → Tests false false false true x.entry.name
a_text x e = rw e (record { row = refl; space = refl; divider = refl; text = refl })

pub a_marker : (x : Passed) → x.entry.name ≡ GfmTableDelimiterMarker → Tests false false false true x.entry.name
a_marker x e = rw e (record { row = refl; space = refl; divider = refl; text = refl })

pub a_filler : (x : Passed) → x.entry.name ≡ GfmTableDelimiterFiller → Tests false false false true x.entry.name
a_filler x e = rw e (record { row = refl; space = refl; divider = refl; text = refl })

-- ## Rows of any kind

module _ (n : ℕ) (inner : List Passed → List Event) (p : Point) where
  -- the first cell is entered at the first piece, or at the row's end
  first-point : (xs : List Passed) → first_point (first_cell (cells false xs)) p ≡ first_point xs p
  unfolding cells
  first-point [] = refl
  first-point (x ∷ xs) = refl

  pub enters : (xs : List Passed) → cell_events n inner p (cells false xs) ≡ enter n (first_point xs p) ∷ tail n inner p false xs
  unfolding cell_events
  enters xs = ap (cell_events n inner p) (some-cell false xs) ∙ ap (λ (q : Point). enter n q ∷ tail n inner p false xs) (first-point xs)

  module _ (within : List Passed → List Event) where
    abbrev at : Bool → List Passed → List Event
    at seen xs = from_within within n inner p (cells seen xs)

    -- the row ends
    ends : (seen : Bool) → within [] ≡ [] → at seen [] ≡ leave n p ∷ []
    unfolding cells cell_events
    ends seen e = rw e

    -- a piece that neither opens a cell nor a value
    copies : (x : Passed) (xs : List Passed) (seen : Bool) → seen && (named GfmTableCellDivider x && any_solid xs) ≡ false → ((c : List Passed) → within (x ∷ c) ≡ x.entry ∷ x.exit ∷ within c) → at seen (x ∷ xs) ≡ x.entry ∷ x.exit ∷ at (seen || is_solid x) xs
    unfolding cells
    copies x xs seen d w = rw (d, w (first_cell (cells (seen || is_solid x) xs)))

    -- a divider that opens a cell
    opens : (x : Passed) (xs : List Passed) → named GfmTableCellDivider x ≡ true → any_solid xs ≡ true → within [] ≡ [] → ((c : List Passed) → inner (x ∷ c) ≡ x.entry ∷ x.exit ∷ inner c)
        → at true (x ∷ xs) ≡ leave n (point_of x.entry) ∷ enter n (point_of x.entry) ∷ x.entry ∷ x.exit ∷ tail n inner p true xs
    unfolding cells cell_events
    opens x xs d s e w = rw (d, s, e, w (first_cell (cells true xs)))

-- ## Head lines and body rows

row_plain : (x : Passed) → is_text x ≡ false → (c : List Passed) → row_inner (x ∷ c) ≡ x.entry ∷ x.exit ∷ row_inner c
unfolding row_inner
row_plain x t c = rw t

row-none : row_inner [] ≡ []
unfolding row_inner
row-none = refl

row-text : (x : Passed) → is_text x ≡ true → (c : List Passed) → row_inner (x ∷ c) ≡ enter GfmTableCellText (point_of x.entry) ∷ linked x.entry ∷ (last_text x c).exit ∷ leave GfmTableCellText (point_of (last_text x c).exit) ∷ all_both (after_text c)
unfolding row_inner
row-text x t c = rw t

-- no text stands behind the last one
after_none : (c : List Passed) → any_text (after_text c) ≡ false
unfolding after_text any_text
after_none [] = refl
after_none (x ∷ xs) = go (is_text x || any_text xs) refl (after_none xs)
  where
    go : (b : Bool) → is_text x || any_text xs ≡ b → any_text (after_text xs) ≡ false → any_text (cond b (after_text xs) (x ∷ xs)) ≡ false
    go true e ih = ih
    go false e ih = e

-- pieces without a text are copied
row_copied : (c : List Passed) → any_text c ≡ false → row_inner c ≡ all_both c
unfolding row_inner any_text all_both
row_copied [] e = refl
row_copied (x ∷ xs) e = let h = or_none (is_text x) (any_text xs) e in rw (h.0, row_copied xs h.1)

module _ (n : ℕ) (p : Point) where
  pub row_ends : (seen : Bool) → tail n row_inner p seen [] ≡ leave n p ∷ []
  row_ends seen = ends n row_inner p row_inner seen row-none

  pub row_space : (x : Passed) (xs : List Passed) (seen : Bool) → x.entry.name ≡ SpaceOrTab → tail n row_inner p seen (x ∷ xs) ≡ x.entry ∷ x.exit ∷ tail n row_inner p seen xs
  row_space x xs seen e =
      let q = a_space x e in
      copies n row_inner p row_inner x xs seen (and_none seen (none_and (any_solid xs) q.divider)) (row_plain x q.text) ∙ rw (q.space, or_false seen)

  pub row_opens : (x : Passed) (xs : List Passed) → x.entry.name ≡ GfmTableCellDivider → any_solid xs ≡ true → tail n row_inner p true (x ∷ xs) ≡ leave n (point_of x.entry) ∷ enter n (point_of x.entry) ∷ x.entry ∷ x.exit ∷ tail n row_inner p true xs
  row_opens x xs e s = let q = a_divider x e in opens n row_inner p row_inner x xs q.divider s row-none (row_plain x q.text)

  pub row_divider : (x : Passed) (xs : List Passed) (seen : Bool) → x.entry.name ≡ GfmTableCellDivider → seen && any_solid xs ≡ false → tail n row_inner p seen (x ∷ xs) ≡ x.entry ∷ x.exit ∷ tail n row_inner p true xs
  row_divider x xs seen e s =
      let q = a_divider x e in
      copies n row_inner p row_inner x xs seen (rw q.divider s) (row_plain x q.text) ∙ rw (q.space, or_true seen)

  -- a text takes with it all up to the last text before the first divider
  pub row_data : (x : Passed) {xs : List Passed} (seen : Bool) → Tests false false false true x.entry.name → AllFine xs
      → tail n row_inner p seen (x ∷ xs) ≡ enter GfmTableCellText (point_of x.entry) ∷ linked x.entry ∷ (last_ahead x xs).exit ∷ leave GfmTableCellText (point_of (last_ahead x xs).exit) ∷ tail n row_inner p true (later xs)
  row_data x {xs} seen q g =
      rw (value_cells x xs seen q, row-text x q.text (cell xs), last-is x g, goes_on_lem g, row_copied (after_text (cell xs)) (after_none (cell xs)))

-- ## Delimiter rows

-- pieces without a mark are copied
marked_copied : (c : List Passed) → any_text c ≡ false → marked c ≡ all_both c
unfolding marked any_text all_both
marked_copied [] e = refl
marked_copied (x ∷ xs) e = let h = or_none (is_text x) (any_text xs) e in rw (h.0, marked_copied xs h.1)

-- a value from behind a mark on
value_marked : (x : Passed) (c : List Passed) → all_both (upto_text c) ++ leave GfmTableDelimiterCellValue (point_of (last_text x c).exit) ∷ all_both (after_text c) ≡ value_left (not (any_text c)) x ++ marked c
unfolding all_both upto_text last_text after_text any_text marked
value_marked x [] = refl
value_marked x (y ∷ ys) = go (is_text y) (any_text ys) refl refl (value_marked y ys)
  where
    go : (t m : Bool) → is_text y ≡ t → any_text ys ≡ m → all_both (upto_text ys) ++ leave GfmTableDelimiterCellValue (point_of (last_text y ys).exit) ∷ all_both (after_text ys) ≡ value_left (not m) y ++ marked ys
        → all_both (cond (t || m) (y ∷ upto_text ys) []) ++ leave GfmTableDelimiterCellValue (point_of (cond (t || m) (last_text y ys) x).exit) ∷ all_both (cond (t || m) (after_text ys) (y ∷ ys))
        ≡ value_left (not (t || m)) x ++ (y.entry ∷ y.exit ∷ value_left (t && not m) y ++ marked ys)
    go true true e f ih = ap (λ (l : List Event). y.entry ∷ y.exit ∷ l) ih
    go true false e f ih = ap (λ (l : List Event). y.entry ∷ y.exit ∷ l) ih
    go false true e f ih = ap (λ (l : List Event). y.entry ∷ y.exit ∷ l) ih
    go false false e f ih = rw (marked_copied ys f)

marks-none : (w : Bool) → marks_inner w [] ≡ []
unfolding delimiter_inner marked
marks-none true = refl
marks-none false = refl

marks-plain : (w : Bool) (x : Passed) → is_text x ≡ false → (c : List Passed) → marks_inner w (x ∷ c) ≡ x.entry ∷ x.exit ∷ marks_inner w c
unfolding delimiter_inner marked
marks-plain true x t c = rw t
marks-plain false x t c = rw t

-- a value is entered before a mark
abbrev value_entered : Bool → Passed → List Event
value_entered begins x = event_if begins (enter GfmTableDelimiterCellValue (point_of x.entry))

marks-mark : (w : Bool) (x : Passed) → is_text x ≡ true → (c : List Passed) → marks_inner w (x ∷ c) ≡ value_entered w x ++ (x.entry ∷ x.exit ∷ value_left (not (any_text c)) x ++ marked c)
unfolding delimiter_inner marked all_both
marks-mark true x t c = rw t (ap (λ (l : List Event). enter GfmTableDelimiterCellValue (point_of x.entry) ∷ x.entry ∷ x.exit ∷ l) (value_marked x c))
marks-mark false x t c = rw t

around : (x : Passed) (a b c d : List Event) → (a ++ (x.entry ∷ x.exit ∷ b ++ c)) ++ d ≡ a ++ (x.entry ∷ x.exit ∷ b ++ (c ++ d))
around x a b c d = append_assoc a (x.entry ∷ x.exit ∷ b ++ c) d ∙ ap (λ (l : List Event). a ++ (x.entry ∷ x.exit ∷ l)) (append_assoc b c d)

module _ (n : ℕ) (p : Point) (w : Bool) where
  pub marks-end : (seen : Bool) → tail_marks n p w seen [] ≡ leave n p ∷ []
  marks-end seen = ends n delimiter_inner p (marks_inner w) seen (marks-none w)

  pub marks_space : (x : Passed) (xs : List Passed) (seen : Bool) → x.entry.name ≡ SpaceOrTab → tail_marks n p w seen (x ∷ xs) ≡ x.entry ∷ x.exit ∷ tail_marks n p w seen xs
  marks_space x xs seen e =
      let q = a_space x e in
      copies n delimiter_inner p (marks_inner w) x xs seen (and_none seen (none_and (any_solid xs) q.divider)) (marks-plain w x q.text) ∙ rw (q.space, or_false seen)

  pub marks_open : (x : Passed) (xs : List Passed) → x.entry.name ≡ GfmTableCellDivider → any_solid xs ≡ true → tail_marks n p w true (x ∷ xs) ≡ leave n (point_of x.entry) ∷ enter n (point_of x.entry) ∷ x.entry ∷ x.exit ∷ tail_marks n p true true xs
  marks_open x xs e s = let q = a_divider x e in opens n delimiter_inner p (marks_inner w) x xs q.divider s (marks-none w) (marks-plain true x q.text)

  pub marks_divider : (x : Passed) (xs : List Passed) (seen : Bool) → x.entry.name ≡ GfmTableCellDivider → seen && any_solid xs ≡ false → tail_marks n p w seen (x ∷ xs) ≡ x.entry ∷ x.exit ∷ tail_marks n p w true xs
  marks_divider x xs seen e s =
      let q = a_divider x e in
      copies n delimiter_inner p (marks_inner w) x xs seen (rw q.divider s) (marks-plain w x q.text) ∙ rw (q.space, or_true seen)

  -- a mark enters the value if none came before, and leaves it if none comes before the first divider
  pub marks-next : (x : Passed) {xs : List Passed} (seen : Bool) → Tests false false false true x.entry.name → AllFine xs
      → tail_marks n p w seen (x ∷ xs) ≡ value_entered w x ++ (x.entry ∷ x.exit ∷ value_left (not (text_ahead xs)) x ++ tail_marks n p false true xs)
  marks-next x {xs} seen q g = rw (value_cells x xs seen q, marks-mark w x q.text (cell xs), is_ahead g) (around x (value_entered w x) (value_left (not (text_ahead xs)) x) (marked (cell xs)) _)

-- ## One piece at a time

-- what is left behind a piece of a head line or a body row
abbrev pub row_rest : Passed → List Passed → List Passed
row_rest x xs = cond (is_text x) (later xs) xs

-- the piece that a piece of a head line or a body row goes on to
abbrev pub row_last : Passed → List Passed → Passed
row_last x xs = cond (is_text x) (last_ahead x xs) x

module _ (n : ℕ) (p : Point) {x : Passed} {xs : List Passed} (f : Fine x) (g : AllFine xs) where
  pub row-turn : (seen : Bool) → tail n row_inner p seen (x ∷ xs) ≡ row_turn n (opens_cell seen x xs) (is_text x) x.entry (row_last x xs).exit ++ tail n row_inner p (seen || is_solid x) (row_rest x xs)
  row-turn seen = go f.sort
    where
      Turns : Bool → Type 0
      Turns b = tail n row_inner p b (x ∷ xs) ≡ row_turn n (opens_cell b x xs) (is_text x) x.entry (row_last x xs).exit ++ tail n row_inner p (b || is_solid x) (row_rest x xs)

      divides : Tests false false true false x.entry.name → (b c : Bool) → any_solid xs ≡ c → Turns b
      divides q true true s = row_opens n p x xs (eqb-true _ _ q.divider) s ∙ rw (q.divider, q.text, s)
      divides q true false s = row_divider n p x xs true (eqb-true _ _ q.divider) s ∙ rw (q.divider, q.text, s)
      divides q false c s = row_divider n p x xs false (eqb-true _ _ q.divider) refl ∙ rw (q.text, q.space)

      go : Sort x.entry.name → Turns seen
      go (space q) = row_space n p x xs seen (eqb-true _ _ q.space) ∙ rw (q.divider, q.text, q.space, and_false seen, or_false seen)
      go (divider q) = divides q seen (any_solid xs) refl
      go (text q) = row_data n p x seen q g ∙ rw (q.divider, q.text, q.space, and_false seen, or_true seen)

  pub marks-turn : (w seen : Bool)
      → tail_marks n p w seen (x ∷ xs) ≡ mark_turn n (opens_cell seen x xs) (w && is_text x) (is_text x && not (text_ahead xs)) x.entry x.exit ++ tail_marks n p (opens_cell seen x xs || (w && not (is_text x))) (seen || is_solid x) xs
  marks-turn w seen = go f.sort
    where
      Turns : Bool → Type 0
      Turns b =
          tail_marks n p w b (x ∷ xs) ≡ mark_turn n (opens_cell b x xs) (w && is_text x) (is_text x && not (text_ahead xs)) x.entry x.exit ++ tail_marks n p (opens_cell b x xs || (w && not (is_text x))) (b || is_solid x) xs

      divides : Tests false false true false x.entry.name → (b c : Bool) → any_solid xs ≡ c → Turns b
      divides q true true s = marks_open n p w x xs (eqb-true _ _ q.divider) s ∙ rw (q.divider, q.text, s, and_false w)
      divides q true false s = marks_divider n p w x xs true (eqb-true _ _ q.divider) s ∙ rw (q.divider, q.text, s, and_false w, and_true w)
      divides q false c s = marks_divider n p w x xs false (eqb-true _ _ q.divider) refl ∙ rw (q.text, q.space, and_false w, and_true w)

      go : Sort x.entry.name → Turns seen
      go (space q) = marks_space n p w x xs seen (eqb-true _ _ q.space) ∙ rw (q.divider, q.text, q.space, and_false seen, or_false seen, and_false w, and_true w)
      go (divider q) = divides q seen (any_solid xs) refl
      go (text q) =
          marks-next n p w x seen q g ∙ rw (q.divider, q.text, q.space, and_false seen, or_true seen, and_false w, and_true w)
          (sym (append_assoc (value_entered w x) (x.entry ∷ x.exit ∷ value_left (not (text_ahead xs)) x) (tail_marks n p false true xs)))

-- ## The end of a row

-- all events but the last
unfoldable pub but_last : List Event → List Event
but_last [] = []
but_last (e ∷ []) = []
but_last (e ∷ f ∷ es) = e ∷ but_last (f ∷ es)

but-one : (e : Event) (es : List Event) → (es ≡ [] → ⊥) → but_last (e ∷ es) ≡ e ∷ but_last es
unfolding but_last
but-one e [] h = absurd (h refl)
but-one e (f ∷ es) h = refl

but-append : (a b : List Event) → (b ≡ [] → ⊥) → but_last (a ++ b) ≡ a ++ but_last b
but-append [] b h = refl
but-append (e ∷ a) b h = but-one e (a ++ b) (some a) ∙ ap (λ (l : List Event). e ∷ l) (but-append a b h)
  where
    some : (c : List Event) → c ++ b ≡ [] → ⊥
    some [] z = h z
    some (f ∷ c) z = no_nil z

module _ (within : List Passed → List Event) (n : ℕ) (inner : List Passed → List Event) (p : Point) where
  abbrev Closed : List Event → Type 0
  Closed l = l ≡ but_last l ++ (leave n p ∷ [])

  not_none : (l : List Event) → Closed l → l ≡ [] → ⊥
  unfolding but_last
  not_none [] h z = no_nil (sym h)
  not_none (e ∷ l) h z = no_nil z

  behind : (a b : List Event) → Closed b → Closed (a ++ b)
  behind a b h = ap (λ (l : List Event). a ++ l) h ∙ sym (append_assoc a (but_last b) (leave n p ∷ [])) ∙ ap (λ (l : List Event). l ++ (leave n p ∷ [])) (sym (but-append a b (not_none b h)))

  closing : (cs : List (List Passed)) → Closed (leave n (boundary cs p) ∷ cell_events n inner p cs)
  unfolding cell_events but_last
  closing [] = refl
  closing (c ∷ cs) = behind (leave n (first_point c p) ∷ enter n (first_point c p) ∷ inner c) (leave n (boundary cs p) ∷ cell_events n inner p cs) (closing cs)

  -- what is left of a row ends with the leaving of its last cell
  pub closes : (cs : List (List Passed)) → from_within within n inner p cs ≡ but_last (from_within within n inner p cs) ++ (leave n p ∷ [])
  closes cs = behind (within (first_cell cs)) (leave n (boundary (other_cells cs) p) ∷ cell_events n inner p (other_cells cs)) (closing (other_cells cs))

  -- events before it stay where its last one is left out
  pub but-more : (a : List Event) (cs : List (List Passed)) → but_last (a ++ from_within within n inner p cs) ≡ a ++ but_last (from_within within n inner p cs)
  but-more a cs = but-append a (from_within within n inner p cs) (not_none (from_within within n inner p cs) (closes cs))

-- ## How many events

-- what makes the events inside a cell: a piece gives two of them, and a first text two more
pub record Inner (inner : List Passed → List Event) : Type 0 where
  pub none : inner [] ≡ []
  pub plain : (x : Passed) → is_text x ≡ false → (c : List Passed) → inner (x ∷ c) ≡ x.entry ∷ x.exit ∷ inner c
  pub text : (x : Passed) → is_text x ≡ true → (c : List Passed) → length (inner (x ∷ c)) ≤ 4 + length (all_both c)

-- the pieces up to the last text and those behind it
parts : (c : List Passed) → length (all_both (upto_text c)) + length (all_both (after_text c)) ≡ length (all_both c)
unfolding all_both upto_text after_text
parts [] = refl
parts (x ∷ xs) = go (any_text (x ∷ xs)) (parts xs)
  where
    go : (b : Bool) → length (all_both (upto_text xs)) + length (all_both (after_text xs)) ≡ length (all_both xs) → length (all_both (cond b (x ∷ upto_text xs) [])) + length (all_both (cond b (after_text xs) (x ∷ xs))) ≡ length (all_both (x ∷ xs))
    go true ih = omega (arith, ih)
    go false ih = omega arith

pub row-inner : Inner row_inner
row-inner = record { none = row-none; plain = row_plain; text = λ x t c. rw (row-text x t c) (omega (arith, parts c)) }

delimiter-text : (x : Passed) → is_text x ≡ true → (c : List Passed) → length (delimiter_inner (x ∷ c)) ≤ 4 + length (all_both c)
unfolding delimiter_inner all_both
delimiter-text x t c = rw (t, length-append) (omega (arith, parts c))

pub delimiter-inner : Inner delimiter_inner
delimiter-inner = record { none = marks-none true; plain = marks-plain true; text = delimiter-text }

-- a divider is no text
not_text : (x : Passed) → named GfmTableCellDivider x ≡ true → is_text x ≡ false
not_text x e = (a_divider x (eqb-true x.entry.name GfmTableCellDivider e)).text

module _ (n : ℕ) {inner : List Passed → List Event} (p : Point) (i : Inner inner) where
  -- inside a cell that waits for its text, or had it
  abbrev waiting : Bool → List Passed → List Event
  waiting true = inner
  waiting false = all_both

  abbrev size : Bool → Bool → List Passed → ℕ
  size w seen xs = length (from_within (waiting w) n inner p (cells seen xs))

  waiting_none : (w : Bool) → waiting w [] ≡ []
  unfolding all_both
  waiting_none true = i.none
  waiting_none false = refl

  waiting-plain : (w : Bool) (x : Passed) → w && is_text x ≡ false → (c : List Passed) → waiting w (x ∷ c) ≡ x.entry ∷ x.exit ∷ waiting w c
  unfolding all_both
  waiting-plain true x t c = i.plain x t c
  waiting-plain false x t c = refl

  sized : (within : List Passed → List Event) (cs : List (List Passed)) → length (from_within within n inner p cs) ≡ length (within (first_cell cs)) + (1 + length (cell_events n inner p (other_cells cs)))
  sized within cs = length-append (within (first_cell cs)) (leave n (boundary (other_cells cs) p) ∷ cell_events n inner p (other_cells cs)) ∙ omega arith

  stays : (x : Passed) (xs : List Passed) (seen : Bool) → seen && (named GfmTableCellDivider x && any_solid xs) ≡ false → cells seen (x ∷ xs) ≡ before x (cells (seen || is_solid x) xs)
  unfolding cells
  stays x xs seen d = rw d

  -- a first text
  text-few : (x : Passed) (xs : List Passed) (seen : Bool) → is_text x ≡ true → seen && (named GfmTableCellDivider x && any_solid xs) ≡ false → size true seen (x ∷ xs) ≤ 4 + size false (seen || is_solid x) xs
  text-few x xs seen t d =
      let cs = cells (seen || is_solid x) xs in
      rw (stays x xs seen d) (omega (arith, sized inner (before x cs), sized all_both cs, i.text x t (first_cell cs)))

  abbrev Few : List Passed → Type 0
  Few xs = (w seen : Bool) → size w seen xs ≤ 4 * length xs + 1

  opening : (x : Passed) (xs : List Passed) → Few xs → (w seen : Bool) → seen && (named GfmTableCellDivider x && any_solid xs) ≡ true → size w seen (x ∷ xs) ≤ 4 * length (x ∷ xs) + 1
  opening x xs ih w false e = absurd (true≢false (sym e))
  opening x xs ih w true e =
      let h = both_true (named GfmTableCellDivider x) (any_solid xs) e in
      rw (opens n inner p (waiting w) x xs h.0 h.1 (waiting_none w) (i.plain x (not_text x h.0))) (omega (arith, ih true true))

  staying : (x : Passed) (xs : List Passed) → Few xs → (w seen b : Bool) → w && is_text x ≡ b → seen && (named GfmTableCellDivider x && any_solid xs) ≡ false → size w seen (x ∷ xs) ≤ 4 * length (x ∷ xs) + 1
  staying x xs ih w seen false t e = rw (copies n inner p (waiting w) x xs seen e (waiting-plain w x t)) (omega (arith, ih w (seen || is_solid x)))
  staying x xs ih true seen true t e = omega (arith, text-few x xs seen t e, ih false (seen || is_solid x))
  staying x xs ih false seen true t e = absurd (true≢false (sym t))

  few : (xs : List Passed) → Few xs
  few [] w seen = rw (ends n inner p (waiting w) seen (waiting_none w)) (omega arith)
  few (x ∷ xs) w seen = go (seen && (named GfmTableCellDivider x && any_solid xs)) refl (few xs)
    where
      go : (b : Bool) → seen && (named GfmTableCellDivider x && any_solid xs) ≡ b → Few xs → size w seen (x ∷ xs) ≤ 4 * length (x ∷ xs) + 1
      go true e ih = opening x xs ih w seen e
      go false e ih = staying x xs ih w seen (w && is_text x) refl e

  -- a piece gives at most four events
  pub cells-few : (xs : List Passed) → length (cell_events n inner p (cells false xs)) ≤ 4 * length xs + 2
  cells-few xs = rw (enters n inner p xs) (omega (arith, few xs true false))

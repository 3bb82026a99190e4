-- What the flushed cells of a row make of its events.
-- Assumes nothing.
use Prim.Native.Nat.{ℕ, zero, suc, ◌+◌, ◌-◌, ◌<◌, ◌≤◌}
use mathlib.Core.Path.{◌≡◌, refl, sym, ap, ◌∙◌, subst}
use mathlib.Core.List.{List, [], ◌∷◌, ◌++◌, append_assoc}
use mathlib.Core.Bool.{Bool, true, false, cond, ◌||◌, ◌&&◌, not, true≢false}
use lib.Dec.{eqb, ltb}
use lib.ListN.{length, drop}
use lib.Seq.{drop-drop}
use native.Mathlib.Omega.{arith}
use native.Mathlib.Numerals.{add-one}
use borrow.Author.Tests.{ne_eqb, lt-ltb, le-ltb}
use Rattle.tokenizer.specs.declared.event.Event.{Event}
use Rattle.tokenizer.specs.Slots.{event_at}
use Rattle.tokenizer.specs.Events.{GfmTableCellDivider, enter, leave, linked, point_of}
use Rattle.gfm_table.specs.Rows.{Passed, all_both}
use Rattle.edit_map.specs.Tables.{named, is_text, is_solid, any_solid, any_text, cells, first_cell, other_cells, before, last_text, after_text, upto_text, row_inner, delimiter_inner, boundary, cell_events}
use Rattle.edit_map.specs.RustEdits.{Deed, add, link, Span, if, group_name, value_name, enter_at, leave_at, flush_text, flush_value, flush_cell}
use Rattle.edit_map.proofs.Gives.{all_after, none_last, some-cell}
use Rattle.edit_map.proofs.RustMade.{Makes, copy, adds, removes, links, then, moved}
use Rattle.edit_map.proofs.RustLoop.{OnePiece, Pieces, text_at, touch, fresh, spans_of, past, flush, flushes, leaves}
use Rattle.edit_order.proofs.Bools.{and_false}

-- ## The cells of a row as spans

-- a cell's span with its pieces
unfoldable pub closed : Span → ℕ → List Passed → Span
closed c i [] = c
closed c i (x ∷ xs) = closed (touch x i c) (suc (suc i)) xs

unfoldable pub spans_from : ℕ → List (List Passed) → List Span
spans_from i [] = []
spans_from i (c ∷ cs) = closed (fresh i) i c ∷ spans_from (past i c) cs

not_text : {x : Passed} → OnePiece x → (seen more : Bool) → seen && (named GfmTableCellDivider x && more) ≡ true → is_text x ≡ false
not_text (OnePiece.space p) seen more h = p.tests.text
not_text (OnePiece.divider p) seen more h = p.tests.text
not_text (OnePiece.text p) seen more h = absurd (true≢false (sym h ∙ ap (λ (b : Bool). seen && (b && more)) p.tests.divider ∙ and_false seen))

pub spans_cells : {xs : List Passed} → Pieces xs → (seen : Bool) (c : Span) (i : ℕ) → spans_of seen c i xs ≡ closed c i (first_cell (cells seen xs)) ∷ spans_from (past i (first_cell (cells seen xs))) (other_cells (cells seen xs))
unfolding spans_of closed spans_from past cells
spans_cells Pieces.none seen c i = refl
spans_cells (Pieces.piece {x = x} {xs = xs} p ps) seen c i = go (seen && (named GfmTableCellDivider x && any_solid xs)) refl (spans_cells ps true (fresh i) (suc (suc i))) (spans_cells ps (seen || is_solid x) (touch x i c) (suc (suc i)))
  where
    Whole : List Span → Span → ℕ → List (List Passed) → Type 0
    Whole k s j cs = k ≡ closed s j (first_cell cs) ∷ spans_from (past j (first_cell cs)) (other_cells cs)

    go : (b : Bool) → seen && (named GfmTableCellDivider x && any_solid xs) ≡ b → Whole (spans_of true (fresh i) (suc (suc i)) xs) (fresh i) (suc (suc i)) (cells true xs) → Whole (spans_of (seen || is_solid x) (touch x i c) (suc (suc i)) xs) (touch x i c) (suc (suc i)) (cells (seen || is_solid x) xs)
        → Whole (cond b (c ∷ spans_of true (fresh i) (suc (suc i)) xs) (spans_of (seen || is_solid x) (touch x i c) (suc (suc i)) xs)) c i (cond b ([] ∷ before x (cells true xs)) (before x (cells (seen || is_solid x) xs)))
    go true e ih jh = ap (λ (k : List Span). c ∷ k) (ih ∙ ap (λ (b : Bool). closed (cond b (text_at i (fresh i)) (fresh i)) (suc (suc i)) (first_cell (cells true xs)) ∷ spans_from (past (suc (suc i)) (first_cell (cells true xs))) (other_cells (cells true xs))) (sym (not_text p seen (any_solid xs) e)))
    go false e ih jh = jh

-- cells that are not empty
pub data Cells : List (List Passed) → Type 0 where
  none : Cells []
  cell : {x : Passed} {c : List Passed} {cs : List (List Passed)} → OnePiece x → Pieces c → Cells cs → Cells ((x ∷ c) ∷ cs)

pub cells_are : {xs : List Passed} → Pieces xs → (seen : Bool) → Pieces (first_cell (cells seen xs)) × Cells (other_cells (cells seen xs))
unfolding cells
cells_are Pieces.none seen = (Pieces.none, Cells.none)
cells_are (Pieces.piece {x = x} {xs = xs} p ps) seen = go (seen && (named GfmTableCellDivider x && any_solid xs)) (cells_are ps true) (cells_are ps (seen || is_solid x))
  where
    go : (b : Bool) → Pieces (first_cell (cells true xs)) × Cells (other_cells (cells true xs)) → Pieces (first_cell (cells (seen || is_solid x) xs)) × Cells (other_cells (cells (seen || is_solid x) xs))
        → Pieces (first_cell (cond b ([] ∷ before x (cells true xs)) (before x (cells (seen || is_solid x) xs)))) × Cells (other_cells (cond b ([] ∷ before x (cells true xs)) (before x (cells (seen || is_solid x) xs))))
    go true ih jh = (Pieces.none, Cells.cell p ih.0 ih.1)
    go false ih jh = (Pieces.piece p jh.0, jh.1)

-- the events of cells, and the position behind them
unfoldable pub all_cells : List (List Passed) → List Event
all_cells [] = []
all_cells (c ∷ cs) = all_both c ++ all_cells cs

unfoldable pub past_all : ℕ → List (List Passed) → ℕ
past_all i [] = i
past_all i (c ∷ cs) = past_all (past i c) cs

pub cells_join : (seen : Bool) (xs : List Passed) → all_both (first_cell (cells seen xs)) ++ all_cells (other_cells (cells seen xs)) ≡ all_both xs
unfolding cells all_cells all_both
cells_join seen [] = refl
cells_join seen (x ∷ xs) = go (seen && (named GfmTableCellDivider x && any_solid xs)) (cells_join true xs) (cells_join (seen || is_solid x) xs)
  where
    both : List (List Passed) → List Event
    both cs = all_both (first_cell cs) ++ all_cells (other_cells cs)

    go : (b : Bool) → both (cells true xs) ≡ all_both xs → both (cells (seen || is_solid x) xs) ≡ all_both xs → both (cond b ([] ∷ before x (cells true xs)) (before x (cells (seen || is_solid x) xs))) ≡ x.entry ∷ x.exit ∷ all_both xs
    go true ih jh = ap (λ (l : List Event). x.entry ∷ x.exit ∷ l) ih
    go false ih jh = ap (λ (l : List Event). x.entry ∷ x.exit ∷ l) jh

pub cells-past : (seen : Bool) (xs : List Passed) (i : ℕ) → past_all (past i (first_cell (cells seen xs))) (other_cells (cells seen xs)) ≡ past i xs
unfolding cells past_all past
cells-past seen [] i = refl
cells-past seen (x ∷ xs) i = go (seen && (named GfmTableCellDivider x && any_solid xs)) (cells-past true xs (suc (suc i))) (cells-past (seen || is_solid x) xs (suc (suc i)))
  where
    end : ℕ → List (List Passed) → ℕ
    end j cs = past_all (past j (first_cell cs)) (other_cells cs)

    go : (b : Bool) → end (suc (suc i)) (cells true xs) ≡ past (suc (suc i)) xs → end (suc (suc i)) (cells (seen || is_solid x) xs) ≡ past (suc (suc i)) xs
        → end i (cond b ([] ∷ before x (cells true xs)) (before x (cells (seen || is_solid x) xs))) ≡ past (suc (suc i)) xs
    go true ih jh = ih
    go false ih jh = jh

-- ## A value

-- where the last text piece is left, or u
unfoldable pub last_at : ℕ → ℕ → List Passed → ℕ
last_at u j [] = u
last_at u j (x ∷ xs) = cond (any_text (x ∷ xs)) (last_at (suc j) (suc (suc j)) xs) u

-- what stands between a text piece's exit and the last one's
unfoldable pub gap : List Passed → List Event
gap [] = []
gap (x ∷ xs) = cond (any_text xs) (x.entry ∷ x.exit ∷ gap xs) (x.entry ∷ [])

last_none : (u j : ℕ) (xs : List Passed) → any_text xs ≡ false → last_at u j xs ≡ u
unfolding last_at
last_none u j [] h = refl
last_none u j (x ∷ xs) h = rw h

last_any : (u v j : ℕ) (xs : List Passed) → any_text xs ≡ true → last_at u j xs ≡ last_at v j xs
unfolding last_at any_text
last_any u v j [] h = absurd (true≢false (sym h))
last_any u v j (x ∷ xs) h = rw h

-- the span of a cell that has a text piece already
closed-text : (xs : List Passed) (b s f u j : ℕ) → eqb f 0 ≡ false → closed (record { before = b; start = s; from = f; upto = u }) j xs ≡ record { before = b; start = s; from = f; upto = last_at u j xs }
unfolding closed last_at any_text
closed-text [] b s f u j n = refl
closed-text (x ∷ xs) b s f u j n = go (is_text x) (any_text xs) refl (closed-text xs b s f (suc j) (suc (suc j)) n) (closed-text xs b s f u (suc (suc j)) n)
  where
    at : ℕ → Span
    at k = record { before = b; start = s; from = f; upto = k }

    go : (t m : Bool) → any_text xs ≡ m → closed (at (suc j)) (suc (suc j)) xs ≡ at (last_at (suc j) (suc (suc j)) xs) → closed (at u) (suc (suc j)) xs ≡ at (last_at u (suc (suc j)) xs)
        → closed (cond t (record { before = b; start = s; from = cond (eqb f 0) j f; upto = suc j }) (at u)) (suc (suc j)) xs ≡ at (cond (t || m) (last_at (suc j) (suc (suc j)) xs) u)
    go true m e ih jh = rw n ih
    go false true e ih jh = jh ∙ ap at (last_any u (suc j) (suc (suc j)) xs e)
    go false false e ih jh = jh ∙ ap at (last_none u (suc (suc j)) xs e)

-- the span of a cell keeps where it starts
closed_keeps : (xs : List Passed) (c : Span) (j : ℕ) → ((closed c j xs).before ≡ c.before) × ((closed c j xs).start ≡ c.start)
unfolding closed
closed_keeps [] c j = (refl, refl)
closed_keeps (x ∷ xs) c j = go (is_text x) (closed_keeps xs (text_at j c) (suc (suc j))) (closed_keeps xs c (suc (suc j)))
  where
    Keeps : Span → Type 0
    Keeps k = (k.before ≡ c.before) × (k.start ≡ c.start)

    go : (t : Bool) → Keeps (closed (text_at j c) (suc (suc j)) xs) → Keeps (closed c (suc (suc j)) xs) → Keeps (closed (cond t (text_at j c) c) (suc (suc j)) xs)
    go true ih jh = ih
    go false ih jh = jh

last-upto : (u j : ℕ) (xs : List Passed) → suc u ≡ j → suc (last_at u j xs) ≡ past j (upto_text xs)
unfolding last_at past upto_text
last-upto u j [] h = h
last-upto u j (x ∷ xs) h = go (any_text (x ∷ xs)) (last-upto (suc j) (suc (suc j)) xs refl)
  where
    go : (b : Bool) → suc (last_at (suc j) (suc (suc j)) xs) ≡ past (suc (suc j)) (upto_text xs) → suc (cond b (last_at (suc j) (suc (suc j)) xs) u) ≡ past j (cond b (x ∷ upto_text xs) [])
    go true ih = ih
    go false ih = h

upto-after : (xs : List Passed) → upto_text xs ++ after_text xs ≡ xs
unfolding upto_text after_text
upto-after [] = refl
upto-after (x ∷ xs) = go (any_text (x ∷ xs)) (upto-after xs)
  where
    go : (b : Bool) → upto_text xs ++ after_text xs ≡ xs → cond b (x ∷ upto_text xs) [] ++ cond b (after_text xs) (x ∷ xs) ≡ x ∷ xs
    go true ih = ap (λ (l : List Passed). x ∷ l) ih
    go false ih = refl

both_join : (xs ys : List Passed) → all_both (xs ++ ys) ≡ all_both xs ++ all_both ys
unfolding all_both
both_join [] ys = refl
both_join (x ∷ xs) ys = ap (λ (l : List Event). x.entry ∷ x.exit ∷ l) (both_join xs ys)

past_join : (i : ℕ) (xs ys : List Passed) → past i (xs ++ ys) ≡ past (past i xs) ys
unfolding past
past_join i [] ys = refl
past_join i (x ∷ xs) ys = past_join (suc (suc i)) xs ys

gap_splits : (x : Passed) (xs : List Passed) → any_text xs ≡ true → all_both xs ≡ gap xs ++ ((last_text x xs).exit ∷ all_both (after_text xs))
unfolding all_both gap last_text after_text any_text
gap_splits x [] h = absurd (true≢false (sym h))
gap_splits x (y ∷ ys) h = rw h (go (any_text ys) refl (gap_splits y ys))
  where
    go : (b : Bool) → any_text ys ≡ b → (any_text ys ≡ true → all_both ys ≡ gap ys ++ ((last_text y ys).exit ∷ all_both (after_text ys)))
        → y.entry ∷ y.exit ∷ all_both ys ≡ cond b (y.entry ∷ y.exit ∷ gap ys) (y.entry ∷ []) ++ ((last_text y ys).exit ∷ all_both (after_text ys))
    go true e ih = ap (λ (l : List Event). y.entry ∷ y.exit ∷ l) (ih e)
    go false e ih = λ i. y.entry ∷ (sym (none_last y ys e) i).exit ∷ all_both (sym (all_after ys e) i)

gap_length : (u j : ℕ) (xs : List Passed) → any_text xs ≡ true → last_at u j xs ≡ j + length (gap xs)
unfolding gap last_at any_text
gap_length u j [] h = absurd (true≢false (sym h))
gap_length u j (x ∷ xs) h = rw h (go (any_text xs) refl (gap_length (suc j) (suc (suc j)) xs))
  where
    go : (b : Bool) → any_text xs ≡ b → (any_text xs ≡ true → last_at (suc j) (suc (suc j)) xs ≡ suc (suc j) + length (gap xs)) → last_at (suc j) (suc (suc j)) xs ≡ j + length (cond b (x.entry ∷ x.exit ∷ gap xs) (x.entry ∷ []))
    go true e ih = ih e ∙ omega arith
    go false e ih = last_none (suc j) (suc (suc j)) xs e ∙ omega arith

-- ## What is made

-- pieces are copied
copies : (xs : List Passed) (i : ℕ) {ds : List Deed} {tail : List Event} → Makes i ds (all_both xs ++ tail) (all_both xs) (past i xs) ds tail
unfolding all_both past
copies [] i = Makes.none
copies (x ∷ xs) i = copy (copy (copies xs (suc (suc i))))

-- an addition whose position and records are known by equations
adding : {p q k : ℕ} {ds es : List Deed} {xs ys out : List Event} {new old : Event} → k ≡ p → new ≡ old → Makes p ds xs out q es ys → Makes p (add k 0 (new ∷ []) ∷ ds) xs (old ∷ out) q es ys
adding {p} {ds = ds} {new = new} {old = old} e f m = moved (λ i. add (e i) 0 (f i ∷ []) ∷ ds) refl refl (adds {new = old ∷ []} m)

module _ (list : List Event) where
  -- the event at a position, and those behind it
  pub here-is : (i : ℕ) {x : Event} {xs : List Event} → drop i list ≡ x ∷ xs → event_at list i ≡ x
  here-is i {x} {xs} h = go i list h
    where
      go : (j : ℕ) (l : List Event) → drop j l ≡ x ∷ xs → event_at l j ≡ x
      go zero [] e = ap head e
        where
          head : List Event → Event
          head [] = event_at [] 0
          head (y ∷ ys) = y
      go zero (y ∷ l) e = ap head e
        where
          head : List Event → Event
          head [] = y
          head (z ∷ zs) = z
      go (suc j) [] e = ap head e
        where
          head : List Event → Event
          head [] = event_at [] 0
          head (y ∷ ys) = y
      go (suc j) (y ∷ l) e = go j l e

  pub next-is : (i : ℕ) {x : Event} {xs : List Event} → drop i list ≡ x ∷ xs → drop (suc i) list ≡ xs
  next-is i h = ap (λ (k : ℕ). drop k list) (sym (add-one i)) ∙ sym (drop-drop 1 i list) ∙ ap (drop 1) h

  last_event : (x : Passed) (xs : List Passed) (u j : ℕ) (tail : List Event) → event_at list u ≡ x.exit → drop j list ≡ all_both xs ++ tail → event_at list (last_at u j xs) ≡ (last_text x xs).exit
  unfolding last_at last_text all_both
  last_event x [] u j tail e h = e
  last_event x (y ∷ ys) u j tail e h = go (any_text (y ∷ ys)) (last_event y ys (suc j) (suc (suc j)) tail (here-is (suc j) (next-is j h)) (next-is (suc j) (next-is j h)))
    where
      go : (b : Bool) → event_at list (last_at (suc j) (suc (suc j)) ys) ≡ (last_text y ys).exit → event_at list (cond b (last_at (suc j) (suc (suc j)) ys) u) ≡ (cond b (last_text y ys) x).exit
      go true ih = ih
      go false ih = e

  -- the text or value of a cell that begins with a text piece x at i
  module _ (x : Passed) (xs : List Passed) (i : ℕ) (ds : List Deed) (tail : List Event) (h : drop i list ≡ x.entry ∷ x.exit ∷ (all_both xs ++ tail)) where
    abbrev u : ℕ
    u = last_at (suc i) (suc (suc i)) xs

    last-is : event_at list u ≡ (last_text x xs).exit
    last-is = last_event x xs (suc i) (suc (suc i)) tail (here-is (suc i) (next-is i h)) (next-is (suc i) (next-is i h))

    behind-is : suc u ≡ past (suc (suc i)) (upto_text xs)
    behind-is = last-upto (suc i) (suc (suc i)) xs refl

    past_is : past (past (suc (suc i)) (upto_text xs)) (after_text xs) ≡ past (suc (suc i)) xs
    past_is = sym (past_join (suc (suc i)) (upto_text xs) (after_text xs)) ∙ ap (past (suc (suc i))) (upto-after xs)

    split : all_both xs ++ tail ≡ all_both (upto_text xs) ++ (all_both (after_text xs) ++ tail)
    split = ap (λ (l : List Event). l ++ tail) (ap all_both (sym (upto-after xs)) ∙ both_join (upto_text xs) (after_text xs)) ∙ append_assoc (all_both (upto_text xs)) (all_both (after_text xs)) tail

    -- what stands behind the last text piece
    rest-made : Makes (suc u) ds (all_both (after_text xs) ++ tail) (all_both (after_text xs)) (past (suc (suc i)) xs) ds tail
    rest-made = subst (λ (k : ℕ). Makes k ds (all_both (after_text xs) ++ tail) (all_both (after_text xs)) (past (suc (suc i)) xs) ds tail) (sym behind-is)
        (subst (λ (k : ℕ). Makes (past (suc (suc i)) (upto_text xs)) ds (all_both (after_text xs) ++ tail) (all_both (after_text xs)) k ds tail) past_is (copies (after_text xs) (past (suc (suc i)) (upto_text xs))))

    -- the value is left
    left-made : (v : ℕ) → Makes (suc u) (add (suc u) 0 (leave_at list v u ∷ []) ∷ ds) (all_both (after_text xs) ++ tail) (leave v (point_of (last_text x xs).exit) ∷ all_both (after_text xs)) (past (suc (suc i)) xs) ds tail
    left-made v = adding refl (ap (λ (e : Event). leave v (point_of e)) last-is) rest-made

    value_made : (v : ℕ) → Makes i (add i 0 (enter_at list v i ∷ []) ∷ add (suc u) 0 (leave_at list v u ∷ []) ∷ ds) (x.entry ∷ x.exit ∷ (all_both xs ++ tail))
        (enter v (point_of x.entry) ∷ x.entry ∷ x.exit ∷ (all_both (upto_text xs) ++ (leave v (point_of (last_text x xs).exit) ∷ all_both (after_text xs)))) (past (suc (suc i)) xs) ds tail
    value_made v =
        adding refl (ap (λ (e : Event). enter v (point_of e)) (here-is i h))
        (copy (copy (moved refl split refl (then (copies (upto_text xs) (suc (suc i))) (subst (λ (k : ℕ). Makes k (add (suc u) 0 (leave_at list v u ∷ []) ∷ ds) (all_both (after_text xs) ++ tail) (leave v (point_of (last_text x xs).exit) ∷ all_both (after_text xs)) (past (suc (suc i)) xs) ds tail) behind-is (left-made v))))))

    -- the text, what lies between its ends removed
    between-made : (v : ℕ) (b : Bool) → any_text xs ≡ b
        → Makes (suc i) (if (ltb (suc i) u) (add (suc i) (u - suc i) [] ∷ []) ++ (add (suc u) 0 (leave_at list v u ∷ []) ∷ ds)) (x.exit ∷ (all_both xs ++ tail)) ((last_text x xs).exit ∷ leave v (point_of (last_text x xs).exit) ∷ all_both (after_text xs)) (past (suc (suc i)) xs) ds tail
    between-made v false e =
        let n : u ≡ suc i = last_none (suc i) (suc (suc i)) xs e in
        moved (ap (λ (b : Bool). if b (add (suc i) (u - suc i) [] ∷ []) ++ (add (suc u) 0 (leave_at list v u ∷ []) ∷ ds)) (ap (ltb (suc i)) n ∙ same (suc i)))
        (ap (λ (l : List Passed). x.exit ∷ (all_both l ++ tail)) (sym (all_after xs e))) (ap (λ (y : Passed). y.exit ∷ leave v (point_of (last_text x xs).exit) ∷ all_both (after_text xs)) (none_last x xs e))
        (copy (subst (λ (k : ℕ). Makes (suc k) (add (suc u) 0 (leave_at list v u ∷ []) ∷ ds) (all_both (after_text xs) ++ tail) (leave v (point_of (last_text x xs).exit) ∷ all_both (after_text xs)) (past (suc (suc i)) xs) ds tail) n (left-made v)))
      where
        same : (k : ℕ) → ltb k k ≡ false
        same k = le-ltb k k (omega arith)
    between-made v true e =
        let g : u ≡ suc (suc i) + length (gap xs) = gap_length (suc i) (suc (suc i)) xs e in
        moved (ap (λ (b : Bool). if b (add (suc i) (u - suc i) [] ∷ []) ++ (add (suc u) 0 (leave_at list v u ∷ []) ∷ ds)) (lt-ltb (suc i) u (omega arith)) ∙ ap (λ (k : ℕ). add (suc i) k [] ∷ add (suc u) 0 (leave_at list v u ∷ []) ∷ ds) (number g))
        (ap (λ (l : List Event). x.exit ∷ l) (ap (λ (l : List Event). l ++ tail) (gap_splits x xs e) ∙ append_assoc (gap xs) ((last_text x xs).exit ∷ all_both (after_text xs)) tail)) refl
        (removes (gap xs) (subst (λ (k : ℕ). Makes k (add (suc u) 0 (leave_at list v u ∷ []) ∷ ds) ((last_text x xs).exit ∷ (all_both (after_text xs) ++ tail)) ((last_text x xs).exit ∷ leave v (point_of (last_text x xs).exit) ∷ all_both (after_text xs)) (past (suc (suc i)) xs) ds tail) g (copy (left-made v))))
      where
        number : u ≡ suc (suc i) + length (gap xs) → u - suc i ≡ suc (length (gap xs))
        number q = omega (arith, q)

    text-made : (v : ℕ) → Makes i (add i 0 (enter_at list v i ∷ []) ∷ (flush_text i u ++ (add (suc u) 0 (leave_at list v u ∷ []) ∷ ds))) (x.entry ∷ x.exit ∷ (all_both xs ++ tail))
        (enter v (point_of x.entry) ∷ linked x.entry ∷ (last_text x xs).exit ∷ leave v (point_of (last_text x xs).exit) ∷ all_both (after_text xs)) (past (suc (suc i)) xs) ds tail
    text-made v = adding refl (ap (λ (e : Event). enter v (point_of e)) (here-is i h)) (links (between-made v (any_text xs) refl))

  -- ## Cells

  module _ (d : Bool) where
    -- the events inside a cell
    abbrev pub inner : List Passed → List Event
    inner = cond d delimiter_inner row_inner

    abbrev bare : ℕ → ℕ → Span
    bare k s = record { before = k; start = s; from = 0; upto = 0 }

    inner-plain : (x : Passed) (xs : List Passed) → is_text x ≡ false → inner (x ∷ xs) ≡ x.entry ∷ x.exit ∷ inner xs
    unfolding delimiter_inner row_inner
    inner-plain x xs n = go d
      where
        go : (k : Bool) → cond k delimiter_inner row_inner (x ∷ xs) ≡ x.entry ∷ x.exit ∷ cond k delimiter_inner row_inner xs
        go true = rw n
        go false = rw n

    inner-none : inner [] ≡ []
    unfolding delimiter_inner row_inner
    inner-none = go d
      where
        go : (k : Bool) → cond k delimiter_inner row_inner [] ≡ []
        go true = refl
        go false = refl

    begins : (x : Passed) (xs : List Passed) (k s i : ℕ) (ds : List Deed) (tail : List Event) → is_text x ≡ true → 0 < i → drop i list ≡ x.entry ∷ x.exit ∷ (all_both xs ++ tail)
        → Makes i (flush_value list d (record { before = k; start = s; from = i; upto = last_at (suc i) (suc (suc i)) xs }) ++ ds) (x.entry ∷ x.exit ∷ (all_both xs ++ tail)) (inner (x ∷ xs)) (past (suc (suc i)) xs) ds tail
    unfolding delimiter_inner row_inner all_both
    begins x xs k s i ds tail y z h = go d
      where
        u : ℕ
        u = last_at (suc i) (suc (suc i)) xs

        n : eqb i 0 ≡ false
        n = ne_eqb i 0 (λ q. omega (arith, z))

        go : (m : Bool) → Makes i (flush_value list m (record { before = k; start = s; from = i; upto = u }) ++ ds) (x.entry ∷ x.exit ∷ (all_both xs ++ tail)) (cond m delimiter_inner row_inner (x ∷ xs)) (past (suc (suc i)) xs) ds tail
        go true = moved (rw n) refl (rw y) (value_made x xs i ds tail h (value_name true))
        go false = moved (rw n (ap (λ (l : List Deed). add i 0 (enter_at list (value_name false) i ∷ []) ∷ link i ∷ l) (append_assoc (if (ltb (suc i) u) (add (suc i) (u - suc i) [] ∷ [])) (add (suc u) 0 (leave_at list (value_name false) u ∷ []) ∷ []) ds))) refl (rw y)
            (text-made x xs i ds tail h (value_name false))

    -- the value of a cell
    inner_made : (xs : List Passed) (k s i : ℕ) (ds : List Deed) (tail : List Event) → 0 < i → drop i list ≡ all_both xs ++ tail → Makes i (flush_value list d (closed (bare k s) i xs) ++ ds) (all_both xs ++ tail) (inner xs) (past i xs) ds tail
    unfolding closed all_both past
    inner_made [] k s i ds tail z h = moved refl refl inner-none Makes.none
    inner_made (x ∷ xs) k s i ds tail z h = go (is_text x) refl (inner_made xs k s (suc (suc i)) ds tail (omega arith) (next-is (suc i) (next-is i h)))
      where
        go : (b : Bool) → is_text x ≡ b → Makes (suc (suc i)) (flush_value list d (closed (bare k s) (suc (suc i)) xs) ++ ds) (all_both xs ++ tail) (inner xs) (past (suc (suc i)) xs) ds tail
            → Makes i (flush_value list d (closed (cond b (text_at i (bare k s)) (bare k s)) (suc (suc i)) xs) ++ ds) (x.entry ∷ x.exit ∷ (all_both xs ++ tail)) (inner (x ∷ xs)) (past (suc (suc i)) xs) ds tail
        go true e ih = moved (ap (λ (r : Span). flush_value list d r ++ ds) (closed-text xs k s i (suc i) (suc (suc i)) (ne_eqb i 0 (λ q. omega (arith, z))))) refl refl (begins x xs k s i ds tail e z h)
        go false e ih = moved refl refl (inner-plain x xs e) (copy (copy ih))

    -- the first cell, and one behind it
    abbrev whole : ℕ → ℕ → List Deed → List Deed
    whole k s v = if (not (eqb k 0)) (add k 0 (leave_at list (group_name d) k ∷ []) ∷ []) ++ (add s 0 (enter_at list (group_name d) s ∷ []) ∷ (v ++ []))

    flush-is : (k s i : ℕ) (xs : List Passed) → flush list d (closed (bare k s) i xs) ≡ whole k s (flush_value list d (closed (bare k s) i xs))
    unfolding flush_cell
    flush-is k s i xs = let q = closed_keeps xs (bare k s) i in λ j. whole (q.0 j) (q.1 j) (flush_value list d (closed (bare k s) i xs))

    first_made : (xs : List Passed) (i : ℕ) (ds : List Deed) (tail : List Event) → 0 < i → drop i list ≡ all_both xs ++ tail
        → Makes i (flush list d (closed (bare 0 i) i xs) ++ ds) (all_both xs ++ tail) (enter_at list (group_name d) i ∷ inner xs) (past i xs) ds tail
    first_made xs i ds tail z h =
        let v = flush_value list d (closed (bare 0 i) i xs) in
        moved (ap (λ (l : List Deed). l ++ ds) (flush-is 0 i i xs) ∙ ap (λ (l : List Deed). add i 0 (enter_at list (group_name d) i ∷ []) ∷ l) (append_assoc v [] ds)) refl refl (adds {new = enter_at list (group_name d) i ∷ []} (inner_made xs 0 i i ds tail z h))

    later-made : (xs : List Passed) (i : ℕ) (ds : List Deed) (tail : List Event) → 0 < i → drop i list ≡ all_both xs ++ tail
        → Makes i (flush list d (closed (fresh i) i xs) ++ ds) (all_both xs ++ tail) (leave_at list (group_name d) i ∷ enter_at list (group_name d) i ∷ inner xs) (past i xs) ds tail
    later-made xs i ds tail z h =
        let v = flush_value list d (closed (fresh i) i xs) in
        moved (ap (λ (l : List Deed). l ++ ds) (flush-is i i i xs) ∙ ap (λ (b : Bool). (if (not b) (add i 0 (leave_at list (group_name d) i ∷ []) ∷ []) ++ (add i 0 (enter_at list (group_name d) i ∷ []) ∷ (v ++ []))) ++ ds) (ne_eqb i 0 (λ q. omega (arith, z)))
        ∙ ap (λ (l : List Deed). add i 0 (leave_at list (group_name d) i ∷ []) ∷ add i 0 (enter_at list (group_name d) i ∷ []) ∷ l) (append_assoc v [] ds)) refl refl
        (adds {new = leave_at list (group_name d) i ∷ []} (adds {new = enter_at list (group_name d) i ∷ []} (inner_made xs i i i ds tail z h)))

    past_more : (i : ℕ) (xs : List Passed) → i ≤ past i xs
    unfolding past
    past_more i [] = omega arith
    past_more i (x ∷ xs) = omega (arith, past_more (suc (suc i)) xs)

    next-cells : (i : ℕ) (xs : List Passed) (tail : List Event) → drop i list ≡ all_both xs ++ tail → drop (past i xs) list ≡ tail
    unfolding past all_both
    next-cells i [] tail h = h
    next-cells i (x ∷ xs) tail h = next-cells (suc (suc i)) xs tail (next-is (suc i) (next-is i h))

    first_of : (x : Passed) (c : List Passed) (i : ℕ) (tail : List Event) → drop i list ≡ all_both (x ∷ c) ++ tail → event_at list i ≡ x.entry
    unfolding all_both
    first_of x c i tail h = here-is i h

    -- the cells behind the first, up to the exit e of the row
    cells-made : {cs : List (List Passed)} → Cells cs → (i : ℕ) (ds : List Deed) (e : Event) (es : List Event) → 0 < i → drop i list ≡ all_cells cs ++ (e ∷ es)
        → Makes i (flushes list d (spans_from i cs) ++ (leaves list d (past_all i cs) ++ ds)) (all_cells cs ++ (e ∷ es)) (leave (group_name d) (boundary cs (point_of e)) ∷ cell_events (group_name d) inner (point_of e) cs) (past_all i cs) ds (e ∷ es)
    unfolding spans_from flushes all_cells past_all cell_events
    cells-made Cells.none i ds e es z h = adding refl (ap (λ (k : Event). leave (group_name d) (point_of k)) (here-is i h)) Makes.none
    cells-made (Cells.cell {x = x} {c = c} {cs = cs} p q r) i ds e es z h =
        let k : drop i list ≡ all_both (x ∷ c) ++ (all_cells cs ++ (e ∷ es)) = h ∙ append_assoc (all_both (x ∷ c)) (all_cells cs) (e ∷ es) in
        let at : event_at list i ≡ x.entry = first_of x c i (all_cells cs ++ (e ∷ es)) k in
        let n = group_name d in
        moved (append_assoc (flush list d (closed (fresh i) i (x ∷ c))) (flushes list d (spans_from (past i (x ∷ c)) cs)) (leaves list d (past_all (past i (x ∷ c)) cs) ++ ds)) (append_assoc (all_both (x ∷ c)) (all_cells cs) (e ∷ es)) (λ j. leave n (point_of (sym at j)) ∷ enter n (point_of (sym at j)) ∷ (inner (x ∷ c) ++ (leave n (boundary cs (point_of e)) ∷ cell_events n inner (point_of e) cs)))
        (then (later-made (x ∷ c) i (flushes list d (spans_from (past i (x ∷ c)) cs) ++ (leaves list d (past_all (past i (x ∷ c)) cs) ++ ds)) (all_cells cs ++ (e ∷ es)) z k)
        (cells-made r (past i (x ∷ c)) ds e es (omega (arith, z, past_more i (x ∷ c))) (next-cells i (x ∷ c) (all_cells cs ++ (e ∷ es)) k)))

    -- the cells of a row, of which the first begins with x
    from_first : (x : Passed) (c : List Passed) {cs : List (List Passed)} → Cells cs → (i : ℕ) (ds : List Deed) (e : Event) (es : List Event) → 0 < i → drop i list ≡ all_both (x ∷ c) ++ (all_cells cs ++ (e ∷ es))
        → Makes i (flush list d (closed (bare 0 i) i (x ∷ c)) ++ (flushes list d (spans_from (past i (x ∷ c)) cs) ++ (leaves list d (past_all (past i (x ∷ c)) cs) ++ ds))) (all_both (x ∷ c) ++ (all_cells cs ++ (e ∷ es)))
        (cell_events (group_name d) inner (point_of e) ((x ∷ c) ∷ cs)) (past_all (past i (x ∷ c)) cs) ds (e ∷ es)
    unfolding cell_events
    from_first x c {cs} r i ds e es z h =
        let at : event_at list i ≡ x.entry = first_of x c i (all_cells cs ++ (e ∷ es)) h in
        moved refl refl (λ j. enter (group_name d) (point_of (sym at j)) ∷ (inner (x ∷ c) ++ (leave (group_name d) (boundary cs (point_of e)) ∷ cell_events (group_name d) inner (point_of e) cs)))
        (then (first_made (x ∷ c) i (flushes list d (spans_from (past i (x ∷ c)) cs) ++ (leaves list d (past_all (past i (x ∷ c)) cs) ++ ds)) (all_cells cs ++ (e ∷ es)) z h)
        (cells-made r (past i (x ∷ c)) ds e es (omega (arith, z, past_more i (x ∷ c))) (next-cells i (x ∷ c) (all_cells cs ++ (e ∷ es)) h)))

    first-is : (x : Passed) (xs : List Passed) → first_cell (cells false (x ∷ xs)) ≡ x ∷ first_cell (cells (is_solid x) xs)
    unfolding cells
    first-is x xs = refl

    -- all cells of a row, from its first piece at i on
    pub row_made : {x : Passed} {xs : List Passed} → Pieces (x ∷ xs) → (i : ℕ) (ds : List Deed) (e : Event) (es : List Event) → 0 < i → drop i list ≡ all_both (x ∷ xs) ++ (e ∷ es)
        → Makes i (flushes list d (spans_of false (bare 0 i) i (x ∷ xs)) ++ (leaves list d (past i (x ∷ xs)) ++ ds)) (all_both (x ∷ xs) ++ (e ∷ es)) (cell_events (group_name d) inner (point_of e) (cells false (x ∷ xs))) (past i (x ∷ xs)) ds (e ∷ es)
    unfolding flushes
    row_made {x} {xs} ps i ds e es z h =
        subst (λ (q : ℕ). Makes i (flushes list d (spans_of false (bare 0 i) i (x ∷ xs)) ++ (leaves list d (past i (x ∷ xs)) ++ ds)) (all_both (x ∷ xs) ++ (e ∷ es)) (cell_events (group_name d) inner (point_of e) (cells false (x ∷ xs))) q ds (e ∷ es)) ends
        (moved (ap (λ (k : List Span). flushes list d k ++ (leaves list d (past i (x ∷ xs)) ++ ds)) (spans_cells ps false (bare 0 i) i) ∙ append_assoc (flush list d (closed (bare 0 i) i f)) (flushes list d (spans_from (past i f) o)) (leaves list d (past i (x ∷ xs)) ++ ds)
        ∙ ap (λ (k : ℕ). flush list d (closed (bare 0 i) i f) ++ (flushes list d (spans_from (past i f) o) ++ (leaves list d k ++ ds))) (sym ends))
        split (ap (cell_events (group_name d) inner (point_of e)) (some-cell false (x ∷ xs)))
        (subst Made (sym (first-is x xs)) (λ k. from_first x (first_cell (cells (is_solid x) xs)) (cells_are ps false).1 i ds e es z k) (h ∙ split)))
      where
        f : List Passed
        f = first_cell (cells false (x ∷ xs))

        o : List (List Passed)
        o = other_cells (cells false (x ∷ xs))

        ends : past_all (past i f) o ≡ past i (x ∷ xs)
        ends = cells-past false (x ∷ xs) i

        split : all_both (x ∷ xs) ++ (e ∷ es) ≡ all_both f ++ (all_cells o ++ (e ∷ es))
        split = ap (λ (l : List Event). l ++ (e ∷ es)) (sym (cells_join false (x ∷ xs))) ∙ append_assoc (all_both f) (all_cells o) (e ∷ es)

        Made : List Passed → Type 0
        Made c = drop i list ≡ all_both c ++ (all_cells o ++ (e ∷ es)) → Makes i (flush list d (closed (bare 0 i) i c) ++ (flushes list d (spans_from (past i c) o) ++ (leaves list d (past_all (past i c) o) ++ ds))) (all_both c ++ (all_cells o ++ (e ∷ es)))
            (cell_events (group_name d) inner (point_of e) (c ∷ o)) (past_all (past i c) o) ds (e ∷ es)

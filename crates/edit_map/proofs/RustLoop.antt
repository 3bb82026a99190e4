-- What the Rust's loop does in a row: it flushes one cell after the other.
-- Assumes nothing.
use Prim.Native.Nat.{ℕ, suc, ◌<◌}
use mathlib.Core.Path.{◌≡◌, refl, sym, ap, ◌∙◌}
use mathlib.Core.List.{List, [], ◌∷◌, ◌++◌, append_assoc, append-nil}
use mathlib.Core.Bool.{Bool, true, false, cond, ◌||◌, ◌&&◌, not}
use mathlib.Core.Option.{some}
use mathlib.Core.Option as option
use lib.Dec.{eqb, eqb-suc-zero}
use native.Mathlib.Omega.{arith}
use borrow.Author.Tests.{ne_eqb}
use Rattle.tokenizer.specs.declared.event.Event.{Event}
use Rattle.tokenizer.specs.Events.{GfmTableHead, GfmTableCellDivider}
use Rattle.gfm_table.specs.Rows.{Passed, all_both}
use Rattle.edit_map.specs.Base.{is_row_name}
use Rattle.edit_map.specs.Tables.{named, is_text, is_solid, any_solid}
use Rattle.edit_map.specs.RustEdits.{Deed, add, Span, no_span, Loop, Did, if, group_name, enter_at, leave_at, flush_value, flush_cell, enter_text, enter_divider, leave_text, leave_row, stays, turn, deeds_from}
use Rattle.edit_map.proofs.Gives.{Tests}
use Rattle.edit_order.proofs.Bools.{and_false, or_false, or_true}

-- ## Pieces, as the loop tells them

-- a piece that is entered and left, of a sort
pub record Piece (s d t : Bool) (x : Passed) : Type 0 where
  pub enter : eqb x.entry.kind 1 ≡ true
  pub leave : eqb x.exit.kind 1 ≡ false
  pub head : eqb x.entry.name GfmTableHead ≡ false
  pub tests : Tests false s d t x.entry.name
  pub same : x.exit.name ≡ x.entry.name

pub data OnePiece (x : Passed) : Type 0 where
  space : Piece true false false x → OnePiece x
  divider : Piece false true false x → OnePiece x
  text : Piece false false true x → OnePiece x

pub data Pieces : List Passed → Type 0 where
  none : Pieces []
  piece : {x : Passed} {xs : List Passed} → OnePiece x → Pieces xs → Pieces (x ∷ xs)

-- ## Spans

-- a text piece at i in a cell
abbrev pub text_at : ℕ → Span → Span
text_at i c = record { before = c.before; start = c.start; from = cond (eqb c.from 0) i c.from; upto = suc i }

-- a piece at i in a cell
abbrev pub touch : Passed → ℕ → Span → Span
touch x i c = cond (is_text x) (text_at i c) c

-- a cell that starts at i
abbrev pub fresh : ℕ → Span
fresh i = record { before = i; start = i; from = 0; upto = 0 }

-- the cells of a row, from a cell and a place in it on
unfoldable pub spans_of : Bool → Span → ℕ → List Passed → List Span
spans_of seen c i [] = c ∷ []
spans_of seen c i (x ∷ xs) =
    cond (seen && (named GfmTableCellDivider x && any_solid xs))
    (c ∷ spans_of true (fresh i) (suc (suc i)) xs)
    (spans_of (seen || is_solid x) (touch x i c) (suc (suc i)) xs)

-- the position behind some pieces
unfoldable pub past : ℕ → List Passed → ℕ
past i [] = i
past i (x ∷ xs) = past (suc (suc i)) xs

spans_space : (seen : Bool) (c : Span) (i : ℕ) {x : Passed} (xs : List Passed) → Piece true false false x → spans_of seen c i (x ∷ xs) ≡ spans_of seen c (suc (suc i)) xs
unfolding spans_of
spans_space seen c i xs p = rw (p.tests.divider, p.tests.space, p.tests.text, and_false seen, or_false seen)

spans_text : (seen : Bool) (c : Span) (i : ℕ) {x : Passed} (xs : List Passed) → Piece false false true x → spans_of seen c i (x ∷ xs) ≡ spans_of true (text_at i c) (suc (suc i)) xs
unfolding spans_of
spans_text seen c i xs p = rw (p.tests.divider, p.tests.space, p.tests.text, and_false seen, or_true seen)

spans_first : (c : Span) (i : ℕ) {x : Passed} (xs : List Passed) → Piece false true false x → spans_of false c i (x ∷ xs) ≡ spans_of true c (suc (suc i)) xs
unfolding spans_of
spans_first c i xs p = rw (p.tests.space, p.tests.text)

spans_divider : (c : Span) (i : ℕ) {x : Passed} (xs : List Passed) → Piece false true false x
    → spans_of true c i (x ∷ xs) ≡ cond (any_solid xs) (c ∷ spans_of true (fresh i) (suc (suc i)) xs) (spans_of true c (suc (suc i)) xs)
unfolding spans_of
spans_divider c i xs p = rw (p.tests.divider, p.tests.text)

solid_space : {x : Passed} (xs : List Passed) → Piece true false false x → any_solid (x ∷ xs) ≡ any_solid xs
unfolding any_solid
solid_space xs p = rw p.tests.space

solid_other : {d t : Bool} {x : Passed} (xs : List Passed) → Piece false d t x → any_solid (x ∷ xs) ≡ true
unfolding any_solid
solid_other xs p = rw p.tests.space

-- whitespace alone ends the last cell
spans_none : {xs : List Passed} → Pieces xs → (c : Span) (i : ℕ) → any_solid xs ≡ false → spans_of true c i xs ≡ c ∷ []
unfolding spans_of
spans_none Pieces.none c i h = refl
spans_none (piece {xs = xs} (OnePiece.space p) ps) c i h = spans_space true c i xs p ∙ spans_none ps c (suc (suc i)) (sym (solid_space xs p) ∙ h)
spans_none (piece {xs = xs} (OnePiece.divider p) ps) c i h = absurd (mathlib.Core.Bool.true≢false (sym (solid_other xs p) ∙ h))
spans_none (piece {xs = xs} (OnePiece.text p) ps) c i h = absurd (mathlib.Core.Bool.true≢false (sym (solid_other xs p) ∙ h))

-- ## The loop

module _ (list : List Event) (d : Bool) where
  -- a cell is flushed, and left at the row's end
  abbrev pub flush : Span → List Deed
  flush r = flush_cell list d r option.none

  unfoldable pub flushes : List Span → List Deed
  flushes [] = []
  flushes (r ∷ rs) = flush r ++ flushes rs

  abbrev pub leaves : ℕ → List Deed
  leaves j = add j 0 (leave_at list (group_name d) j ∷ []) ∷ []

  flush-end : (r : Span) (j : ℕ) → flush_cell list d r (some j) ≡ flush r ++ leaves j
  unfolding flush_cell
  flush-end r j = go (if (not (eqb r.before 0)) (add r.before 0 (leave_at list (group_name d) r.before ∷ []) ∷ [])) (add r.start 0 (enter_at list (group_name d) r.start ∷ [])) (flush_value list d r)
    where
      go : (x : List Deed) (y : Deed) (z : List Deed) → x ++ (y ∷ (z ++ leaves j)) ≡ (x ++ (y ∷ (z ++ []))) ++ leaves j
      go x y z = ap (λ (k : List Deed). x ++ (y ∷ (k ++ leaves j))) (sym (append-nil z)) ∙ sym (append_assoc x (y ∷ (z ++ [])) (leaves j))

module _ (list : List Event) (d : Bool) (b : Bool) (t : ℕ) (h : Bool) where
  -- within a row, and after it
  abbrev pub inside : Bool → Span → Span → Loop
  inside a l c = record { awaits = a; in_row = true; delimiter = d; last = l; cell = c; body_next = b; table_end = t; has_body = h }

  abbrev pub outside : Bool → Span → Span → ℕ → Loop
  outside a l c j = record { awaits = a; in_row = false; delimiter = d; last = l; cell = c; body_next = b; table_end = j; has_body = h }

  abbrev from : ℕ → List Event → Loop → List Deed
  from = deeds_from list

  -- one record of a piece
  entry-is : (i k n : ℕ) (s : Loop) {sp dv tx : Bool} → eqb k 1 ≡ true → eqb n GfmTableHead ≡ false → Tests false sp dv tx n
      → turn list i k n s ≡ cond (s.in_row && tx) (enter_text list i s) (cond dv (enter_divider list i s) (stays list s))
  unfolding turn
  entry-is i k n s e g q = rw (e, g, q.row, q.text, q.divider)

  exit-is : (i k n : ℕ) (s : Loop) {sp dv tx : Bool} → eqb k 1 ≡ false → eqb n GfmTableHead ≡ false → Tests false sp dv tx n → turn list i k n s ≡ cond (s.in_row && tx) (leave_text list i s) (stays list s)
  unfolding turn
  exit-is i k n s e g q = rw (e, g, q.row, q.text)

  -- two records
  two_is : (i : ℕ) (x : Passed) (es : List Event) (s : Loop) (a c : Did) → turn list i x.entry.kind x.entry.name s ≡ a → turn list (suc i) x.exit.kind x.exit.name a.loop ≡ c
      → from i (x.entry ∷ x.exit ∷ es) s ≡ a.deeds ++ (c.deeds ++ from (suc (suc i)) es c.loop)
  unfolding deeds_from
  two_is i x es s a c e f =
      ap (λ (k : Did). k.deeds ++ ((turn list (suc i) x.exit.kind x.exit.name k.loop).deeds ++ from (suc (suc i)) es (turn list (suc i) x.exit.kind x.exit.name k.loop).loop)) e
      ∙ ap (λ (k : Did). a.deeds ++ (k.deeds ++ from (suc (suc i)) es k.loop)) f

  exit_of_lem : {sp dv tx : Bool} (i : ℕ) {x : Passed} (s : Loop) → Piece sp dv tx x → turn list i x.exit.kind x.exit.name s ≡ cond (s.in_row && tx) (leave_text list i s) (stays list s)
  exit_of_lem i {x} s p = ap (λ (n : ℕ). turn list i x.exit.kind n s) p.same ∙ exit-is i x.exit.kind x.entry.name s p.leave p.head p.tests

  entry_of_lem : {sp dv tx : Bool} (i : ℕ) {x : Passed} (s : Loop) → Piece sp dv tx x → turn list i x.entry.kind x.entry.name s ≡ cond (s.in_row && tx) (enter_text list i s) (cond dv (enter_divider list i s) (stays list s))
  entry_of_lem i {x} s p = entry-is i x.entry.kind x.entry.name s p.enter p.head p.tests

  stays-is : (s : Loop) (a b' : Did) → cond (s.in_row && false) a b' ≡ b'
  stays-is s a b' = rw (and_false s.in_row)

  space_two : (i : ℕ) {x : Passed} (es : List Event) (s : Loop) → Piece true false false x → from i (x.entry ∷ x.exit ∷ es) s ≡ from (suc (suc i)) es s
  space_two i {x} es s p = two_is i x es s (stays list s) (stays list s) (entry_of_lem i s p ∙ stays-is s _ _) (exit_of_lem (suc i) s p ∙ stays-is s _ _)

  divider_two : (i : ℕ) {x : Passed} (es : List Event) (s : Loop) → Piece false true false x → from i (x.entry ∷ x.exit ∷ es) s ≡ (enter_divider list i s).deeds ++ from (suc (suc i)) es (enter_divider list i s).loop
  divider_two i {x} es s p =
      let a = enter_divider list i s in
      two_is i x es s a (stays list a.loop) (entry_of_lem i s p ∙ stays-is s _ _) (exit_of_lem (suc i) a.loop p ∙ stays-is a.loop _ _)

  -- a text piece where no cell waits, and where one does
  text_two : (i : ℕ) {x : Passed} (es : List Event) (a : Bool) (c : Span) → Piece false false true x → from i (x.entry ∷ x.exit ∷ es) (inside a no_span c) ≡ from (suc (suc i)) es (inside false no_span (text_at i c))
  text_two i {x} es a c p = go (eqb c.from 0) refl
    where
      go : (k : Bool) → eqb c.from 0 ≡ k → from i (x.entry ∷ x.exit ∷ es) (inside a no_span c) ≡ from (suc (suc i)) es (inside false no_span (record { before = c.before; start = c.start; from = cond k i c.from; upto = suc i }))
      go true e =
          let u : Loop = inside false no_span (record { before = c.before; start = c.start; from = i; upto = c.upto }) in
          two_is i x es (inside a no_span c) (record { loop = u; deeds = [] }) (leave_text list (suc i) u) (entry_of_lem i (inside a no_span c) p ∙ rw e) (exit_of_lem (suc i) u p)
      go false e =
          let u : Loop = inside false no_span c in
          two_is i x es (inside a no_span c) (record { loop = u; deeds = [] }) (leave_text list (suc i) u) (entry_of_lem i (inside a no_span c) p ∙ rw e) (exit_of_lem (suc i) u p)

  text-waiting : (i : ℕ) {x : Passed} (es : List Event) (l : Span) (k s : ℕ) → eqb l.start 0 ≡ false → Piece false false true x
      → from i (x.entry ∷ x.exit ∷ es) (inside false l (record { before = k; start = s; from = 0; upto = 0 })) ≡ flush list d l ++ from (suc (suc i)) es (inside false no_span (text_at i (fresh s)))
  text-waiting i {x} es l k s e p =
      let w : Loop = inside false l (record { before = k; start = s; from = 0; upto = 0 }) in
      let u : Loop = inside false no_span (record { before = s; start = s; from = i; upto = 0 }) in
      two_is i x es w (record { loop = u; deeds = flush list d l }) (leave_text list (suc i) u) (entry_of_lem i w p ∙ rw e) (exit_of_lem (suc i) u p)

  -- ## A row

  -- the deeds are those wanted, then those behind the row
  pub record Leaves (ds want : List Deed) (j : ℕ) (es : List Event) : Type 0 where
    pub awaits : Bool
    pub last : Span
    pub cell : Span
    pub is : ds ≡ want ++ from (suc j) es (outside awaits last cell j)

  moved : {ds fs want need : List Deed} {j : ℕ} {es : List Event} → ds ≡ fs → want ≡ need → Leaves fs need j es → Leaves ds want j es
  moved {j = j} {es = es} e f r = record { awaits = r.awaits; last = r.last; cell = r.cell; is = e ∙ r.is ∙ ap (λ (k : List Deed). k ++ from (suc j) es (outside r.awaits r.last r.cell j)) (sym f) }

  behind : (ps : List Deed) {ds want : List Deed} {j : ℕ} {es : List Event} → Leaves ds want j es → Leaves (ps ++ ds) (ps ++ want) j es
  behind ps {want = want} {j = j} {es = es} r = record {
    awaits = r.awaits;
    last = r.last;
    cell = r.cell;
    is = ap (λ (k : List Deed). ps ++ k) r.is ∙ sym (append_assoc ps want (from (suc j) es (outside r.awaits r.last r.cell j)));
  }

  module _ (e : Event) (es : List Event) (left : eqb e.kind 1 ≡ false) (no-head : eqb e.name GfmTableHead ≡ false) (row : is_row_name e.name ≡ true) where
    abbrev after : List Passed → List Event
    after xs = all_both xs ++ (e ∷ es)

    end_is : (j : ℕ) (s : Loop) → from j (e ∷ es) s ≡ (leave_row list j s).deeds ++ from (suc j) es (leave_row list j s).loop
    unfolding deeds_from turn
    end_is j s = rw (left, no-head, row)

    -- no cell waits, and the current one is c; or the cell l waits, and what follows it may be a cell from s on
    abbrev Runs : List Passed → Type 0
    Runs xs = (seen : Bool) (c : Span) (i : ℕ) → eqb c.start 0 ≡ false → 0 < i → Leaves (from i (after xs) (inside (not seen) no_span c)) (flushes list d (spans_of seen c i xs) ++ leaves list d (past i xs)) (past i xs) es

    abbrev Waits : List Passed → Type 0
    Waits xs = (l : Span) (k s i : ℕ) → eqb l.start 0 ≡ false → eqb s 0 ≡ false → 0 < i
        → Leaves (from i (after xs) (inside false l (record { before = k; start = s; from = 0; upto = 0 }))) (flush list d l ++ (cond (any_solid xs) (flushes list d (spans_of true (fresh s) i xs)) [] ++ leaves list d (past i xs))) (past i xs) es

    -- at the end of the row
    runs_end : Runs []
    unfolding all_both spans_of past flushes
    runs_end seen c i n z = record {
      awaits = not seen;
      last = no_span;
      cell = c;
      is = end_is i (inside (not seen) no_span c) ∙ rw n (ap (λ (k : List Deed). k ++ from (suc i) es (outside (not seen) no_span c i)) (flush-end list d c i ∙ ap (λ (k : List Deed). k ++ leaves list d i) (sym (append-nil (flush list d c)))));
    }

    waits_end : Waits []
    unfolding all_both spans_of past flushes any_solid
    waits_end l k s i n m z = record {
      awaits = false;
      last = l;
      cell = fresh s;
      is = end_is i (inside false l (record { before = k; start = s; from = 0; upto = 0 })) ∙ rw n (ap (λ (q : List Deed). q ++ from (suc i) es (outside false l (fresh s) i)) (flush-end list d l i));
    }

    -- where a divider may open a cell
    divider_flushes : {xs : List Passed} → Pieces xs → (c : Span) (i : ℕ) (end : List Deed)
        → flushes list d (cond (any_solid xs) (c ∷ spans_of true (fresh i) (suc (suc i)) xs) (spans_of true c (suc (suc i)) xs)) ++ end ≡ flush list d c ++ (cond (any_solid xs) (flushes list d (spans_of true (fresh i) (suc (suc i)) xs)) [] ++ end)
    unfolding flushes
    divider_flushes {xs} ps c i end = go (any_solid xs) refl
      where
        more : List Span
        more = spans_of true (fresh i) (suc (suc i)) xs

        go : (b' : Bool) → any_solid xs ≡ b' → flushes list d (cond b' (c ∷ more) (spans_of true c (suc (suc i)) xs)) ++ end ≡ flush list d c ++ (cond b' (flushes list d more) [] ++ end)
        go true q = append_assoc (flush list d c) (flushes list d more) end
        go false q = ap (λ (k : List Span). flushes list d k ++ end) (spans_none ps c (suc (suc i)) q) ∙ append_assoc (flush list d c) [] end

    steps : {xs : List Passed} → Pieces xs → Runs xs × Waits xs
    unfolding all_both past
    steps Pieces.none = (runs_end, waits_end)
    steps (piece {x = x} {xs = xs} (OnePiece.space p) ps) = (
      λ seen c i n z. moved (space_two i (after xs) (inside (not seen) no_span c) p) (ap (λ (k : List Span). flushes list d k ++ leaves list d (past (suc (suc i)) xs)) (spans_space seen c i xs p)) ((steps ps).0 seen c (suc (suc i)) n (omega arith)),
      λ l k s i n m z. moved (space_two i (after xs) (inside false l (record { before = k; start = s; from = 0; upto = 0 })) p)
          (λ j. flush list d l ++ (cond (solid_space xs p j) (flushes list d (spans_space true (fresh s) i xs p j)) [] ++ leaves list d (past (suc (suc i)) xs))) ((steps ps).1 l k s (suc (suc i)) n m (omega arith)),
    )
    steps (piece {x = x} {xs = xs} (OnePiece.text p) ps) = (
      λ seen c i n z. moved (text_two i (after xs) (not seen) c p) (ap (λ (k : List Span). flushes list d k ++ leaves list d (past (suc (suc i)) xs)) (spans_text seen c i xs p)) ((steps ps).0 true (text_at i c) (suc (suc i)) n (omega arith)),
      λ l k s i n m z. moved (text-waiting i (after xs) l k s n p)
          (λ j. flush list d l ++ (cond (solid_other xs p j) (flushes list d (spans_text true (fresh s) i xs p j)) [] ++ leaves list d (past (suc (suc i)) xs))) (behind (flush list d l) ((steps ps).0 true (text_at i (fresh s)) (suc (suc i)) m (omega arith))),
    )
    steps (piece {x = x} {xs = xs} (OnePiece.divider p) ps) = (
      runs (steps ps),
      λ l k s i n m z. moved (divider_two i (after xs) (inside false l (record { before = k; start = s; from = 0; upto = 0 })) p ∙ rw n)
          (λ j. flush list d l ++ ((ap (λ (b' : Bool). cond b' (flushes list d (spans_of true (fresh s) i (x ∷ xs))) [] ++ leaves list d (past (suc (suc i)) xs)) (solid_other xs p) ∙ ap (λ (q : List Span). flushes list d q ++ leaves list d (past (suc (suc i)) xs)) (spans_divider (fresh s) i xs p) ∙ divider_flushes ps (fresh s) i (leaves list d (past (suc (suc i)) xs))) j))
          (behind (flush list d l) ((steps ps).1 (fresh s) s i (suc (suc i)) m (ne_eqb i 0 (λ q. omega arith)) (omega arith))),
    )
      where
        runs : Runs xs × Waits xs → Runs (x ∷ xs)
        runs ih false c i n z = moved (divider_two i (after xs) (inside true no_span c) p) (ap (λ (k : List Span). flushes list d k ++ leaves list d (past (suc (suc i)) xs)) (spans_first c i xs p)) (ih.0 true c (suc (suc i)) n (omega arith))
        runs ih true c i n z = moved (divider_two i (after xs) (inside false no_span c) p)
            (ap (λ (k : List Span). flushes list d k ++ leaves list d (past (suc (suc i)) xs)) (spans_divider c i xs p) ∙ divider_flushes ps c i (leaves list d (past (suc (suc i)) xs)))
            (ih.1 c c.start i (suc (suc i)) n (ne_eqb i 0 (λ q. omega arith)) (omega arith))

    -- the deeds in a row, from its first piece on
    pub row-deeds : {xs : List Passed} → Pieces xs → (i : ℕ) → let c : Span = record { before = 0; start = suc i; from = 0; upto = 0 } in
        Leaves (from (suc i) (after xs) (inside true no_span c)) (flushes list d (spans_of false c (suc i) xs) ++ leaves list d (past (suc i) xs)) (past (suc i) xs) es
    row-deeds ps i = (steps ps).0 false (record { before = 0; start = suc i; from = 0; upto = 0 }) (suc i) (eqb-suc-zero i) (omega arith)

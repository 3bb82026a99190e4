-- What the Rust's edits make of raw tables.
-- Assumes nothing.
use Prim.Native.Nat.{ℕ, suc}
use mathlib.Core.Path.{◌≡◌, refl, sym, ap, ◌∙◌, subst}
use mathlib.Core.List.{List, [], ◌∷◌, ◌++◌, append_assoc, append-nil}
use mathlib.Core.Bool.{Bool, true, false, cond, ◌||◌, ◌&&◌, not}
use lib.Dec.{eqb, leb, eqb-suc-zero}
use lib.ListN.{drop}
use native.Mathlib.Omega.{arith}
use borrow.Author.Tests.{eqb-true, eq-eqb}
use Rattle.tokenizer.specs.declared.event.Event.{Event}
use Rattle.tokenizer.specs.Slots.{event_at}
use Rattle.tokenizer.specs.Events.{LineEnding, GfmTable, GfmTableBody, GfmTableHead, GfmTableRow, GfmTableDelimiterRow, enter, leave, point_of}
use Rattle.gfm_table.specs.Rows.{Passed, Row, both, all_both, raw_row}
use Rattle.edit_map.specs.Base.{is_row_name}
use Rattle.edit_map.specs.Tables.{BodyRow, Table, raw_body, raw_table, raw_tables, resolved_row, resolved_text, resolved_rows, last_exit, resolved_body, resolved_table, resolved_tables}
use Rattle.edit_map.specs.Raw
use Rattle.edit_map.specs.Raw.{row_piece, delimiter_piece, IsPiece, ArePieces, IsRow, IsLineEnd, AreRows, IsTable, AreTables}
use Rattle.edit_map.specs.Accept.{accepts}
use Rattle.edit_map.specs.TablesOf.{resolved_list}
use Rattle.edit_map.specs.RustEdits.{Deed, add, Span, no_span, Loop, begin, Did, if, group_name, enter_at, flush_open, enter_head, leave_head, turn, deeds_from, stays, pool_of, by_edits}
use Rattle.edit_map.proofs.Gives.{Tests, Sort}
use Rattle.edit_map.proofs.Streams.{sort_row, sort_delimiter}
use Rattle.edit_map.proofs.Resolving.{Plain, row_plain, delimiter-plain, accepted-is}
use Rattle.edit_map.proofs.RustMade.{Makes, copy, adds, then, moved, made}
use Rattle.edit_map.proofs.RustLoop.{Piece, OnePiece, Pieces, past, spans_of, flushes, leaves, inside, outside, Leaves, row-deeds}
use Rattle.edit_map.proofs.RustCells.{here-is, next-is, inner, row_made}
use Rattle.edit_order.proofs.Bools.{both_true, and_false}

-- ## Pieces

kind_two : (k : ℕ) → eqb k 2 ≡ true → eqb k 1 ≡ false
kind_two k h = ap (λ (j : ℕ). eqb j 1) (eqb-true k 2 h)

one_piece : {allowed : ℕ → Bool} {x : Passed} → IsPiece allowed x → Sort x.entry.name → eqb x.entry.name GfmTableHead ≡ false → OnePiece x
one_piece {allowed} {x} p s h = go s
  where
    n : ℕ
    n = x.entry.name

    e : (eqb x.entry.kind 1 ≡ true) × (eqb x.entry.name n && leb x.entry.link 1 ≡ true)
    e = both_true (eqb x.entry.kind 1) (eqb x.entry.name n && leb x.entry.link 1) p.enter

    l : (eqb x.exit.kind 2 ≡ true) × (eqb x.exit.name n && leb x.exit.link 1 ≡ true)
    l = both_true (eqb x.exit.kind 2) (eqb x.exit.name n && leb x.exit.link 1) p.leave

    same : x.exit.name ≡ n
    same = eqb-true x.exit.name n (both_true (eqb x.exit.name n) (leb x.exit.link 1) l.1).0

    of : {a b c : Bool} → Tests false a b c n → Piece a b c x
    of q = record { enter = e.0; leave = kind_two x.exit.kind l.0; head = h; tests = q; same = same }

    go : Sort n → OnePiece x
    go (Sort.space q) = OnePiece.space (of q)
    go (Sort.divider q) = OnePiece.divider (of q)
    go (Sort.text q) = OnePiece.text (of q)

all-pieces : {allowed : ℕ → Bool} → ((n : ℕ) → allowed n ≡ true → Sort n) → ((n : ℕ) → allowed n ≡ true → Plain n) → {xs : List Passed} → ArePieces allowed xs → Pieces xs
all-pieces sort plain ArePieces.none = Pieces.none
all-pieces sort plain (ArePieces.piece {x = x} p ps) = Pieces.piece (one_piece p (sort x.entry.name p.known) (plain x.entry.name p.known).2) (all-pieces sort plain ps)

module _ (list : List Event) where
  abbrev from : ℕ → List Event → Loop → List Deed
  from = deeds_from list

  -- ## One record of a name that is known

  enter-turn : (n i : ℕ) (e : Event) (s : Loop) → Raw.enters n e ≡ true → turn list i e.kind e.name s ≡ turn list i 1 n s
  enter-turn n i e s h =
      let k = both_true (eqb e.kind 1) (eqb e.name n && leb e.link 1) h in
      let m = both_true (eqb e.name n) (leb e.link 1) k.1 in
      λ j. turn list i (eqb-true e.kind 1 k.0 j) (eqb-true e.name n m.0 j) s

  leave-turn : (n i : ℕ) (e : Event) (s : Loop) → Raw.leaves n e ≡ true → turn list i e.kind e.name s ≡ turn list i 2 n s
  leave-turn n i e s h =
      let k = both_true (eqb e.kind 2) (eqb e.name n && leb e.link 1) h in
      let m = both_true (eqb e.name n) (leb e.link 1) k.1 in
      λ j. turn list i (eqb-true e.kind 2 k.0 j) (eqb-true e.name n m.0 j) s

  one-is : (i : ℕ) (e : Event) (es : List Event) (s : Loop) (a : Did) → turn list i e.kind e.name s ≡ a → from i (e ∷ es) s ≡ a.deeds ++ from (suc i) es a.loop
  unfolding deeds_from
  one-is i e es s a h = ap (λ (k : Did). k.deeds ++ from (suc i) es k.loop) h

  line-enters : (i : ℕ) (s : Loop) → turn list i 1 LineEnding s ≡ stays list s
  unfolding turn
  line-enters i s = rw (and_false s.in_row)

  line-leaves : (i : ℕ) (s : Loop) → turn list i 2 LineEnding s ≡ stays list s
  unfolding turn
  line-leaves i s = rw (and_false s.in_row)

  -- a line end is copied
  line-is : (x : Passed) (i : ℕ) (es : List Event) (s : Loop) → IsLineEnd x → from i (x.entry ∷ x.exit ∷ es) s ≡ from (suc (suc i)) es s
  line-is x i es s l =
      one-is i x.entry (x.exit ∷ es) s (stays list s) (enter-turn LineEnding i x.entry s l.enter ∙ line-enters i s)
      ∙ one-is (suc i) x.exit es s (stays list s) (leave-turn LineEnding (suc i) x.exit s l.leave ∙ line-leaves (suc i) s)

  -- ## A row

  -- the body opens at the first row behind a head
  abbrev opening : Loop → Row → List Event
  opening s r = cond s.body_next (enter GfmTableBody (point_of r.entry) ∷ []) []

  record RowMade (d : Bool) (s : Loop) (r : Row) (i : ℕ) (es : List Event) : Type 0 where
    end : ℕ
    after : Loop
    made : Makes i (from i (raw_row r ++ es) s) (raw_row r ++ es) (opening s r ++ resolved_row (group_name d) (inner list d) r) (suc end) (from (suc end) es after) es
    exit : event_at list end ≡ r.exit
    some : eqb end 0 ≡ false
    body : after.body_next ≡ false
    table : after.table_end ≡ end
    has : after.has_body ≡ (s.body_next || s.has_body)
    behind : drop (suc end) list ≡ es

  abbrev bare : ℕ → Span
  bare i = record { before = 0; start = i; from = 0; upto = 0 }

  past-some : (i : ℕ) (xs : List Passed) → eqb (past (suc i) xs) 0 ≡ false
  unfolding past
  past-some i [] = eqb-suc-zero i
  past-some i (x ∷ xs) = past-some (suc (suc i)) xs

  past-drop : (i : ℕ) (xs : List Passed) (tail : List Event) → drop i list ≡ all_both xs ++ tail → drop (past i xs) list ≡ tail
  unfolding past all_both
  past-drop i [] tail h = h
  past-drop i (x ∷ xs) tail h = past-drop (suc (suc i)) xs tail (next-is list (suc i) (next-is list i h))

  -- the variables after a row's entry
  abbrev started : Bool → Loop → ℕ → Loop
  started d s i = inside list d false s.table_end (s.body_next || s.has_body) true no_span (bare (suc i))

  row-enters : (d : Bool) (n i : ℕ) (s : Loop) → is_row_name n ≡ true → eqb n GfmTableHead ≡ false → eqb n GfmTableDelimiterRow ≡ d
      → turn list i 1 n s ≡ record { loop = started d s i; deeds = if s.body_next (add i 0 (enter_at list GfmTableBody i ∷ []) ∷ []) }
  unfolding turn
  row-enters d n i s a b c = rw (a, b, c)

  row-all : (d : Bool) (n : ℕ) {allowed : ℕ → Bool} → is_row_name n ≡ true → eqb n GfmTableHead ≡ false → eqb n GfmTableDelimiterRow ≡ d
      → ((xs : List Passed) → ArePieces allowed xs → Pieces xs) → (s : Loop) (entry : Event) (xs : List Passed) (exit : Event) (i : ℕ) (es : List Event)
      → IsRow n allowed (record { entry = entry; pieces = xs; exit = exit }) → drop i list ≡ raw_row (record { entry = entry; pieces = xs; exit = exit }) ++ es
      → RowMade d s (record { entry = entry; pieces = xs; exit = exit }) i es
  row-all d n a b c of s entry [] exit i es h k = absurd (h.some refl)
  row-all d n a b c of s entry (x ∷ xs) exit i es h k = record {
    end = j;
    after = outside list d false s.table_end (s.body_next || s.has_body) r.awaits r.last r.cell j;
    made = moved (ap (λ (l : List Event). from i l s) flat ∙ first ∙ ap (λ (l : List Deed). opened ++ l) (r.is ∙ append_assoc (flushes list d spans) (leaves list d j) later)) flat refl (opens s.body_next);
    exit = here-is list j behind;
    some = past-some i (x ∷ xs);
    body = refl;
    table = refl;
    has = refl;
    behind = next-is list j behind;
  }
    where
      row : Row
      row = record { entry = entry; pieces = x ∷ xs; exit = exit }

      rest : List Event
      rest = all_both (x ∷ xs) ++ (exit ∷ es)

      flat : raw_row row ++ es ≡ entry ∷ rest
      flat = ap (λ (l : List Event). entry ∷ l) (append_assoc (all_both (x ∷ xs)) (exit ∷ []) es)

      at : drop (suc i) list ≡ rest
      at = next-is list i (k ∙ flat)

      j : ℕ
      j = past (suc i) (x ∷ xs)

      behind : drop j list ≡ exit ∷ es
      behind = past-drop (suc i) (x ∷ xs) (exit ∷ es) at

      known : (exit.kind ≡ 2) × (exit.name ≡ n)
      known =
          let q = both_true (eqb exit.kind 2) (eqb exit.name n && leb exit.link 1) h.leave in
          (eqb-true exit.kind 2 q.0, eqb-true exit.name n (both_true (eqb exit.name n) (leb exit.link 1) q.1).0)

      ps : Pieces (x ∷ xs)
      ps = of (x ∷ xs) h.pieces

      spans : List Span
      spans = spans_of false (bare (suc i)) (suc i) (x ∷ xs)

      r : Leaves list d false s.table_end (s.body_next || s.has_body) (from (suc i) rest (started d s i)) (flushes list d spans ++ leaves list d j) j es
      r = row-deeds list d false s.table_end (s.body_next || s.has_body) exit es (ap (λ (m : ℕ). eqb m 1) known.0) (ap (λ (m : ℕ). eqb m GfmTableHead) known.1 ∙ b) (ap is_row_name known.1 ∙ a) ps i

      later : List Deed
      later = from (suc j) es (outside list d false s.table_end (s.body_next || s.has_body) r.awaits r.last r.cell j)

      opened : List Deed
      opened = if s.body_next (add i 0 (enter_at list GfmTableBody i ∷ []) ∷ [])

      first : from i (entry ∷ rest) s ≡ opened ++ from (suc i) rest (started d s i)
      first = one-is i entry rest s (record { loop = started d s i; deeds = opened }) (enter-turn n i entry s h.enter ∙ row-enters d n i s a b c)

      inner-row : Makes i (flushes list d spans ++ (leaves list d j ++ later)) (entry ∷ rest) (resolved_row (group_name d) (inner list d) row) (suc j) later es
      inner-row = copy (then (row_made list d ps (suc i) later exit es (omega arith) at) (copy Makes.none))

      opens : (m : Bool) → Makes i (if m (add i 0 (enter_at list GfmTableBody i ∷ []) ∷ []) ++ (flushes list d spans ++ (leaves list d j ++ later))) (entry ∷ rest) (cond m (enter GfmTableBody (point_of entry) ∷ []) [] ++ resolved_row (group_name d) (inner list d) row) (suc j) later es
      opens true = moved (ap (λ (e : Event). add i 0 (enter GfmTableBody (point_of e) ∷ []) ∷ (flushes list d spans ++ (leaves list d j ++ later))) (here-is list i (k ∙ flat))) refl refl (adds {new = enter GfmTableBody (point_of entry) ∷ []} inner-row)
      opens false = inner-row

  text-row : (s : Loop) (r : Row) (i : ℕ) (es : List Event) → IsRow GfmTableRow row_piece r → drop i list ≡ raw_row r ++ es → RowMade false s r i es
  text-row s r i es h k = row-all false GfmTableRow refl refl refl (λ xs. all-pieces sort_row row_plain) s r.entry r.pieces r.exit i es h k

  delimiter-row : (s : Loop) (r : Row) (i : ℕ) (es : List Event) → IsRow GfmTableDelimiterRow delimiter_piece r → drop i list ≡ raw_row r ++ es → RowMade true s r i es
  delimiter-row s r i es h k = row-all true GfmTableDelimiterRow refl refl refl (λ xs. all-pieces sort_delimiter delimiter-plain) s r.entry r.pieces r.exit i es h k

  -- ## A body

  record RowsMade (s : Loop) (e : Event) (bs : List BodyRow) (i : ℕ) (es out : List Event) (h : Bool) : Type 0 where
    end : ℕ
    after : Loop
    made : Makes i (from i (raw_body bs ++ es) s) (raw_body bs ++ es) out end (from end es after) es
    next : suc after.table_end ≡ end
    some : eqb after.table_end 0 ≡ false
    exit : event_at list after.table_end ≡ last_exit e bs
    has : after.has_body ≡ h
    behind : drop end list ≡ es

  body-flat : (b : BodyRow) (bs : List BodyRow) (es : List Event) → raw_body (b ∷ bs) ++ es ≡ b.before.entry ∷ b.before.exit ∷ (raw_row b.row ++ (raw_body bs ++ es))
  unfolding raw_body
  body-flat b bs es = ap (λ (l : List Event). b.before.entry ∷ b.before.exit ∷ l) (append_assoc (raw_row b.row) (raw_body bs) es)

  -- a line end and a row, then what rows make
  pair_made : (b : BodyRow) (bs : List BodyRow) (s : Loop) (e : Event) (i : ℕ) (es out : List Event) (h : Bool) → IsLineEnd b.before → drop i list ≡ raw_body (b ∷ bs) ++ es
      → (m : RowMade false s b.row (suc (suc i)) (raw_body bs ++ es)) → RowsMade m.after b.row.exit bs (suc m.end) es out h
      → RowsMade s e (b ∷ bs) i es (b.before.entry ∷ b.before.exit ∷ ((opening s b.row ++ resolved_text b.row) ++ out)) h
  unfolding last_exit
  pair_made b bs s e i es out h l k m r = record {
    end = r.end;
    after = r.after;
    made = moved (ap (λ (q : List Event). from i q s) (body-flat b bs es) ∙ line-is b.before i (raw_row b.row ++ (raw_body bs ++ es)) s l) (body-flat b bs es) refl (copy (copy (then m.made r.made)));
    next = r.next;
    some = r.some;
    exit = r.exit;
    has = r.has;
    behind = r.behind;
  }

  same_rows : {s : Loop} {e : Event} {bs : List BodyRow} {i : ℕ} {es out new : List Event} {h g : Bool} → out ≡ new → h ≡ g → RowsMade s e bs i es new g → RowsMade s e bs i es out h
  same_rows {s} {e} {bs} {i} {es} {out} {new} {h} {g} q w r = subst (λ (l : List Event). RowsMade s e bs i es l h) (sym q) (subst (λ (k : Bool). RowsMade s e bs i es new k) (sym w) r)

  pair_drop : (b : BodyRow) (bs : List BodyRow) (i : ℕ) (es : List Event) → drop i list ≡ raw_body (b ∷ bs) ++ es → drop (suc (suc i)) list ≡ raw_row b.row ++ (raw_body bs ++ es)
  pair_drop b bs i es k = next-is list (suc i) (next-is list i (k ∙ body-flat b bs es))

  rows_made : {bs : List BodyRow} → AreRows bs → (s : Loop) (e : Event) (i : ℕ) (es : List Event) → s.body_next ≡ false → suc s.table_end ≡ i → eqb s.table_end 0 ≡ false → event_at list s.table_end ≡ e
      → drop i list ≡ raw_body bs ++ es → RowsMade s e bs i es (resolved_rows bs) s.has_body
  unfolding resolved_rows raw_body last_exit
  rows_made AreRows.none s e i es n w z q k = record { end = i; after = s; made = Makes.none; next = w; some = z; exit = q; has = refl; behind = k }
  rows_made (AreRows.row {b = b} {bs = bs} l r rs) s e i es n w z q k =
      let m = text-row s b.row (suc (suc i)) (raw_body bs ++ es) r (pair_drop b bs i es k) in
      let ih = rows_made rs m.after b.row.exit (suc m.end) es m.body (ap suc m.table) (ap (λ (j : ℕ). eqb j 0) m.table ∙ m.some) (ap (event_at list) m.table ∙ m.exit) m.behind in
      same_rows (ap (λ (c : Bool). b.before.entry ∷ b.before.exit ∷ ((cond c (enter GfmTableBody (point_of b.row.entry) ∷ []) [] ++ resolved_text b.row) ++ resolved_rows bs)) (sym n)) (ap (λ (c : Bool). c || s.has_body) (sym n) ∙ sym m.has)
      (pair_made b bs s e i es (resolved_rows bs) m.after.has_body l k m ih)

  -- the body of a table, before it is left
  abbrev body_out : List BodyRow → List Event
  body_out [] = []
  body_out (b ∷ bs) = b.before.entry ∷ b.before.exit ∷ ((enter GfmTableBody (point_of b.row.entry) ∷ resolved_text b.row) ++ resolved_rows bs)

  abbrev has_rows : List BodyRow → Bool
  has_rows [] = false
  has_rows (b ∷ bs) = true

  body-made : {bs : List BodyRow} → AreRows bs → (s : Loop) (e : Event) (i : ℕ) (es : List Event) → s.body_next ≡ true → s.has_body ≡ false → suc s.table_end ≡ i → eqb s.table_end 0 ≡ false → event_at list s.table_end ≡ e
      → drop i list ≡ raw_body bs ++ es → RowsMade s e bs i es (body_out bs) (has_rows bs)
  unfolding raw_body last_exit
  body-made AreRows.none s e i es n f w z q k = record { end = i; after = s; made = Makes.none; next = w; some = z; exit = q; has = f; behind = k }
  body-made (AreRows.row {b = b} {bs = bs} l r rs) s e i es n f w z q k =
      let m = text-row s b.row (suc (suc i)) (raw_body bs ++ es) r (pair_drop b bs i es k) in
      let ih = rows_made rs m.after b.row.exit (suc m.end) es m.body (ap suc m.table) (ap (λ (j : ℕ). eqb j 0) m.table ∙ m.some) (ap (event_at list) m.table ∙ m.exit) m.behind in
      same_rows (ap (λ (c : Bool). b.before.entry ∷ b.before.exit ∷ ((cond c (enter GfmTableBody (point_of b.row.entry) ∷ []) [] ++ resolved_text b.row) ++ resolved_rows bs)) (sym n)) (ap (λ (c : Bool). c || s.has_body) (sym n) ∙ sym m.has)
      (pair_made b bs s e i es (resolved_rows bs) m.after.has_body l k m ih)

  -- ## A table

  -- a table is left where its last row is
  abbrev closing : Bool → Event → List Event
  closing h e = cond h (leave GfmTableBody (point_of e) ∷ leave GfmTable (point_of e) ∷ []) (leave GfmTable (point_of e) ∷ [])

  body-closes : (e : Event) (bs : List BodyRow) → resolved_body e bs ≡ body_out bs ++ closing (has_rows bs) (last_exit e bs)
  unfolding last_exit
  body-closes e [] = refl
  body-closes e (b ∷ bs) = ap (λ (l : List Event). b.before.entry ∷ b.before.exit ∷ enter GfmTableBody (point_of b.row.entry) ∷ l)
      (sym (append_assoc (resolved_text b.row) (resolved_rows bs) (closing true (last_exit b.row.exit bs))))

  -- no table is open, or one that ends before i
  data Pending (s : Loop) (i : ℕ) : Type 0 where
    no_table : s.table_end ≡ 0 → s.has_body ≡ false → Pending s i
    open_table : suc s.table_end ≡ i → eqb s.table_end 0 ≡ false → Pending s i

  abbrev pending_out : Loop → List Event
  pending_out s = cond (eqb s.table_end 0) [] (closing s.has_body (event_at list s.table_end))

  flush-made : (s : Loop) (i : ℕ) (ds : List Deed) (xs : List Event) → Pending s i → Makes i (flush_open list s ++ ds) xs (pending_out s) i ds xs
  flush-made s i ds xs (no_table e f) =
      let z : eqb s.table_end 0 ≡ true = eq-eqb s.table_end 0 e in
      moved (ap (λ (b : Bool). if (not b) (add (suc s.table_end) 0 (closing s.has_body (event_at list s.table_end)) ∷ []) ++ ds) z) refl (ap (λ (b : Bool). cond b [] (closing s.has_body (event_at list s.table_end))) z) Makes.none
  flush-made s i ds xs (open_table e z) =
      let c = closing s.has_body (event_at list s.table_end) in
      moved (ap (λ (b : Bool). if (not b) (add (suc s.table_end) 0 c ∷ []) ++ ds) z ∙ ap (λ (k : ℕ). add k 0 c ∷ ds) e) refl (ap (λ (b : Bool). cond b [] c) z ∙ sym (append-nil c)) (adds {new = c} Makes.none)

  none_has : (s : Loop) (i : ℕ) → Pending s i → eqb s.table_end 0 && s.has_body ≡ false
  none_has s i (no_table e f) = ap (λ (b : Bool). eqb s.table_end 0 && b) f ∙ and_false (eqb s.table_end 0)
  none_has s i (open_table e z) = ap (λ (b : Bool). b && s.has_body) z

  -- a table's events, before it is left
  abbrev table_out : Table → List Event
  table_out t = enter GfmTable (point_of t.entry) ∷ t.entry ∷ (resolved_text t.head ++ (t.between.entry ∷ t.between.exit ∷ (resolved_row (group_name true) (inner list true) t.delimiter ++ (t.exit ∷ body_out t.body))))

  record TableMade (s : Loop) (t : Table) (i : ℕ) (es : List Event) : Type 0 where
    end : ℕ
    after : Loop
    made : Makes i (from i (raw_table t ++ es) s) (raw_table t ++ es) (pending_out s ++ table_out t) end (from end es after) es
    pending : Pending after end
    out : pending_out after ≡ closing (has_rows t.body) (last_exit t.exit t.body)
    behind : drop end list ≡ es

  head-enters : (i : ℕ) (s : Loop) → turn list i 1 GfmTableHead s ≡ enter_head list i s
  unfolding turn
  head-enters i s = refl

  head-leaves : (i : ℕ) (s : Loop) → turn list i 2 GfmTableHead s ≡ leave_head list i s
  unfolding turn
  head-leaves i s = refl

  table-made : (t : Table) → IsTable t → (s : Loop) (i : ℕ) (es : List Event) → Pending s i → drop i list ≡ raw_table t ++ es → TableMade s t i es
  table-made t h s i es p k = record {
    end = b.end;
    after = b.after;
    made = moved (ap (λ (l : List Event). from i l s) flat ∙ entry-is ∙ append_assoc (flush_open list s) (add i 0 (enter_at list GfmTable i ∷ []) ∷ []) (from (suc i) rest₁ s₁)) flat refl
        (then (flush-made s i (add i 0 (enter_at list GfmTable i ∷ []) ∷ from (suc i) rest₁ s₁) (t.entry ∷ rest₁) p) opened);
    pending = open_table b.next b.some;
    out = ap (λ (c : Bool). cond c [] (closing b.after.has_body (event_at list b.after.table_end))) b.some ∙ (λ j. closing (b.has j) (b.exit j));
    behind = b.behind;
  }
    where
      rest₄ : List Event
      rest₄ = raw_body t.body ++ es

      rest₃ : List Event
      rest₃ = raw_row t.delimiter ++ (t.exit ∷ rest₄)

      rest₂ : List Event
      rest₂ = t.between.entry ∷ t.between.exit ∷ rest₃

      rest₁ : List Event
      rest₁ = raw_row t.head ++ rest₂

      flat : raw_table t ++ es ≡ t.entry ∷ rest₁
      flat = ap (λ (l : List Event). t.entry ∷ l)
          (append_assoc (raw_row t.head) (both t.between ++ (raw_row t.delimiter ++ (t.exit ∷ raw_body t.body))) es
          ∙ ap (λ (l : List Event). raw_row t.head ++ (t.between.entry ∷ t.between.exit ∷ l)) (append_assoc (raw_row t.delimiter) (t.exit ∷ raw_body t.body) es))

      s₁ : Loop
      s₁ = (enter_head list i s).loop

      entry-is : from i (t.entry ∷ rest₁) s ≡ (flush_open list s ++ (add i 0 (enter_at list GfmTable i ∷ []) ∷ [])) ++ from (suc i) rest₁ s₁
      entry-is = one-is i t.entry rest₁ s (enter_head list i s) (enter-turn GfmTableHead i t.entry s h.enter ∙ head-enters i s)

      m : RowMade false s₁ t.head (suc i) rest₂
      m = text-row s₁ t.head (suc i) rest₂ h.head (next-is list i (k ∙ flat))

      j : ℕ
      j = suc (suc (suc m.end))

      n : RowMade true m.after t.delimiter j (t.exit ∷ rest₄)
      n = delimiter-row m.after t.delimiter j (t.exit ∷ rest₄) h.delimiter (next-is list (suc (suc m.end)) (next-is list (suc m.end) m.behind))

      s₃ : Loop
      s₃ = (leave_head list (suc n.end) n.after).loop

      exit-is : from (suc n.end) (t.exit ∷ rest₄) n.after ≡ from (suc (suc n.end)) rest₄ s₃
      exit-is = one-is (suc n.end) t.exit rest₄ n.after (leave_head list (suc n.end) n.after) (leave-turn GfmTableHead (suc n.end) t.exit n.after h.leave ∙ head-leaves (suc n.end) n.after)

      no_body : n.after.has_body ≡ false
      no_body = n.has ∙ (λ q. m.body q || m.has q) ∙ none_has s i p

      b : RowsMade s₃ t.exit t.body (suc (suc n.end)) es (body_out t.body) (has_rows t.body)
      b = body-made h.body s₃ t.exit (suc (suc n.end)) es refl no_body refl (eqb-suc-zero n.end) (here-is list (suc n.end) n.behind) (next-is list (suc n.end) n.behind)

      behind-head : Makes (suc m.end) (from (suc m.end) rest₂ m.after) rest₂ (t.between.entry ∷ t.between.exit ∷ (resolved_row (group_name true) (inner list true) t.delimiter ++ (t.exit ∷ body_out t.body))) b.end (from b.end es b.after) es
      behind-head = moved (line-is t.between (suc m.end) rest₃ m.after h.between) refl
          (ap (λ (c : Bool). t.between.entry ∷ t.between.exit ∷ ((cond c (enter GfmTableBody (point_of t.delimiter.entry) ∷ []) [] ++ resolved_row (group_name true) (inner list true) t.delimiter) ++ (t.exit ∷ body_out t.body))) (sym m.body))
          (copy (copy (then n.made (moved exit-is refl refl (copy b.made)))))

      opened : Makes i (add i 0 (enter_at list GfmTable i ∷ []) ∷ from (suc i) rest₁ s₁) (t.entry ∷ rest₁) (table_out t) b.end (from b.end es b.after) es
      opened = moved (ap (λ (e : Event). add i 0 (enter GfmTable (point_of e) ∷ []) ∷ from (suc i) rest₁ s₁) (here-is list i (k ∙ flat))) refl refl
          (adds {new = enter GfmTable (point_of t.entry) ∷ []} (copy (then m.made behind-head)))

  table_closes : (t : Table) → resolved_table t ≡ table_out t ++ closing (has_rows t.body) (last_exit t.exit t.body)
  table_closes t =
      let c = closing (has_rows t.body) (last_exit t.exit t.body) in
      let d = resolved_row (group_name true) (inner list true) t.delimiter in
      ap (λ (l : List Event). enter GfmTable (point_of t.entry) ∷ t.entry ∷ l)
      (ap (λ (l : List Event). resolved_text t.head ++ (t.between.entry ∷ t.between.exit ∷ (d ++ (t.exit ∷ l)))) (body-closes t.exit t.body)
      ∙ ap (λ (l : List Event). resolved_text t.head ++ (t.between.entry ∷ t.between.exit ∷ l)) (sym (append_assoc d (t.exit ∷ body_out t.body) c))
      ∙ sym (append_assoc (resolved_text t.head) (t.between.entry ∷ t.between.exit ∷ (d ++ (t.exit ∷ body_out t.body))) c))

  -- ## A list of tables

  record Whole (i : ℕ) (ds : List Deed) (xs out : List Event) : Type 0 where
    end : ℕ
    made : Makes i ds xs out end [] []

  tables-made : {ts : List Table} → AreTables ts → (s : Loop) (i : ℕ) → Pending s i → drop i list ≡ raw_tables ts → Whole i (from i (raw_tables ts) s) (raw_tables ts) (pending_out s ++ resolved_tables ts)
  unfolding raw_tables resolved_tables deeds_from
  tables-made AreTables.none s i p k = record { end = i; made = moved (sym (append-nil (flush_open list s))) refl (append-nil (pending_out s)) (flush-made s i [] [] p) }
  tables-made (AreTables.table {t = t} {ts = ts} h hs) s i p k =
      let m = table-made t h s i (raw_tables ts) p k in
      let w = tables-made hs m.after m.end m.pending m.behind in
      record {
        end = w.end;
        made = moved refl refl
            (ap (λ (l : List Event). pending_out s ++ l) (ap (λ (l : List Event). l ++ resolved_tables ts) (table_closes t) ∙ append_assoc (table_out t) (closing (has_rows t.body) (last_exit t.exit t.body)) (resolved_tables ts) ∙ ap (λ (l : List Event). table_out t ++ (l ++ resolved_tables ts)) (sym m.out))
            ∙ sym (append_assoc (pending_out s) (table_out t) (pending_out m.after ++ resolved_tables ts)))
            (then m.made w.made);
      }

-- the law: the edit map, under the edits that the Rust adds, makes the resolved tables
pub made_by_edits : {ts : List Table} → AreTables ts → by_edits (raw_tables ts) ≡ resolved_tables ts
made_by_edits {ts} h =
    let w = tables-made (raw_tables ts) h begin 0 (no_table refl refl) refl in
    made (pool_of (deeds_from (raw_tables ts) 0 (raw_tables ts) begin)) w.made 0 refl

-- so it makes of every list that `resolve` accepts what `resolve` gives
pub resolve_by_edits : (es : List Event) → accepts es ≡ true → by_edits es ≡ resolved_list es
resolve_by_edits es h =
    let p = accepted-is es h in
    ap by_edits p.1 ∙ made_by_edits p.0

-- A list of raw tables gives back its tables, so what resolving makes of it is what it makes of them.
-- Assumes nothing.
use Prim.Native.Nat.{ℕ, ◌≤◌}
use mathlib.Core.Path.{◌≡◌, refl, sym, ap, ◌∙◌, subst}
use mathlib.Core.List.{List, [], ◌∷◌, ◌++◌, append_assoc}
use mathlib.Core.Bool.{Bool, true, false, cond, ◌||◌, ◌&&◌}
use lib.Dec.{eqb, leb}
use lib.ListN.{length}
use borrow.Author.Tests.{eqb-true}
use Rattle.tokenizer.specs.declared.event.Event.{Event}
use Rattle.tokenizer.specs.Events.{SpaceOrTab, LineEnding, Data, GfmTableRow, GfmTableHead, GfmTableCellDivider, GfmTableDelimiterRow, GfmTableDelimiterMarker, GfmTableDelimiterFiller}
use Rattle.gfm_table.specs.Rows.{Passed, Row, both, all_both, raw_row}
use Rattle.edit_map.specs.Base.{most, is_row_name}
use Rattle.edit_map.specs.Tables.{BodyRow, Table, raw_body, raw_table, raw_tables}
use Rattle.edit_map.specs.Raw.{enters, leaves, row_piece, delimiter_piece, IsPiece, ArePieces, IsRow, IsLineEnd, AreRows, IsTable, AreTables}
use Rattle.edit_map.specs.Accept.{accepts}
use Rattle.edit_map.specs.TablesOf.{Behind, exit_of, row_exit, head_exit, piece_entry, row_entry, line_entry, head_entry, entered, left, behind, tables_of, resolved_list}
use Rattle.edit_map.proofs.Parse.{parsed}
use Rattle.edit_map.proofs.Steps.{Resolves, resolves}
use Rattle.edit_order.proofs.Bools.{both_true, either}

-- ## One record

-- an entry of the name n
enter-is : (n : ℕ) (e : Event) (es : List Event) → enters n e ≡ true → behind (e ∷ es) ≡ entered n e (behind es)
unfolding behind
enter-is n e es h =
    let k = both_true (eqb e.kind 1) (eqb e.name n && leb e.link 1) h in
    let m = both_true (eqb e.name n) (leb e.link 1) k.1 in
    ap (λ (b : Bool). cond b (entered e.name e (behind es)) (left e.name e (behind es))) k.0 ∙ ap (λ (x : ℕ). entered x e (behind es)) (eqb-true e.name n m.0)

two_one : (n : ℕ) → eqb n 2 ≡ true → eqb n 1 ≡ false
two_one n h = ap (λ (k : ℕ). eqb k 1) (eqb-true n 2 h)

-- an exit
leave-is : (n : ℕ) (e : Event) (es : List Event) → leaves n e ≡ true → behind (e ∷ es) ≡ left n e (behind es)
unfolding behind
leave-is n e es h =
    let k = both_true (eqb e.kind 2) (eqb e.name n && leb e.link 1) h in
    let m = both_true (eqb e.name n) (leb e.link 1) k.1 in
    ap (λ (b : Bool). cond b (entered e.name e (behind es)) (left e.name e (behind es))) (two_one e.kind k.0) ∙ ap (λ (x : ℕ). left x e (behind es)) (eqb-true e.name n m.0)

-- ## Pieces

-- the name of a piece is no row's, no line end's and no head's
abbrev pub Plain : ℕ → Type 0
Plain n = (is_row_name n ≡ false) × (eqb n LineEnding ≡ false) × (eqb n GfmTableHead ≡ false)

at_name : (n k : ℕ) → Plain k → eqb n k ≡ true → Plain n
at_name n k p h = subst Plain (sym (eqb-true n k h)) p

pub row_plain : (n : ℕ) → row_piece n ≡ true → Plain n
row_plain n =
    either (eqb n SpaceOrTab || eqb n GfmTableCellDivider) (eqb n Data)
    (either (eqb n SpaceOrTab) (eqb n GfmTableCellDivider) (at_name n SpaceOrTab (refl, refl, refl)) (at_name n GfmTableCellDivider (refl, refl, refl)))
    (at_name n Data (refl, refl, refl))

pub delimiter-plain : (n : ℕ) → delimiter_piece n ≡ true → Plain n
delimiter-plain n =
    either (eqb n SpaceOrTab || eqb n GfmTableCellDivider) (eqb n GfmTableDelimiterMarker || eqb n GfmTableDelimiterFiller)
    (either (eqb n SpaceOrTab) (eqb n GfmTableCellDivider) (at_name n SpaceOrTab (refl, refl, refl)) (at_name n GfmTableCellDivider (refl, refl, refl)))
    (either (eqb n GfmTableDelimiterMarker) (eqb n GfmTableDelimiterFiller) (at_name n GfmTableDelimiterMarker (refl, refl, refl)) (at_name n GfmTableDelimiterFiller (refl, refl, refl)))

-- a row is left, or entered
row-left : (n : ℕ) (e : Event) (b : Behind) → is_row_name n ≡ true → left n e b ≡ row_exit e b
row-left n e b h = rw h

row-entered : (n : ℕ) (e : Event) (b : Behind) → is_row_name n ≡ true → entered n e b ≡ row_entry e b
row-entered n e b h = rw h

plain-entered : (n : ℕ) (e : Event) (b : Behind) → Plain n → entered n e b ≡ piece_entry e b
plain-entered n e b p = rw (p.0, p.1, p.2)

plain-left : (n : ℕ) (e : Event) (b : Behind) → Plain n → left n e b ≡ exit_of e b
plain-left n e b p = rw (p.0, p.2)

piece_is : {allowed : ℕ → Bool} → ((n : ℕ) → allowed n ≡ true → Plain n) → {x : Passed} → IsPiece allowed x → (es : List Event) → behind (x.entry ∷ x.exit ∷ es) ≡ piece_entry x.entry (exit_of x.exit (behind es))
piece_is ok {x} p es =
    let n = x.entry.name in
    enter-is n x.entry (x.exit ∷ es) p.enter ∙ plain-entered n x.entry (behind (x.exit ∷ es)) (ok n p.known)
    ∙ ap (piece_entry x.entry) (leave-is n x.exit es p.leave ∙ plain-left n x.exit (behind es) (ok n p.known))

-- ## Rows

-- what of a state a row does not change
record Kept (b c : Behind) : Type 0 where
  pairs : b.pairs ≡ c.pairs
  exit : b.exit ≡ c.exit
  body : b.body ≡ c.body
  tables : b.tables ≡ c.tables

record PiecesRead (xs : List Passed) (e : Event) (b c : Behind) : Type 0 where
  pieces : b.pieces ≡ xs
  leave : b.leave ≡ e
  kept : Kept b c

same-pieces : {xs : List Passed} {e : Event} {b d c : Behind} → b ≡ d → PiecesRead xs e d c → PiecesRead xs e b c
same-pieces {xs} {e} {b} {d} {c} q r = subst (λ (k : Behind). PiecesRead xs e k c) (sym q) r

pieces-read : {allowed : ℕ → Bool} → ((n : ℕ) → allowed n ≡ true → Plain n) → {xs : List Passed} → ArePieces allowed xs → (n : ℕ) → is_row_name n ≡ true → (e : Event) (es : List Event) → leaves n e ≡ true
    → PiecesRead xs e (behind (all_both xs ++ (e ∷ es))) (behind es)
unfolding all_both
pieces-read ok ArePieces.none n row e es h = same-pieces {d = row_exit e (behind es)} (leave-is n e es h ∙ row-left n e (behind es) row) (record { pieces = refl; leave = refl; kept = record { pairs = refl; exit = refl; body = refl; tables = refl } })
pieces-read ok (ArePieces.piece {x = x} {xs = xs} p ps) n row e es h =
    let r = pieces-read ok ps n row e es h in
    same-pieces (piece_is ok p (all_both xs ++ (e ∷ es))) (record { pieces = ap (λ (l : List Passed). x ∷ l) r.pieces; leave = r.leave; kept = record { pairs = r.kept.pairs; exit = r.kept.exit; body = r.kept.body; tables = r.kept.tables } })

record RowRead (r : Row) (b c : Behind) : Type 0 where
  row : b.row ≡ r
  kept : Kept b c

row_read : {allowed : ℕ → Bool} → ((n : ℕ) → allowed n ≡ true → Plain n) → (n : ℕ) → is_row_name n ≡ true → {r : Row} → IsRow n allowed r → (es : List Event) → RowRead r (behind (raw_row r ++ es)) (behind es)
row_read ok n row {r} h es =
    let p = pieces-read ok h.pieces n row r.exit es h.leave in
    let q : behind (raw_row r ++ es) ≡ row_entry r.entry (behind (all_both r.pieces ++ (r.exit ∷ es))) =
    ap (λ (l : List Event). behind (r.entry ∷ l)) (append_assoc (all_both r.pieces) (r.exit ∷ []) es)
    ∙ enter-is n r.entry (all_both r.pieces ++ (r.exit ∷ es)) h.enter
    ∙ row-entered n r.entry (behind (all_both r.pieces ++ (r.exit ∷ es))) row in
    subst (λ (k : Behind). RowRead r k (behind es)) (sym q) (record { row = λ i. record { entry = r.entry; pieces = p.pieces i; exit = p.leave i }; kept = record { pairs = p.kept.pairs; exit = p.kept.exit; body = p.kept.body; tables = p.kept.tables } })

-- a line end before a row
record PairRead (x : Passed) (r : Row) (b c : Behind) : Type 0 where
  pairs : b.pairs ≡ record { before = x; row = r } ∷ c.pairs
  exit : b.exit ≡ c.exit
  body : b.body ≡ c.body
  tables : b.tables ≡ c.tables

pair_read : {allowed : ℕ → Bool} → ((n : ℕ) → allowed n ≡ true → Plain n) → (n : ℕ) → is_row_name n ≡ true → {x : Passed} {r : Row} → IsLineEnd x → IsRow n allowed r → (es : List Event) → PairRead x r (behind (both x ++ (raw_row r ++ es))) (behind es)
pair_read ok n row {x} {r} l h es =
    let p = row_read ok n row h es in
    let q : behind (both x ++ (raw_row r ++ es)) ≡ line_entry x.entry (exit_of x.exit (behind (raw_row r ++ es))) =
    enter-is LineEnding x.entry (x.exit ∷ (raw_row r ++ es)) l.enter ∙ ap (line_entry x.entry) (leave-is LineEnding x.exit (raw_row r ++ es) l.leave) in
    subst (λ (k : Behind). PairRead x r k (behind es)) (sym q)
    (record { pairs = λ i. record { before = x; row = p.row i } ∷ p.kept.pairs i; exit = p.kept.exit; body = p.kept.body; tables = p.kept.tables })

-- ## Tables

abbrev BodyRead : List BodyRow → Behind → Behind → Type 0
BodyRead bs b c = (b.pairs ≡ bs ++ c.pairs) × (b.tables ≡ c.tables)

body-read : {bs : List BodyRow} → AreRows bs → (es : List Event) → BodyRead bs (behind (raw_body bs ++ es)) (behind es)
unfolding raw_body
body-read AreRows.none es = (refl, refl)
body-read (AreRows.row {b = b} {bs = bs} l r rs) es =
    let p = pair_read row_plain GfmTableRow refl l r (raw_body bs ++ es) in
    let q = body-read rs es in
    subst (λ (k : List Event). BodyRead (b ∷ bs) (behind k) (behind es)) (ap (λ (k : List Event). both b.before ++ k) (sym (append_assoc (raw_row b.row) (raw_body bs) es)))
    (p.pairs ∙ ap (λ (k : List BodyRow). b ∷ k) q.0, p.tables ∙ q.1)

abbrev TableRead : List Table → Behind → Type 0
TableRead ts b = (b.tables ≡ ts) × (b.pairs ≡ [])

table-read : {t : Table} {ts : List Table} → IsTable t → (es : List Event) → TableRead ts (behind es) → TableRead (t ∷ ts) (behind (raw_table t ++ es))
table-read {t} {ts} h es r = subst (TableRead (t ∷ ts)) (sym whole) (tabled, refl)
  where
    rest : List Event
    rest = raw_body t.body ++ es

    b : BodyRead t.body (behind rest) (behind es)
    b = body-read h.body es

    after : Behind
    after = behind (t.exit ∷ rest)

    after_is : after ≡ head_exit t.exit (behind rest)
    after_is = leave-is GfmTableHead t.exit rest h.leave

    second : PairRead t.between t.delimiter (behind (both t.between ++ (raw_row t.delimiter ++ (t.exit ∷ rest)))) after
    second = pair_read delimiter-plain GfmTableDelimiterRow refl h.between h.delimiter (t.exit ∷ rest)

    front : Behind
    front = behind (raw_row t.head ++ (both t.between ++ (raw_row t.delimiter ++ (t.exit ∷ rest))))

    first : RowRead t.head front (behind (both t.between ++ (raw_row t.delimiter ++ (t.exit ∷ rest))))
    first = row_read row_plain GfmTableRow refl h.head (both t.between ++ (raw_row t.delimiter ++ (t.exit ∷ rest)))

    split : raw_table t ++ es ≡ t.entry ∷ (raw_row t.head ++ (both t.between ++ (raw_row t.delimiter ++ (t.exit ∷ rest))))
    split = ap (λ (l : List Event). t.entry ∷ l)
        (append_assoc (raw_row t.head) (both t.between ++ (raw_row t.delimiter ++ (t.exit ∷ raw_body t.body))) es
        ∙ ap (λ (l : List Event). raw_row t.head ++ (both t.between ++ l)) (append_assoc (raw_row t.delimiter) (t.exit ∷ raw_body t.body) es))

    whole : behind (raw_table t ++ es) ≡ head_entry t.entry front
    whole = ap behind split ∙ enter-is GfmTableHead t.entry (raw_row t.head ++ (both t.between ++ (raw_row t.delimiter ++ (t.exit ∷ rest)))) h.enter

    pairs : front.pairs ≡ record { before = t.between; row = t.delimiter } ∷ []
    pairs = first.kept.pairs ∙ second.pairs ∙ ap (λ (l : List BodyRow). record { before = t.between; row = t.delimiter } ∷ l) (ap (λ (k : Behind). k.pairs) after_is)

    exit : front.exit ≡ t.exit
    exit = first.kept.exit ∙ second.exit ∙ ap (λ (k : Behind). k.exit) after_is

    body_nil : (l : List BodyRow) → l ++ [] ≡ l
    body_nil [] = refl
    body_nil (x ∷ l) = ap (λ (k : List BodyRow). x ∷ k) (body_nil l)

    body : front.body ≡ t.body
    body = first.kept.body ∙ second.body ∙ ap (λ (k : Behind). k.body) after_is ∙ b.0 ∙ ap (λ (l : List BodyRow). t.body ++ l) r.1 ∙ body_nil t.body

    tables : front.tables ≡ ts
    tables = first.kept.tables ∙ second.tables ∙ ap (λ (k : Behind). k.tables) after_is ∙ b.1 ∙ r.0

    tabled : (head_entry t.entry front).tables ≡ t ∷ ts
    tabled = ap (λ (l : List BodyRow). Rattle.edit_map.specs.TablesOf.table_of t.entry front l) pairs
        ∙ (λ i. record { entry = t.entry; head = first.row i; between = t.between; delimiter = t.delimiter; exit = exit i; body = body i } ∷ tables i)

tables-read : {ts : List Table} → AreTables ts → TableRead ts (behind (raw_tables ts))
unfolding raw_tables behind
tables-read AreTables.none = (refl, refl)
tables-read (AreTables.table {t = t} {ts = ts} h hs) = table-read h (raw_tables ts) (tables-read hs)

-- the tables of a list of raw tables
pub tables_of_lem : {ts : List Table} → AreTables ts → tables_of (raw_tables ts) ≡ ts
tables_of_lem h = (tables-read h).0

-- an accepted list is made of its tables
pub accepted-is : (es : List Event) → accepts es ≡ true → AreTables (tables_of es) × (es ≡ raw_tables (tables_of es))
accepted-is es h =
    let p = parsed es h in
    let same : tables_of es ≡ p.tables = ap tables_of p.raw ∙ tables_of_lem p.good in
    (subst AreTables (sym same) p.good, p.raw ∙ ap raw_tables (sym same))

-- for an accepted list, the slots get its resolved list, once those behind it are cleared; the cursor knows whether that is done, and how many records it gave
pub resolve_stream : (es : List Event) → accepts es ≡ true → length es ≤ most → (ys : List Event) → Resolves es (resolved_list es) ys
resolve_stream es h fits ys =
    let p = accepted-is es h in
    subst (λ (l : List Event). Resolves l (resolved_list es) ys) (sym p.1) (resolves p.0 (subst (λ (l : List Event). length l ≤ most) p.1 fits) ys)

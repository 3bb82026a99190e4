-- The automaton accepts the lists that are made of raw tables, and no others.
-- Assumes nothing.
use Prim.Native.Nat.{ℕ}
use mathlib.Core.Path.{◌≡◌, refl, sym, ap, ◌∙◌, subst}
use mathlib.Core.Logic.{◌↔◌}
use mathlib.Core.List.{List, [], ◌∷◌, ◌++◌, append_assoc}
use mathlib.Core.Bool.{Bool, true, false, cond, ◌&&◌, true≢false}
use lib.Dec.{eqb, leb}
use borrow.Author.Tests.{eqb-true}
use Rattle.std.specs.Bool.{then_some}
use Rattle.std.specs.Prelude.{Option, Some, None, is_none, option_and_then}
use Rattle.tokenizer.specs.declared.event.Event.{Event}
use Rattle.tokenizer.specs.Events.{GfmTableHead, LineEnding}
use Rattle.gfm_table.specs.Rows.{Passed, Row, both, all_both, raw_row}
use Rattle.gfm_table.specs.declared.stream.Part.{Part}
use Rattle.gfm_table.specs.Stream.{name_of}
use Rattle.edit_map.specs.declared.resolve_accept.Place.{Place}
use Rattle.edit_map.specs.declared.resolve_accept.Place.TheVariants.{Start, Entry, Fresh, Within, Between, HeadLeave, Closed}
use Rattle.edit_map.specs.declared.resolve_accept.Reading.{Reading}
use Rattle.edit_map.specs.Tables.{BodyRow, Table, raw_body, raw_table, raw_tables}
use Rattle.edit_map.specs.Raw.{enters, leaves, IsPiece, ArePieces, IsRow, IsLineEnd, AreRows, IsTable, AreTables, Parsed}
use Rattle.edit_map.specs.Accept.{piece_of, at, ending, entry_of, after_row, read_in, read_due, read_step, read_all, whole, all_accepted, accepts}
use Rattle.edit_order.proofs.Bools.{both_true}

-- ## What is left to read at each place

-- a record that passes a test, then what K says
record Next (test : Event → Bool) (K : List Event → Type 0) (es : List Event) : Type 0 where
  head : Event
  rest : List Event
  passes : test head ≡ true
  then : K rest
  is : es ≡ head ∷ rest

-- the rest of a row's pieces and its exit
record PiecesThen (p : Part) (K : List Event → Type 0) (es : List Event) : Type 0 where
  pieces : List Passed
  exit : Event
  rest : List Event
  good : ArePieces (piece_of p) pieces
  leave : leaves (name_of p) exit ≡ true
  then : K rest
  is : es ≡ all_both pieces ++ (exit ∷ rest)

record SomeThen (p : Part) (K : List Event → Type 0) (es : List Event) : Type 0 where
  these : PiecesThen p K es
  some : these.pieces ≡ [] → ⊥

record RowThen (p : Part) (K : List Event → Type 0) (es : List Event) : Type 0 where
  row : Row
  rest : List Event
  good : IsRow (name_of p) (piece_of p) row
  then : K rest
  is : es ≡ raw_row row ++ rest

record EndThen (K : List Event → Type 0) (es : List Event) : Type 0 where
  end : Passed
  rest : List Event
  good : IsLineEnd end
  then : K rest
  is : es ≡ both end ++ rest

-- pairs of line end and row, then tables
record RowsThen (es : List Event) : Type 0 where
  body : List BodyRow
  tables : List Table
  rows : AreRows body
  good : AreTables tables
  is : es ≡ raw_body body ++ raw_tables tables

abbrev AfterDelimiter : List Event → Type 0
AfterDelimiter = Next (leaves GfmTableHead) RowsThen

abbrev AfterHeader : List Event → Type 0
AfterHeader = EndThen (RowThen Part.Delimiter AfterDelimiter)

abbrev After : Part → List Event → Type 0
After Part.Head = AfterHeader
After Part.Delimiter = AfterDelimiter
After Part.Body = RowsThen

abbrev Left : Place → Part → List Event → Type 0
Left Start p = Parsed
Left Entry p = RowThen p (After p)
Left Fresh p = SomeThen p (After p)
Left Within p = PiecesThen p (After p)
Left Between p = AfterHeader
Left HeadLeave p = AfterDelimiter
Left Closed p = RowsThen

-- where something is due, its exit comes first
abbrev LeftOpen : Option ℕ → Place → Part → List Event → Type 0
LeftOpen None l p = Left l p
LeftOpen (Some n) l p = Next (leaves n) (Left l p)

abbrev LeftAt : Reading → List Event → Type 0
LeftAt r = LeftOpen r.due r.place r.part

-- where there is no reading, no list has such records
abbrev LeftIf : Option Reading → List Event → Type 0
LeftIf None es = ⊥
LeftIf (Some r) es = LeftAt r es

-- ## One record more

pub no_nil : {A : Type 0} {x : A} {xs : List A} → x ∷ xs ≡ [] → ⊥
no_nil {A} {x} {xs} e = subst full e tt
  where
    full : List A → Type 0
    full [] = ⊥
    full (y ∷ ys) = Unit {0}

-- what is read passed its test
when : (r : Reading) (b : Bool) (es : List Event) → LeftIf (then_some b r) es → (b ≡ true) × LeftAt r es
when r true es l = (refl, l)
when r false es l = absurd l

entry-left : (p : Part) (e : Event) (es : List Event) → LeftIf (entry_of p e) es → SomeThen p (After p) (e ∷ es)
unfolding all_both
entry-left p e es l =
    let w = when (record { place = Within; part = p; due = Some e.name }) (piece_of p e.name && enters e.name e) es l in
    let t = both_true (piece_of p e.name) (enters e.name e) w.0 in
    let n : Next (leaves e.name) (PiecesThen p (After p)) es = w.1 in
    let q = n.then in
    record {
      these = record {
        pieces = record { entry = e; exit = n.head } ∷ q.pieces;
        exit = q.exit;
        rest = q.rest;
        good = ArePieces.piece (record { known = t.0; enter = t.1; leave = n.passes }) q.good;
        leave = q.leave;
        then = q.then;
        is = ap (λ (l : List Event). e ∷ l) (n.is ∙ ap (λ (l : List Event). n.head ∷ l) q.is);
      };
      some = λ x. no_nil x;
    }

row-left : (p : Part) → (es : List Event) → LeftAt (after_row p) es → After p es
row-left Part.Head es l = l
row-left Part.Delimiter es l = l
row-left Part.Body es l = l

within-left : (p : Part) (e : Event) (es : List Event) → LeftIf (read_in Within p e) es → PiecesThen p (After p) (e ∷ es)
unfolding all_both
within-left p e es = go (leaves (name_of p) e) refl
  where
    go : (b : Bool) → leaves (name_of p) e ≡ b → LeftIf (cond b (Some (after_row p)) (entry_of p e)) es → PiecesThen p (After p) (e ∷ es)
    go true h l = record { pieces = []; exit = e; rest = es; good = ArePieces.none; leave = h; then = row-left p es l; is = refl }
    go false h l = (entry-left p e es l).these

-- a row is entered
row-entry : (p : Part) (e : Event) (es : List Event) → LeftIf (read_in Entry p e) es → RowThen p (After p) (e ∷ es)
row-entry p e es l =
    let w = when (at Fresh p) (enters (name_of p) e) es l in
    let q = w.1.these in
    record {
      row = record { entry = e; pieces = q.pieces; exit = q.exit };
      rest = q.rest;
      good = record { enter = w.0; pieces = q.good; some = w.1.some; leave = q.leave };
      then = q.then;
      is = ap (λ (l : List Event). e ∷ l) (q.is ∙ sym (append_assoc (all_both q.pieces) (q.exit ∷ []) q.rest));
    }

-- a line end is entered, before a row
end-entry : (p : Part) (e : Event) (es : List Event) → enters LineEnding e ≡ true → LeftAt (ending p) es → EndThen (RowThen p (After p)) (e ∷ es)
end-entry p e es t n = record { end = record { entry = e; exit = n.head }; rest = n.rest; good = record { enter = t; leave = n.passes }; then = n.then; is = ap (λ (l : List Event). e ∷ l) n.is }

-- a head is entered
pub table_is : (t : Table) (es : List Event) → t.entry ∷ (raw_row t.head ++ (both t.between ++ (raw_row t.delimiter ++ (t.exit ∷ raw_body t.body ++ es)))) ≡ raw_table t ++ es
table_is t es =
    ap (λ (l : List Event). t.entry ∷ l)
    (ap (λ (l : List Event). raw_row t.head ++ (both t.between ++ l)) (sym (append_assoc (raw_row t.delimiter) (t.exit ∷ raw_body t.body) es))
    ∙ sym (append_assoc (raw_row t.head) (both t.between ++ (raw_row t.delimiter ++ (t.exit ∷ raw_body t.body))) es))

head-entry : (e : Event) (es : List Event) → enters GfmTableHead e ≡ true → RowThen Part.Head AfterHeader es → Parsed (e ∷ es)
unfolding raw_tables
head-entry e es h a =
    let b = a.then in
    let c = b.then in
    let d = c.then in
    let r = d.then in
    let t : Table = record { entry = e; head = a.row; between = b.end; delimiter = c.row; exit = d.head; body = r.body } in
    record {
      tables = t ∷ r.tables;
      good = AreTables.table (record { enter = h; head = a.good; between = b.good; delimiter = c.good; leave = d.passes; body = r.rows }) r.good;
      raw =
          ap (λ (l : List Event). e ∷ l)
          (a.is ∙ ap (λ (l : List Event). raw_row a.row ++ l)
          (b.is ∙ ap (λ (l : List Event). both b.end ++ l)
          (c.is ∙ ap (λ (l : List Event). raw_row c.row ++ l)
          (d.is ∙ ap (λ (l : List Event). d.head ∷ l) r.is))))
          ∙ table_is t (raw_tables r.tables);
    }

-- a body row, or another table
closed-left : (e : Event) (es : List Event) → LeftIf (read_in Closed Part.Head e) es → RowsThen (e ∷ es)
unfolding raw_body
closed-left e es = go (enters LineEnding e) refl
  where
    table : Parsed (e ∷ es) → RowsThen (e ∷ es)
    table p = record { body = []; tables = p.tables; rows = AreRows.none; good = p.good; is = p.raw }

    row : EndThen (RowThen Part.Body RowsThen) (e ∷ es) → RowsThen (e ∷ es)
    row n =
        let a = n.then in
        let r = a.then in
        record {
          body = record { before = n.end; row = a.row } ∷ r.body;
          tables = r.tables;
          rows = AreRows.row n.good a.good r.rows;
          good = r.good;
          is = n.is ∙ ap (λ (l : List Event). both n.end ++ l) (a.is ∙ ap (λ (l : List Event). raw_row a.row ++ l) r.is ∙ sym (append_assoc (raw_row a.row) (raw_body r.body) (raw_tables r.tables)));
        }

    go : (b : Bool) → enters LineEnding e ≡ b → LeftIf (cond b (Some (ending Part.Body)) (then_some (enters GfmTableHead e) (at Entry Part.Head))) es → RowsThen (e ∷ es)
    go true h l = row (end-entry Part.Body e es h l)
    go false h l = let w = when (at Entry Part.Head) (enters GfmTableHead e) es l in table (head-entry e es w.0 w.1)

step_left : (l : Place) (p : Part) (e : Event) (es : List Event) → LeftIf (read_in l p e) es → Left l p (e ∷ es)
step_left Start p e es h = let w = when (at Entry Part.Head) (enters GfmTableHead e) es h in head-entry e es w.0 w.1
step_left Entry p e es h = row-entry p e es h
step_left Fresh p e es h = entry-left p e es h
step_left Within p e es h = within-left p e es h
step_left Between p e es h = let w = when (ending Part.Delimiter) (enters LineEnding e) es h in end-entry Part.Delimiter e es w.0 w.1
step_left HeadLeave p e es h = let w = when (at Closed Part.Head) (leaves GfmTableHead e) es h in record { head = e; rest = es; passes = w.0; then = w.1; is = refl }
step_left Closed p e es h = closed-left e es h

-- ## What is accepted is made of raw tables

end-left : (l : Place) (p : Part) → whole l ≡ true → Left l p []
unfolding raw_tables raw_body
end-left Start p h = record { tables = []; good = AreTables.none; raw = refl }
end-left Entry p h = absurd (true≢false (sym h))
end-left Fresh p h = absurd (true≢false (sym h))
end-left Within p h = absurd (true≢false (sym h))
end-left Between p h = absurd (true≢false (sym h))
end-left HeadLeave p h = absurd (true≢false (sym h))
end-left Closed p h = record { body = []; tables = []; rows = AreRows.none; good = AreTables.none; is = refl }

left_at : (r : Reading) (es : List Event) → all_accepted (read_all r es) ≡ true → LeftAt r es
unfolding read_all
left_at r [] h = go r.due (both_true (is_none r.due) (whole r.place) h)
  where
    go : (d : Option ℕ) → (is_none d ≡ true) × (whole r.place ≡ true) → LeftOpen d r.place r.part []
    go None t = end-left r.place r.part t.1
    go (Some n) t = absurd (true≢false (sym t.0))
left_at r (e ∷ es) h = go r.due (on (read_step r e) (λ t. left_at t es) h)
  where
    on : (o : Option Reading) → ((t : Reading) → all_accepted (read_all t es) ≡ true → LeftAt t es) → all_accepted (option_and_then (λ t. read_all t es) o) ≡ true → LeftIf o es
    on None ih h = absurd (true≢false (sym h))
    on (Some t) ih h = ih t h

    go : (d : Option ℕ) → LeftIf (read_due d r.place r.part e) es → LeftOpen d r.place r.part (e ∷ es)
    go None l = step_left r.place r.part e es l
    go (Some n) l = let w = when (at r.place r.part) (leaves n e) es l in record { head = e; rest = es; passes = w.0; then = w.1; is = refl }

pub parsed : (es : List Event) → accepts es ≡ true → Parsed es
parsed es h = left_at (at Start Part.Head) es h

-- ## What is made of raw tables is accepted

enters_is : (n : ℕ) (e : Event) → enters n e ≡ true → (e.kind ≡ 1) × (e.name ≡ n)
enters_is n e h =
    let t = both_true (eqb e.kind 1) (eqb e.name n && leb e.link 1) h in
    (eqb-true e.kind 1 t.0, eqb-true e.name n (both_true (eqb e.name n) (leb e.link 1) t.1).0)

-- what enters does not leave
pub no-leave : (n m : ℕ) (e : Event) → enters n e ≡ true → leaves m e ≡ false
no-leave n m e h = rw (enters_is n e h).0

pub no_line_end : (e : Event) → enters GfmTableHead e ≡ true → enters LineEnding e ≡ false
no_line_end e h = rw ((enters_is GfmTableHead e h).0, (enters_is GfmTableHead e h).1)

-- a record that is read
pub read_on : {t : Reading} (r : Reading) (e : Event) (es : List Event) → read_step r e ≡ Some t → read_all r (e ∷ es) ≡ read_all t es
unfolding read_all
read_on r e es q = ap (option_and_then (λ t. read_all t es)) q

-- a piece is entered, and then left
abbrev opened : Part → Passed → Reading
opened p x = record { place = Within; part = p; due = Some x.entry.name }

fresh-entry : (p : Part) {x : Passed} → IsPiece (piece_of p) x → entry_of p x.entry ≡ Some (opened p x)
fresh-entry p h = rw (h.known, h.enter)

within-entry : (p : Part) {x : Passed} → IsPiece (piece_of p) x → read_step (at Within p) x.entry ≡ Some (opened p x)
within-entry p {x} h = rw (no-leave x.entry.name (name_of p) x.entry h.enter) (fresh-entry p h)

piece-exit : (p : Part) {x : Passed} → IsPiece (piece_of p) x → read_step (opened p x) x.exit ≡ Some (at Within p)
piece-exit p h = ap (λ (b : Bool). then_some b (at Within p)) h.leave

pieces-read : (p : Part) {xs : List Passed} (es : List Event) → ArePieces (piece_of p) xs → read_all (at Within p) (all_both xs ++ es) ≡ read_all (at Within p) es
unfolding all_both
pieces-read p es ArePieces.none = refl
pieces-read p es (ArePieces.piece {x = x} {xs = xs} h hs) = read_on (at Within p) x.entry (x.exit ∷ all_both xs ++ es) (within-entry p h) ∙ read_on (opened p x) x.exit (all_both xs ++ es) (piece-exit p h) ∙ pieces-read p es hs

fresh-read : (p : Part) {xs : List Passed} (es : List Event) → ArePieces (piece_of p) xs → (xs ≡ [] → ⊥) → read_all (at Fresh p) (all_both xs ++ es) ≡ read_all (at Within p) es
unfolding all_both
fresh-read p es ArePieces.none n = absurd (n refl)
fresh-read p es (ArePieces.piece {x = x} {xs = xs} h hs) n = read_on (at Fresh p) x.entry (x.exit ∷ all_both xs ++ es) (fresh-entry p h) ∙ read_on (opened p x) x.exit (all_both xs ++ es) (piece-exit p h) ∙ pieces-read p es hs

row_read : (p : Part) {r : Row} (es : List Event) → IsRow (name_of p) (piece_of p) r → read_all (at Entry p) (raw_row r ++ es) ≡ read_all (after_row p) es
row_read p {r} es h =
    read_on (at Entry p) r.entry (all_both r.pieces ++ (r.exit ∷ []) ++ es) (ap (λ (b : Bool). then_some b (at Fresh p)) h.enter)
    ∙ ap (read_all (at Fresh p)) (append_assoc (all_both r.pieces) (r.exit ∷ []) es)
    ∙ fresh-read p (r.exit ∷ es) h.pieces h.some
    ∙ read_on (at Within p) r.exit es (ap (λ (b : Bool). cond b (Some (after_row p)) (entry_of p r.exit)) h.leave)

-- a line end, before a row
end_read : (p : Part) {x : Passed} (es : List Event) → IsLineEnd x → read_all (ending p) (x.exit ∷ es) ≡ read_all (at Entry p) es
end_read p {x} es h = read_on (ending p) x.exit es (ap (λ (b : Bool). then_some b (at Entry p)) h.leave)

body-read : {bs : List BodyRow} (es : List Event) → AreRows bs → read_all (at Closed Part.Head) (raw_body bs ++ es) ≡ read_all (at Closed Part.Head) es
unfolding raw_body
body-read es AreRows.none = refl
body-read es (AreRows.row {b = b} {bs = bs} l r h) =
    read_on (at Closed Part.Head) b.before.entry (b.before.exit ∷ (raw_row b.row ++ raw_body bs) ++ es) (ap (λ (t : Bool). cond t (Some (ending Part.Body)) (then_some (enters GfmTableHead b.before.entry) (at Entry Part.Head))) l.enter)
    ∙ end_read Part.Body ((raw_row b.row ++ raw_body bs) ++ es) l
    ∙ ap (read_all (at Entry Part.Body)) (append_assoc (raw_row b.row) (raw_body bs) es)
    ∙ row_read Part.Body (raw_body bs ++ es) r
    ∙ body-read es h

-- a table after its entry, in front of other records
abbrev pub within : Table → List Event → List Event
within t es = raw_row t.head ++ (both t.between ++ (raw_row t.delimiter ++ (t.exit ∷ raw_body t.body ++ es)))

table-read : {t : Table} (es : List Event) → IsTable t → read_all (at Entry Part.Head) (within t es) ≡ read_all (at Closed Part.Head) es
table-read {t} es h =
    row_read Part.Head (both t.between ++ (raw_row t.delimiter ++ (t.exit ∷ raw_body t.body ++ es))) h.head
    ∙ read_on (at Between Part.Head) t.between.entry (t.between.exit ∷ (raw_row t.delimiter ++ (t.exit ∷ raw_body t.body ++ es))) (ap (λ (b : Bool). then_some b (ending Part.Delimiter)) h.between.enter)
    ∙ end_read Part.Delimiter (raw_row t.delimiter ++ (t.exit ∷ raw_body t.body ++ es)) h.between
    ∙ row_read Part.Delimiter (t.exit ∷ raw_body t.body ++ es) h.delimiter
    ∙ read_on (at HeadLeave Part.Delimiter) t.exit (raw_body t.body ++ es) (ap (λ (b : Bool). then_some b (at Closed Part.Head)) h.leave)
    ∙ body-read es h.body

-- a head is entered, at the start of a list or behind a table
head_step : (e : Event) → enters GfmTableHead e ≡ true → then_some (enters GfmTableHead e) (at Entry Part.Head) ≡ Some (at Entry Part.Head)
head_step e h = ap (λ (b : Bool). then_some b (at Entry Part.Head)) h

closed_step : (e : Event) → enters GfmTableHead e ≡ true → read_step (at Closed Part.Head) e ≡ Some (at Entry Part.Head)
closed_step e h = ap (λ (b : Bool). cond b (Some (ending Part.Body)) (then_some (enters GfmTableHead e) (at Entry Part.Head))) (no_line_end e h) ∙ head_step e h

closed-read : {ts : List Table} → AreTables ts → read_all (at Closed Part.Head) (raw_tables ts) ≡ Some (at Closed Part.Head)
unfolding read_all raw_tables
closed-read AreTables.none = refl
closed-read (AreTables.table {t = t} {ts = ts} h hs) =
    ap (read_all (at Closed Part.Head)) (sym (table_is t (raw_tables ts)))
    ∙ read_on (at Closed Part.Head) t.entry (within t (raw_tables ts)) (closed_step t.entry h.enter)
    ∙ table-read (raw_tables ts) h
    ∙ closed-read hs

pub accepts-raw : {ts : List Table} → AreTables ts → accepts (raw_tables ts) ≡ true
unfolding read_all raw_tables
accepts-raw AreTables.none = refl
accepts-raw (AreTables.table {t = t} {ts = ts} h hs) =
    ap all_accepted
    (ap (read_all (at Start Part.Head)) (sym (table_is t (raw_tables ts)))
    ∙ read_on (at Start Part.Head) t.entry (within t (raw_tables ts)) (head_step t.entry h.enter)
    ∙ table-read (raw_tables ts) h
    ∙ closed-read hs)

-- question 10: a list is accepted exactly where it is made of raw tables
pub accepts-is : (es : List Event) → accepts es ≡ true ↔ Parsed es
accepts-is es = (parsed es, λ p. subst (λ (l : List Event). accepts l ≡ true) (sym p.raw) (accepts-raw p.good))

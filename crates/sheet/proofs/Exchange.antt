-- A body line exchanged for another leaves every other row as it was, but for the offsets behind it.
-- Assumes nothing.
use Prim.Native.Nat.{ℕ, ◌+◌, ◌≤◌, ◌<◌}
use mathlib.Core.Path.{◌≡◌, refl, ap, ap₂, sym, ◌∙◌}
use mathlib.Core.List.Memᴰ
use mathlib.Core.List.{List, [], ◌∷◌, ◌++◌, Memᴰ, head-eq_of_cons-eq}
use mathlib.Core.Logic.{◌⊎◌, inl, inr, ⊎_elim}
use mathlib.Core.Bool.{Bool, true, false, cond, false≢true}
use native.Mathlib.Omega.{arith}
use lib.ListN.{length, take, drop, length-drop}
use lib.Seq.{take_at, drop_at, drop-append-le}
use borrow.Author.Tests.{eqb-false}
use Rattle.tokenizer.specs.declared.event.Point.{Point}
use Rattle.tokenizer.specs.declared.event.Event.{Event}
use Rattle.tokenizer.specs.Points.{start, column_past}
use Rattle.tokenizer.specs.Events.{GfmTableRow, GfmTableDelimiterRow}
use Rattle.tokenizer.specs.Lines.{Line, lines, first_start}
use Rattle.tokenizer.specs.Places.{Placed, placed, first_point}
use Rattle.tokenizer.proofs.Starts.{first-front}
use Rattle.gfm_table.specs.Rows.{Piece, Row, row_pieces, delimiter_pieces, raw_row}
use Rattle.gfm_table.specs.Heads.{marked}
use Rattle.gfm_table.specs.Raw.{row_at, text_row}
use Rattle.gfm_table.specs.Places.{point_in}
use Rattle.edit_map.specs.Tables.{BodyRow, raw_table, resolved_text, resolved_table}
use Rattle.sheet.specs.Walk.{Found, closes, opens, line_end, body_rows, heads, rows, tables}
use Rattle.sheet.specs.Demands.{Each, none, more, Alike, rows_in, begins, plain, Moved, OtherRow, OtherRows, Exchange}
use Rattle.sheet.proofs.Lists.{All, all_members, each_weaken, each_with, each_cond}
use Rattle.sheet.proofs.Alike.{AlikeRow, raw_row_alike, resolved_text_alike, resolved_delimiter_alike}
use Rattle.sheet.proofs.Tests.{by_cases}
use Rattle.sheet.proofs.Walks.{starting, onward, found_at, Kept, AlikeFound, rest_alike, rows_alike, opens-head}
use Rattle.sheet.proofs.Split.{after, Around, around}
use Rattle.sheet.proofs.Closing.{solid-length}
use Rattle.sheet.proofs.Beyond.{after-le}
use Rattle.sheet.proofs.Heading.{headed}
use Rattle.sheet.proofs.RowsIn.{body_events, resolved_delimiter, raw-rows, resolved-rows}

module _ (kind : ℕ → ℕ) (on : Bool) where
  -- whether a line and the next open a table, wherever they stand
  abbrev pub opened : Line → Line → Bool
  opened l d = opens kind on (starting start l) (starting start d)

  -- the walk stands in a body after these lines, if before them it looks for a head (true) or stands in a body (false)
  pub data Way : Bool → List Line → Type 0 where
    here : Way false []
    closed : {l : Line} {ls : List Line} → closes kind l.body ≡ true → Way true ls → Way false (l ∷ ls)
    row : {l : Line} {ls : List Line} → closes kind l.body ≡ false → Way false ls → Way false (l ∷ ls)
    prose : {l d : Line} {ls : List Line} → opened l d ≡ false → Way true (d ∷ ls) → Way true (l ∷ d ∷ ls)
    head : {l d : Line} {ls : List Line} → opened l d ≡ true → Way false ls → Way true (l ∷ d ∷ ls)

  -- a body row's line among the lines from a point on
  pub record Located (b : Bool) (p : Point) (all : List Line) (r : BodyRow) : Type 0 where
    pub ls : List Line
    pub l : Line
    pub ms : List Line
    pub split : all ≡ ls ++ l ∷ ms
    pub way : Way b ls
    pub solid : closes kind l.body ≡ false
    pub row : r.row ≡ text_row kind (after p ls) l.body

  -- one more line before a located one
  further : {b c : Bool} {p : Point} {all : List Line} {r : BodyRow} (l : Line) (w : Located c (onward p l) all r) → Way b (l ∷ w.ls) → Located b p (l ∷ all) r
  unfolding after
  further l w v =
      record { ls = l ∷ w.ls; l = w.l; ms = w.ms; split = ap (λ (z : List Line). l ∷ z) w.split; way = v; solid = w.solid; row = w.row }

  prose_way : (l d k : Line) (ls all ms : List Line) → opened l d ≡ false → d ∷ all ≡ ls ++ k ∷ ms → Way true ls → Way true (l ∷ ls)
  prose_way l d k ls all ms e s (prose x w) = prose (rw (head-eq_of_cons-eq s) at e) (prose x w)
  prose_way l d k ls all ms e s (head x w) = prose (rw (head-eq_of_cons-eq s) at e) (head x w)

  body_rows_located : (k : Placed) (p : Point) (all : List Line) (r : BodyRow) → Memᴰ r (body_rows kind k (placed p all)) → Located false p all r
  unfolding body_rows placed after
  body_rows_located k p [] r i = absurd (Memᴰ.not-nil i)
  body_rows_located k p (l ∷ all) r i =
      by_cases (λ z. Memᴰ r z → Located false p (l ∷ all) r) (closes kind l.body) (λ e j. absurd (Memᴰ.not-nil j))
      (λ e j. pick e (λ i. body_rows_located _ (onward p l) all r i) (Memᴰ.cases_cons j)) i
    where
      pick : closes kind l.body ≡ false → (Memᴰ r (body_rows kind (starting p l) (placed (onward p l) all)) → Located false (onward p l) all r)
          → (r ≡ record { before = line_end k; row = text_row kind p l.body }) ⊎ Memᴰ r (body_rows kind (starting p l) (placed (onward p l) all))
          → Located false p (l ∷ all) r
      pick e f (inl q) = record { ls = []; l = l; ms = all; split = refl; way = here; solid = e; row = ap (λ (z : BodyRow). z.row) q }
      pick e f (inr j) = further l (f j) (row e (f j).way)

  mutual
    unfolding heads placed after

    pub heads_located : (p : Point) (all : List Line) (f : Found) (r : BodyRow) → Memᴰ f (heads kind on (placed p all)) → Memᴰ r f.table.body → Located true p all r
    heads_located p [] f r i j = absurd (Memᴰ.not-nil i)
    heads_located p (l ∷ []) f r i j = absurd (Memᴰ.not-nil i)
    heads_located p (l ∷ d ∷ all) f r i j =
        by_cases (λ z. Memᴰ f z → Located true p (l ∷ d ∷ all) r) (opened l d)
        (λ e k.
        let q = onward (onward p l) d in
        let w : Located false q all r = ⊎_elim (λ same. body_rows_located _ q all r (rw same at j)) (λ m. rows_located q all f r m j) (Memᴰ.cases_cons k) in
        record { ls = l ∷ d ∷ w.ls; l = w.l; ms = w.ms; split = ap (λ (z : List Line). l ∷ d ∷ z) w.split; way = head e w.way; solid = w.solid; row = w.row })
        (λ e k. let w = heads_located (onward p l) (d ∷ all) f r k j in further l w (prose_way l d w.l w.ls all w.ms e w.split w.way))
        i

    rows_located : (p : Point) (all : List Line) (f : Found) (r : BodyRow) → Memᴰ f (rows kind on (placed p all)) → Memᴰ r f.table.body → Located false p all r
    rows_located p [] f r i j = absurd (Memᴰ.not-nil i)
    rows_located p (l ∷ all) f r i j =
        by_cases (λ z. Memᴰ f z → Located false p (l ∷ all) r) (closes kind l.body)
        (λ e k. let w = heads_located (onward p l) all f r k j in further l w (closed e w.way))
        (λ e k. let w = rows_located (onward p l) all f r k j in further l w (row e w.way))
        i

-- ## The rows before the exchanged line, and behind it

-- moved, and behind a line of `old` bytes at offset a
pub record Behind (a old new : ℕ) (u v : Point) : Type 0 where
  pub moved : Moved old new u v
  pub far : a < u.index
  pub clear : a + old ≤ u.index

behind-kept : (a old new : ℕ) → Kept (Behind a old new)
behind-kept a old new =
    record {
      along = λ u v s h.
          record {
            moved = record { line = h.moved.line; column = ap (λ c. column_past c s) h.moved.column; index = omega arith; vs = refl };
            far = omega arith;
            clear = omega arith;
          };
      next = λ u v n h.
          record {
            moved = record { line = ap (λ k. k + 1) h.moved.line; column = refl; index = omega arith; vs = refl };
            far = omega arith;
            clear = omega arith;
          };
    }

-- a row and its counterpart, where at the point p the line `old` becomes `new`: a line before it, that line, or one behind it
pub data Pair (n : ℕ) (pieces : List ℕ → List Piece) (p : Point) (old new : List ℕ) : Row → Row → Type 0 where
  before : (q : Point) (u : List ℕ) → q.index + length u ≤ p.index → Pair n pieces p old new (row_at n pieces q u) (row_at n pieces q u)
  here : Pair n pieces p old new (row_at n pieces p old) (row_at n pieces p new)
  behind : {r s : Row} → AlikeRow (Behind p.index (length old) (length new)) r s → Pair n pieces p old new r s

module _ (kind : ℕ → ℕ) (p : Point) (old new : List ℕ) where
  abbrev pub TextPair : Row → Row → Type 0
  TextPair = Pair GfmTableRow (row_pieces kind false) p old new

  pub record Pairs (f g : Found) : Type 0 where
    pub head : TextPair f.table.head g.table.head
    pub delimiter : Pair GfmTableDelimiterRow (delimiter_pieces kind) p old new f.table.delimiter g.table.delimiter
    pub body : Each (λ b c. TextPair b.row c.row) f.table.body g.table.body
    pub aligned : f.aligned ≡ g.aligned

  found-behind : {f g : Found} → AlikeFound (Behind p.index (length old) (length new)) f g → Pairs f g
  found-behind h =
      record {
        head = behind h.table.head;
        delimiter = behind h.table.delimiter;
        body = each_weaken (λ b c k. behind k.row) h.table.body;
        aligned = h.aligned;
      }

-- ## The walk over the exchanged line

module _ (kind : ℕ → ℕ) (on : Bool) (l m : Line) (ms : List Line) (end : l.end ≡ m.end) (solidL : closes kind l.body ≡ false) (solidM : closes kind m.body ≡ false) where
  -- the points behind the two lines
  abbrev Next : Point → Point → Point → Type 0
  Next p = Behind p.index (length l.body) (length m.body)

  next-kept : (p : Point) → Kept (Next p)
  next-kept p = behind-kept p.index (length l.body) (length m.body)

  next-behind : (p : Point) → Next p (onward p l) (onward p m)
  next-behind p =
      record {
        moved = record { line = refl; column = refl; index = omega arith; vs = refl };
        far = omega (arith, solid-length kind l.body solidL);
        clear = omega arith;
      }

  rows_other : (k : Placed) (p : Point) (ls : List Line)
      → Each (λ b c. TextPair kind (after p ls) l.body m.body b.row c.row) (body_rows kind k (placed p (ls ++ l ∷ ms))) (body_rows kind k (placed p (ls ++ m ∷ ms)))
  unfolding body_rows placed after
  rows_other k p [] =
      rw (solidL, solidM)
      (more here (each_weaken (λ b c h. behind h) (rows_alike kind _ (next-kept p) _ _ (next-behind p) ms)))
  rows_other k p (j ∷ ls) =
      each_cond {b = closes kind j.body} refl none
      (more (before p j.body (omega (arith, after-le ls (onward p j)))) (rows_other _ (onward p j) ls))

  found_other : (p : Point) (j d : Line) (ls : List Line)
      → Pairs kind (after (onward (onward p j) d) ls) l.body m.body (found_at kind on p j d (ls ++ l ∷ ms)) (found_at kind on p j d (ls ++ m ∷ ms))
  found_other p j d ls =
      let far = after-le ls (onward (onward p j) d) in
      record {
        head = before p j.body (omega arith);
        delimiter = before (onward p j) d.body (omega arith);
        body = rows_other _ (onward (onward p j) d) ls;
        aligned = refl;
      }

  -- the tables of some lines, if a head is looked for or a body goes on
  abbrev pub walked : Bool → List Placed → List Found
  walked b ls = cond b (heads kind on ls) (rows kind on ls)

  pub walk_other : {b : Bool} {ls : List Line} → Way kind on b ls → (p : Point)
      → Each (Pairs kind (after p ls) l.body m.body) (walked b (placed p (ls ++ l ∷ ms))) (walked b (placed p (ls ++ m ∷ ms)))
  unfolding heads placed after
  walk_other here p =
      rw (solidL, solidM) (each_weaken (λ f g h. found-behind kind p l.body m.body h) (rest_alike kind _ (next-kept p) on (next-behind p) ms))
  walk_other (closed {l = j} e w) p = rw e (walk_other w (onward p j))
  walk_other (row {l = j} e w) p = rw e (walk_other w (onward p j))
  walk_other (prose {l = j} e w) p = rw e (walk_other w (onward p j))
  walk_other (head {l = j} {d} {ls} e w) p = rw e (more (found_other p j d ls) (walk_other w (onward (onward p j) d)))

-- ## Whole sheets

append_inj : (x u y v : List ℕ) → x ++ u ≡ y ++ v → length x ≡ length y → (x ≡ y) × (u ≡ v)
append_inj x u y v e n = (
  sym (take_at x u (length y) n) ∙ ap (take (length y)) e ∙ take_at y v (length y) refl,
  sym (drop_at x u (length y) n) ∙ ap (drop (length y)) e ∙ drop_at y v (length y) refl,
)

-- a delimiter row is not empty
marked-length : (kind : ℕ → ℕ) (u : List ℕ) → marked kind u ≡ true → 0 < length u
unfolding marked
marked-length kind [] h = absurd (false≢true h)
marked-length kind (b ∷ u) h = omega arith

-- a head stands before a body line: at least three bytes, which tell where the first line starts
way_long : {kind : ℕ → ℕ} {on : Bool} {ls : List Line} → Way kind on true ls → (p : Point) → p.index + 3 ≤ (after p ls).index
unfolding after
way_long (prose {l = j} e w) p = omega (arith, way_long w (onward p j))
way_long {kind} {on} (head {l = j} {d} {ls} e w) p =
    let h = opens-head kind on (starting start j) (starting start d) e in
    omega (arith, after-le ls (onward (onward p j) d), solid-length kind j.body h.filled, marked-length kind d.body h.marked, eqb-false j.end 0 h.ended)

module _ (kind : ℕ → ℕ) (on : Bool) (x old new y : List ℕ) (r : BodyRow) (from : r.row.entry.index ≡ length x) (to : r.row.exit.index ≡ length x + length old)
    (p : plain new ≡ true) (solid : closes kind new ≡ false) where
  -- the two sheets, and where the first line starts
  abbrev s : List ℕ
  s = x ++ (old ++ y)

  abbrev t : List ℕ
  t = x ++ (new ++ y)

  abbrev k : ℕ
  k = first_start s

  lines_exchanged : (w : Located kind on true (first_point s) (lines (drop k s)) r) → Around (drop k s) w.ls w.l w.ms
      → (old ≡ w.l.body) × (length x ≡ (after (first_point s) w.ls).index) × (lines (drop k t) ≡ w.ls ++ record { body = new; end = w.l.end } ∷ w.ms) × (first_start t ≡ k)
  lines_exchanged w c =
      let size = c.size (first_point s) in
      let here : length x ≡ (after (first_point s) w.ls).index = sym from ∙ ap (λ (z : Row). z.entry.index) w.row in
      let there = ap (λ (z : Row). z.exit.index) w.row in
      let long : 3 + k ≤ length x = omega (arith, way_long w.way (first_point s)) in
      let front : (z : List ℕ) → drop k (x ++ z) ≡ drop k x ++ z = λ z. drop-append-le k x z (omega arith) in
      let f = append_inj (drop k x) (old ++ y) c.x (w.l.body ++ c.y) (sym (front (old ++ y)) ∙ c.whole) (omega (arith, length-drop k x)) in
      let g = append_inj old y w.l.body c.y f.1 (omega arith) in (
        g.0,
        here,
        ap lines (front (new ++ y)) ∙ ap₂ (λ (a b : List ℕ). lines (a ++ (new ++ b))) f.0 g.1 ∙ c.swap new p (solid-length kind new solid),
        first-front x (new ++ y) (old ++ y) (omega arith),
      )

  tables-at : (u : List ℕ) (j : ℕ) → first_start u ≡ j → tables kind on u ≡ heads kind on (placed (point_in 1 j 1) (lines (drop j u)))
  tables-at u j e = ap (λ (i : ℕ). heads kind on (placed (point_in 1 i 1) (lines (drop i u)))) e

  pairs-at : (fs gs : List Found) (q : Point) (ls ms : List Line) (l : Line) → Way kind on true ls → closes kind l.body ≡ false → fs ≡ heads kind on (placed q (ls ++ l ∷ ms))
      → gs ≡ heads kind on (placed q (ls ++ record { body = new; end = l.end } ∷ ms)) → old ≡ l.body → Each (Pairs kind (after q ls) old new) fs gs
  pairs-at fs gs q ls ms l w e a b o = rw (a, b, o) (walk_other kind on l (record { body = new; end = l.end }) ms refl e solid w q)

  sheets_other : (w : Located kind on true (first_point s) (lines (drop k s)) r)
      → (length x ≡ (after (first_point s) w.ls).index) × Each (Pairs kind (after (first_point s) w.ls) old new) (tables kind on s) (tables kind on t)
  sheets_other w =
      let h = lines_exchanged w (around w.ls (drop k s) w.l w.ms w.split) in
      let q = first_point s in (
        h.1,
        pairs-at (tables kind on s) (tables kind on t) q w.ls w.ms w.l w.way w.solid (ap (λ (z : List Line). heads kind on (placed q z)) w.split)
            (tables-at t k h.3 ∙ ap (λ (z : List Line). heads kind on (placed q z)) h.2) h.0,
      )

-- the rows among a table's events
record Rowed (f : Found) : Type 0 where
  raw : rows_in (raw_table f.table) ≡ raw_row f.table.head ∷ raw_row f.table.delimiter ∷ body_events raw_row f.table.body
  resolved : rows_in (resolved_table f.table) ≡ resolved_text f.table.head ∷ resolved_delimiter f.table.delimiter ∷ body_events resolved_text f.table.body

tables_rowed : (kind : ℕ → ℕ) (on : Bool) (s : List ℕ) → All Rowed (tables kind on s)
tables_rowed kind on s =
    all_members (tables kind on s) (λ f m.
    let h = headed kind on s f m in
    rw h.same (record { raw = raw-rows kind _ _ _; resolved = resolved-rows kind _ _ _ }))

-- what a pair of rows says of their events, raw or resolved
record Tells (g : Row → List Event) : Type 1 where
  first : (r : Row) → begins (g r) ≡ r.entry.index
  alike : (R : Point → Point → Type 0) (r s : Row) → AlikeRow R r s → Each (Alike R) (g r) (g s)

pair_rows : {g : Row → List Event} → Tells g → {n : ℕ} {pieces : List ℕ → List Piece} {p : Point} {old new : List ℕ} {r s : Row} → Pair n pieces p old new r s
    → OtherRow p.index (length old) (length new) (g r) (g s)
pair_rows {g} t {n} {pieces} (before q u h) =
    let i = t.first (row_at n pieces q u) in
    record { before = λ b. refl; behind = λ b. absurd (omega arith) }
pair_rows {g} t {n} {pieces} {p} {old} here =
    let i = t.first (row_at n pieces p old) in
    record { before = λ b. absurd (omega arith); behind = λ b. absurd (omega arith) }
pair_rows {g} t (behind {r} {s} h) =
    let i = t.first r in
    let far = h.entry.point.far in
    record {
      before = λ b. absurd (omega arith);
      behind = λ b. each_weaken (λ e f k. record { kind = k.kind; name = k.name; link = k.link; point = k.point.moved }) (t.alike _ r s h);
    }

body-pairs : {g : Row → List Event} → Tells g → {n : ℕ} {pieces : List ℕ → List Piece} {p : Point} {old new : List ℕ} {bs cs : List BodyRow}
    → Each (λ b c. Pair n pieces p old new b.row c.row) bs cs → Each (OtherRow p.index (length old) (length new)) (body_events g bs) (body_events g cs)
unfolding body_events
body-pairs t none = none
body-pairs t (more h hs) = more (pair_rows t h) (body-pairs t hs)

raw_tells : Tells raw_row
raw_tells = record { first = λ r. refl; alike = λ R r s. raw_row_alike R }

text_tells : Tells resolved_text
text_tells = record { first = λ r. refl; alike = λ R r s. resolved_text_alike R }

delimiter_tells : Tells resolved_delimiter
delimiter_tells = record { first = λ r. refl; alike = λ R r s. resolved_delimiter_alike R }

pairs-rows : {kind : ℕ → ℕ} {p : Point} {old new : List ℕ} {f g : Found} → Pairs kind p old new f g → Rowed f → Rowed g → OtherRows p.index (length old) (length new) f g
pairs-rows h r s =
    record {
      raw = rw (r.raw, s.raw) (more (pair_rows raw_tells h.head) (more (pair_rows raw_tells h.delimiter) (body-pairs raw_tells h.body)));
      resolved = rw (r.resolved, s.resolved) (more (pair_rows text_tells h.head) (more (pair_rows delimiter_tells h.delimiter) (body-pairs text_tells h.body)));
      aligned = h.aligned;
    }

pub exchange : (kind : ℕ → ℕ) → Exchange kind
exchange kind on x old new y b p solid =
    let s = x ++ (old ++ y) in
    let w = heads_located kind on (first_point s) (lines (drop (first_start s) s)) b.found b.row b.among b.within in
    let k = sheets_other kind on x old new y b.row b.from b.to p solid w in
    rw k.0
    (each_weaken (λ f g h. pairs-rows h.0 h.1 h.2)
    (each_with k.1 (tables_rowed kind on (x ++ (old ++ y))) (tables_rowed kind on (x ++ (new ++ y)))))

-- The pieces of a table's raw and of its resolved events stand end to end.
-- Assumes nothing.
use Prim.Native.Nat.{ℕ, ◌+◌, ◌≤◌, ◌<◌}
use mathlib.Core.Path.{◌≡◌, refl, ap, sym, ◌∙◌}
use mathlib.Core.List.{List, [], ◌∷◌, ◌++◌}
use mathlib.Core.Bool.{Bool, true, false, cond, ◌||◌, ◌&&◌, false≢true, or-false, and-false}
use native.Mathlib.Omega.{arith}
use lib.Dec.{eqb, leb, ltb}
use lib.ListN.{length}
use borrow.Author.Tests.{le-leb, lt-leb, le-ltb, ltb-true, ltb-false, eq-eqb}
use Rattle.tokenizer.specs.declared.event.Point.{Point}
use Rattle.tokenizer.specs.declared.event.Event.{Event}
use Rattle.tokenizer.specs.Points.{past}
use Rattle.tokenizer.specs.Events.{Data, GfmTableCell, GfmTableCellDivider, GfmTableRow, GfmTableDelimiterRow, GfmTableDelimiterCell, leave}
use Rattle.tokenizer.specs.Lines.{Line}
use Rattle.tokenizer.specs.Places.{Placed, placed, end_of}
use Rattle.gfm_table.specs.Rows.{Piece, Passed, passed, joins, on_pieces, odd_after, row_pieces, delimiter_pieces, Row, all_both, raw_row}
use Rattle.gfm_table.specs.Raw.{text_row, delimiter_row}
use Rattle.edit_map.specs.Tables.{BodyRow, Table, raw_body, raw_table, named, is_text, is_solid, any_solid, any_text, before, cells, last_text, after_text, upto_text, row_inner, delimiter_inner, cell_events, resolved_row, resolved_text, resolved_rows, last_exit, resolved_body, resolved_table}
use Rattle.edit_map.specs.Align.{is_exit}
use Rattle.sheet.specs.Walk.{closes, line_end, body_rows}
use Rattle.sheet.specs.Demands.{is_piece, enters_piece, left_at, holding, last_end}
use Rattle.sheet.proofs.Lists.{All, empty, also}
use Rattle.sheet.proofs.Tests.{test, by_cases}
use Rattle.sheet.proofs.Walks.{starting, onward, found_at}
use Rattle.sheet.proofs.Every.{row_pieces_names, delimiter_pieces_names}
use Rattle.sheet.proofs.Runs.{text_name}

-- how many bytes lie in some pieces
unfoldable size : List Piece → ℕ
size [] = 0
size (q ∷ ps) = length q.text + size ps

-- ## Events whose pieces stand end to end

-- e and f enter and leave a piece from offset a to offset b
pub record Tile (a b : ℕ) (e f : Event) : Type 0 where
  pub entry : enters_piece e ≡ true
  pub exit : is_exit e.name f ≡ true
  pub shut : enters_piece f ≡ false
  pub from : e.index ≡ a
  pub to : f.index ≡ b
  pub order : a ≤ b

-- the pieces of these events stand end to end from offset a to offset b, each left as soon as it is entered
pub data Tiles : ℕ → ℕ → List Event → Type 0 where
  done : {a : ℕ} → Tiles a a []
  skip : {a b : ℕ} {e : Event} {es : List Event} → enters_piece e ≡ false → Tiles a b es → Tiles a b (e ∷ es)
  tile : {a b c : ℕ} {e f : Event} {es : List Event} → Tile a b e f → Tiles b c es → Tiles a c (e ∷ f ∷ es)

tiles_append : {a b c : ℕ} {es fs : List Event} → Tiles a b es → Tiles b c fs → Tiles a c (es ++ fs)
tiles_append done k = k
tiles_append (skip h t) k = skip h (tiles_append t k)
tiles_append (tile h t) k = tile h (tiles_append t k)

-- a piece holds the bytes that it should
tile_holding : {a b : ℕ} {e f : Event} (i : ℕ) (es : List Event) → Tile a b e f → holding i (e ∷ f ∷ es) ≡ cond (leb a i && ltb i b) 1 0 + holding i es
unfolding holding left_at
tile_holding i es h = rw (h.entry, h.exit, h.shut, h.from, h.to) (omega arith)

pub tiles_before : {a b : ℕ} {es : List Event} (i : ℕ) → Tiles a b es → i < a → holding i es ≡ 0
unfolding holding
tiles_before i done l = refl
tiles_before i (skip h t) l = rw h (omega (arith, tiles_before i t l))
tiles_before {a} i (tile {es = es} h t) l = tile_holding i es h ∙ rw (lt-leb a i l) (omega (arith, tiles_before i t (omega (arith, h.order))))

pub tiles_hold : {a b : ℕ} {es : List Event} (i : ℕ) → Tiles a b es → a ≤ i → i < b → holding i es ≡ 1
unfolding holding
tiles_hold i done l m = absurd (omega arith)
tiles_hold i (skip h t) l m = rw h (omega (arith, tiles_hold i t l m))
tiles_hold {a} i (tile {b} {es = es} h t) l m =
    tile_holding i es h
    ∙ rw (le-leb a i l)
    (by_cases (λ k. k + holding i es ≡ 1) (ltb i b) (λ e. rw (tiles_before i t (ltb-true i b e))) (λ e. omega (arith, tiles_hold i t (ltb-false i b e) m)))

-- the pieces are in order, and hold no byte behind them
pub tiles_order : {a b : ℕ} {es : List Event} → Tiles a b es → a ≤ b
tiles_order done = omega arith
tiles_order (skip h t) = tiles_order t
tiles_order (tile h t) = omega (arith, h.order, tiles_order t)

pub tiles_behind : {a b : ℕ} {es : List Event} (i : ℕ) → Tiles a b es → b ≤ i → holding i es ≡ 0
unfolding holding
tiles_behind i done l = refl
tiles_behind i (skip h t) l = rw h (omega (arith, tiles_behind i t l))
tiles_behind {a} i (tile {b} {es = es} h t) l =
    tile_holding i es h ∙ rw (le-ltb i b (omega (arith, tiles_order t)), and-false (leb a i)) (omega (arith, tiles_behind i t l))

-- before other events they hold what they hold alone
pub tiles_more : {a b : ℕ} {es : List Event} (i : ℕ) (fs : List Event) → Tiles a b es → holding i (es ++ fs) ≡ holding i es + holding i fs
unfolding holding
tiles_more i fs done = omega arith
tiles_more i fs (skip h t) = rw h (omega (arith, tiles_more i fs t))
tiles_more i fs (tile {es = es} h t) = omega (arith, tile_holding i (es ++ fs) h, tile_holding i es h, tiles_more i fs t)

-- ## Pieces of a row that stand end to end, their names all of some kind

module _ (Name : ℕ → Type 0) where
  record Link (a b : ℕ) (x : Passed) : Type 0 where
    name : Name x.entry.name
    piece : Tile a b x.entry x.exit

  data Links : ℕ → ℕ → List Passed → Type 0 where
    ends : {a : ℕ} → Links a a []
    link : {a b c : ℕ} {x : Passed} {xs : List Passed} → Link a b x → Links b c xs → Links a c (x ∷ xs)

  -- the cells of a row, end to end
  data Cells : ℕ → ℕ → List (List Passed) → Type 0 where
    over : {a : ℕ} → Cells a a []
    cell : {a b c : ℕ} {xs : List Passed} {cs : List (List Passed)} → Links a b xs → Cells b c cs → Cells a c (xs ∷ cs)

  all_both_tiles : {a b : ℕ} {xs : List Passed} → Links a b xs → Tiles a b (all_both xs)
  unfolding all_both
  all_both_tiles ends = done
  all_both_tiles (link h t) = tile h.piece (all_both_tiles t)

  before-cells : {a b c : ℕ} {x : Passed} {cs : List (List Passed)} → Link a b x → Cells b c cs → Cells a c (before x cs)
  before-cells h over = cell (link h ends) over
  before-cells h (cell k ks) = cell (link h k) ks

  cells-cells : (seen : Bool) {a b : ℕ} {xs : List Passed} → Links a b xs → Cells a b (cells seen xs)
  unfolding cells
  cells-cells seen ends = cell ends over
  cells-cells seen (link {x = x} {xs} h t) =
      by_cases (Cells _ _) (seen && (named GfmTableCellDivider x && any_solid xs)) (λ e. cell ends (before-cells h (cells-cells true t)))
      (λ e. before-cells h (cells-cells (seen || is_solid x) t))

  -- what is upto the last text, and what is behind it
  record Halves (a b : ℕ) (xs : List Passed) : Type 0 where
    mid : ℕ
    upto : Links a mid (upto_text xs)
    behind : Links mid b (after_text xs)

  halves : {a b : ℕ} {xs : List Passed} → Links a b xs → Halves a b xs
  unfolding upto_text after_text
  halves {a} ends = record { mid = a; upto = ends; behind = ends }
  halves {a} (link {x = x} {xs} h t) =
      let k = halves t in
      test (any_text (x ∷ xs)) (λ e. record { mid = k.mid; upto = rw e (link h k.upto); behind = rw e k.behind })
      (λ e. record { mid = a; upto = rw e ends; behind = rw e (link h t) })

  delimiter_inner_tiles : {a b : ℕ} {xs : List Passed} → Links a b xs → Tiles a b (delimiter_inner xs)
  unfolding delimiter_inner
  delimiter_inner_tiles ends = done
  delimiter_inner_tiles (link {x = x} {xs} h t) =
      let k = halves t in
      by_cases (Tiles _ _) (is_text x)
      (λ e. skip refl (tiles_append (all_both_tiles (link h k.upto)) (skip refl (all_both_tiles k.behind))))
      (λ e. tile h.piece (delimiter_inner_tiles t))

  -- a text piece behind offset a, and what stands from its end to offset b
  record Last (a b : ℕ) (y : Passed) (zs : List Passed) : Type 0 where
    from : ℕ
    to : ℕ
    text : is_text y ≡ true
    piece : Link from to y
    order : a ≤ to
    behind : Links to b zs

  no_text : (x : Passed) (xs : List Passed) → any_text xs ≡ false → (last_text x xs ≡ x) × (after_text xs ≡ xs)
  unfolding last_text after_text
  no_text x [] h = (refl, refl)
  no_text x (y ∷ xs) h = (rw h, rw h)

  -- the last one behind a piece, or the piece itself if it is text
  last_of : {a m b : ℕ} {x : Passed} {xs : List Passed} → Link a m x → (any_text xs ≡ false → is_text x ≡ true) → Links m b xs
      → (any_text xs ≡ true → Last m b (last_text x xs) (after_text xs)) → Last a b (last_text x xs) (after_text xs)
  last_of {a} {m} {x} {xs} h e t f =
      test (any_text xs)
      (λ k.
      let l = f k in
      record { from = l.from; to = l.to; text = l.text; piece = l.piece; order = omega (arith, h.piece.order, l.order); behind = l.behind })
      (λ k. let n = no_text x xs k in rw (n.0, n.1) (record { from = a; to = m; text = e k; piece = h; order = h.piece.order; behind = t }))

  last-text : {m b : ℕ} {xs : List Passed} → Links m b xs → any_text xs ≡ true → (x : Passed) → Last m b (last_text x xs) (after_text xs)
  unfolding any_text last_text after_text
  last-text ends k x = absurd (false≢true k)
  last-text (link {x = y} {xs} h t) k x = rw k (last_of h (λ j. sym (or-false (is_text y)) ∙ (rw j at k)) t (λ j. last-text t j y))

  -- where all text is data, what stands from the first to the last of it is one piece
  row_inner_tiles : ((n : ℕ) → Name n → text_name n ≡ true → n ≡ Data) → {a b : ℕ} {xs : List Passed} → Links a b xs → Tiles a b (row_inner xs)
  unfolding row_inner
  row_inner_tiles D ends = done
  row_inner_tiles D {a} (link {x = x} {xs} h t) =
      by_cases (Tiles a _) (is_text x)
      (λ e.
      let l = last_of h (λ k. e) t (λ k. last-text t k x) in
      let same : (last_text x xs).entry.name ≡ x.entry.name = D _ l.piece.name l.text ∙ sym (D _ h.name e) in
      skip refl
      (tile (record { entry = h.piece.entry; exit = rw same at l.piece.piece.exit; shut = l.piece.piece.shut; from = h.piece.from; to = l.piece.piece.to; order = l.order })
      (skip refl (all_both_tiles l.behind))))
      (λ e. tile h.piece (row_inner_tiles D t))

  cell_events_tiles : (n : ℕ) → is_piece n ≡ false → (inner : List Passed → List Event) → ((a b : ℕ) (xs : List Passed) → Links a b xs → Tiles a b (inner xs))
      → (p : Point) {a b : ℕ} {cs : List (List Passed)} → Cells a b cs → Tiles a b (cell_events n inner p cs)
  unfolding cell_events
  cell_events_tiles n z inner f p over = done
  cell_events_tiles n z inner f p (cell k ks) = tiles_append (skip z (f _ _ _ k)) (skip refl (cell_events_tiles n z inner f p ks))

  -- a row from offset a to offset b
  record RowLinks (a b : ℕ) (r : Row) : Type 0 where
    entry : enters_piece r.entry ≡ false
    pieces : Links a b r.pieces
    exit : enters_piece r.exit ≡ false

  raw_row_tiles : {a b : ℕ} {r : Row} → RowLinks a b r → Tiles a b (raw_row r)
  raw_row_tiles h = skip h.entry (tiles_append (all_both_tiles h.pieces) (skip h.exit done))

  resolved_row_tiles : (n : ℕ) → is_piece n ≡ false → (inner : List Passed → List Event) → ((a b : ℕ) (xs : List Passed) → Links a b xs → Tiles a b (inner xs))
      → {a b : ℕ} {r : Row} → RowLinks a b r → Tiles a b (resolved_row n inner r)
  resolved_row_tiles n z inner f h = skip h.entry (tiles_append (cell_events_tiles n z inner f _ (cells-cells false h.pieces)) (skip h.exit done))

  -- pieces entered one after the other stand end to end
  passed_links : ((n : ℕ) → Name n → is_piece n ≡ true) → (p : Point) {ps : List Piece} → All (λ q. Name q.name) ps → (b : ℕ) → b ≡ p.index + size ps → Links p.index b (passed p ps)
  unfolding passed size
  passed_links I p empty b e = let f : b ≡ p.index = omega arith in rw f ends
  passed_links I p (also {a = q} h hs) b e =
      link {a = p.index} {b = p.index + length q.text} (record { name = h; piece = record { entry = I _ h; exit = eq-eqb q.name q.name refl; shut = refl; from = refl; to = refl; order = omega arith } })
      (passed_links I (past p q.text) hs b (omega arith))

-- ## The rows of a table

record TextName (n : ℕ) : Type 0 where
  piece : is_piece n ≡ true
  data' : text_name n ≡ true → n ≡ Data

module _ (kind : ℕ → ℕ) where
  on_pieces-size : (n b : ℕ) (ps : List Piece) → size (on_pieces n b ps) ≡ 1 + size ps
  unfolding size
  on_pieces-size n b [] = refl
  on_pieces-size n b (q ∷ ps) = by_cases (λ z. size z ≡ 1 + (length q.text + size ps)) (joins n && eqb n q.name) (λ e. omega arith) (λ e. omega arith)

  row_pieces-size : (odd : Bool) (s : List ℕ) → size (row_pieces kind odd s) ≡ length s
  unfolding row_pieces size
  row_pieces-size odd [] = refl
  row_pieces-size odd (b ∷ s) = on_pieces-size _ b (row_pieces kind (odd_after kind odd b) s) ∙ omega (arith, row_pieces-size (odd_after kind odd b) s)

  delimiter_pieces-size : (s : List ℕ) → size (delimiter_pieces kind s) ≡ length s
  unfolding delimiter_pieces size
  delimiter_pieces-size [] = refl
  delimiter_pieces-size (b ∷ s) = on_pieces-size _ b (delimiter_pieces kind s) ∙ omega (arith, delimiter_pieces-size s)

  text_row_links : (p : Point) (u : List ℕ) → RowLinks TextName p.index (past p u).index (text_row kind p u)
  text_row_links p u =
      record {
        entry = refl;
        pieces = passed_links TextName (λ n h. h.piece) p
            (row_pieces_names kind TextName (record { piece = refl; data' = λ e. absurd (false≢true e) }) (record { piece = refl; data' = λ e. absurd (false≢true e) }) (record { piece = refl; data' = λ e. refl }) false u)
            _ (ap (λ n. p.index + n) (sym (row_pieces-size false u)));
        exit = refl;
      }

  delimiter_links : (p : Point) (u : List ℕ) → RowLinks (λ n. is_piece n ≡ true) p.index (past p u).index (delimiter_row kind p u)
  delimiter_links p u =
      record {
        entry = refl;
        pieces = passed_links _ (λ n h. h) p (delimiter_pieces_names kind (λ n. is_piece n ≡ true) refl refl refl refl u) _ (ap (λ n. p.index + n) (sym (delimiter_pieces-size u)));
        exit = refl;
      }

text_tiles : {a b : ℕ} {r : Row} → RowLinks TextName a b r → Tiles a b (resolved_text r)
text_tiles = resolved_row_tiles TextName GfmTableCell refl row_inner (λ a b xs. row_inner_tiles TextName (λ n h. h.data'))

-- body rows, each with the line end before it, from offset a to offset b
data Bodies : ℕ → ℕ → List BodyRow → Type 0 where
  stop : {a : ℕ} → Bodies a a []
  row : {a m b c : ℕ} {x : BodyRow} {bs : List BodyRow} → Tile a m x.before.entry x.before.exit → RowLinks TextName m b x.row → Bodies b c bs → Bodies a c (x ∷ bs)

raw_body_tiles : {a b : ℕ} {bs : List BodyRow} → Bodies a b bs → Tiles a b (raw_body bs)
unfolding raw_body
raw_body_tiles stop = done
raw_body_tiles (row h r t) = tile h (tiles_append (raw_row_tiles TextName r) (raw_body_tiles t))

resolved_rows_tiles : {a b : ℕ} {bs : List BodyRow} → Bodies a b bs → Tiles a b (resolved_rows bs)
unfolding resolved_rows
resolved_rows_tiles stop = done
resolved_rows_tiles (row h r t) = tile h (tiles_append (text_tiles r) (resolved_rows_tiles t))

resolved_body_tiles : {a b : ℕ} {bs : List BodyRow} (e : Event) → Bodies a b bs → Tiles a b (resolved_body e bs)
resolved_body_tiles e stop = skip refl done
resolved_body_tiles e (row h r t) = tile h (skip refl (tiles_append (text_tiles r) (tiles_append (resolved_rows_tiles t) (skip refl (skip refl done)))))

line_end_tile : (l : Placed) → Tile (end_of l).index (onward l.at l.line).index (line_end l).entry (line_end l).exit
line_end_tile l = record { entry = refl; exit = refl; shut = refl; from = refl; to = refl; order = omega arith }

bodies : (kind : ℕ → ℕ) (e : Event) (p : Point) (l : Line) (ls : List Line) → e.index ≡ (past p l.body).index
    → let bs = body_rows kind (starting p l) (placed (onward p l) ls) in Bodies e.index (last_exit e bs).index bs
unfolding body_rows placed last_exit
bodies kind e p l [] h = stop
bodies kind e p l (m ∷ ls) h =
    by_cases (λ z. Bodies e.index (last_exit e z).index z) (closes kind m.body) (λ f. stop)
    (λ f. row (rw h (line_end_tile (starting p l))) (text_row_links kind (onward p l) m.body) (bodies kind (leave GfmTableRow (past (onward p l) m.body)) (onward p l) m ls refl))

pub record TableTiles (t : Table) : Type 0 where
  pub raw : Tiles t.entry.index (last_end t) (raw_table t)
  pub resolved : Tiles t.entry.index (last_end t) (resolved_table t)

pub table_tiles : (kind : ℕ → ℕ) (on : Bool) (p : Point) (l d : Line) (ls : List Line) → TableTiles (found_at kind on p l d ls).table
table_tiles kind on p l d ls =
    let q = onward p l in
    let head = text_row_links kind p l.body in
    let under = delimiter_links kind q d.body in
    let body = bodies kind (leave GfmTableDelimiterRow (past q d.body)) q d ls refl in
    record {
      raw = skip refl (tiles_append (raw_row_tiles TextName head) (tile (line_end_tile (starting p l)) (tiles_append (raw_row_tiles _ under) (skip refl (raw_body_tiles body)))));
      resolved = skip refl
          (skip refl
          (tiles_append (text_tiles head)
          (tile (line_end_tile (starting p l))
          (tiles_append (resolved_row_tiles _ GfmTableDelimiterCell refl delimiter_inner (λ a b xs. delimiter_inner_tiles _) under) (skip refl (resolved_body_tiles (leave GfmTableDelimiterRow (past q d.body)) body))))));
    }

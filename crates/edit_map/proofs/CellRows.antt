-- The steps over a row's cells: the events of each, and what is left behind it.
-- Assumes nothing.
use Prim.Native.Nat.{ℕ, zero, suc, ◌+◌, ◌-◌, ◌*◌, ◌≤◌, ◌<◌}
use mathlib.Core.Path.{◌≡◌, refl, sym, ap, ◌∙◌, subst}
use mathlib.Core.List.{List, [], ◌∷◌, ◌++◌, append_assoc}
use mathlib.Core.Bool.{Bool, true, false, cond, ◌||◌, ◌&&◌, not, true≢false}
use lib.Dec.{eqb, leb}
use lib.ListN.{length, drop, set, length-append, length-set}
use native.Mathlib.Omega.{arith}
use borrow.Author.Tests.{eqb-true, eqb-false, leb-true, leb-false}
use Rattle.std.specs.Prelude.{Option, Some, None, min}
use Rattle.std.proofs.lemmas.List.{set_past}
use Rattle.tokenizer.specs.declared.event.Point.{Point}
use Rattle.tokenizer.specs.declared.event.Event.{Event}
use Rattle.tokenizer.specs.declared.event.Name.{Name}
use Rattle.tokenizer.specs.Bytes.{Reads}
use Rattle.tokenizer.specs.Lines.{line_body}
use Rattle.tokenizer.specs.Moves.{ahead_of, rest_of, Inside}
use Rattle.tokenizer.specs.Points.{column_past, past}
use Rattle.tokenizer.specs.Slots.{past_if, event_if, wrote}
use Rattle.tokenizer.specs.Events.{Data, GfmTableCell, GfmTableDelimiterCell, SpaceOrTab, number, named as name_of, enter, leave}
use Rattle.tokenizer.proofs.Ahead.{goes as front, past-append, past-none, inside_past}
use Rattle.tokenizer.proofs.Writing.{wrote_one, wrote-more, wrote-append, past-if}
use Rattle.gfm_table.specs.declared.stream.Part.{Part}
use Rattle.gfm_table.specs.declared.stream.Part.TheVariants.{Head, Delimiter, Body}
use Rattle.gfm_table.specs.declared.rows.Placed.{Placed}
use Rattle.gfm_table.specs.declared.rows.Reached.{Reached}
use Rattle.gfm_table.specs.Rows.{Piece, Passed, passed}
use Rattle.gfm_table.specs.Machine.{data_run}
use Rattle.gfm_table.specs.Stream.{pieces_of}
use Rattle.gfm_table.specs.Places.{point_in, placed, next_at}
use Rattle.gfm_table.proofs.Passing.{line_from}
use Rattle.gfm_table.proofs.Coming.{no_pieces, Piecing, Next, none, some, next-piece}
use Rattle.edit_map.specs.declared.cell_spans.Stop.{Stop}
use Rattle.edit_map.specs.declared.cell_steps.Within.{Within}
use Rattle.edit_map.specs.declared.cell_steps.Step.{Step}
use Rattle.edit_map.specs.Base.{is_text_name, most}
use Rattle.edit_map.specs.Raw.{row_piece, delimiter_piece}
use Rattle.edit_map.specs.Tables.{cells, row_inner, delimiter_inner, first_point, cell_events}
use Rattle.edit_map.specs.Cells.{tail, tail_marks, row_turn, mark_turn}
use Rattle.edit_map.specs.Spans.{opens_at, text_next, Reaches, ReachesAs}
use Rattle.edit_map.specs.CellRows.{cell_of, value_of, inside_of, text_left, reach_of, step_from, step_over, step_of, first_within, behind, start_of, stop_of, next_of, entry_in, step_events, step_put, cells_at, cells_end, cells_wrote}
use Rattle.edit_map.proofs.Cells.{enters, row_ends, marks-end}
use Rattle.edit_map.proofs.Spans.{text_ahead_lem, space_next, Goes, goes_none, goes_ends, next}
use Rattle.edit_map.proofs.CellTurns.{first-named, is_data, row_at, marks-at}
use Rattle.edit_order.proofs.Bools.{either, and_false, and_true}
use Rattle.edit_map.proofs.RawRows.{Named, rows_named, delimiters_named}

-- ## The slots of a step

-- one event, or none, and others behind it
one : (b : Bool) (k : ℕ) (e : Event) (es zs : List Event) → wrote k (event_if b e ++ es) zs ≡ wrote (past_if b k) es (wrote k (event_if b e) zs)
one b k e es zs = wrote-append k (event_if b e) es zs ∙ ap (λ (j : ℕ). wrote j es (wrote k (event_if b e) zs)) (sym (past-if b k e))

module _ (o t l : Bool) (k : ℕ) (a b c d e f : Event) where
  -- the slot of the piece's entry
  abbrev begins : ℕ
  begins = past_if t (past_if o (past_if o k))

  -- one after the other, they are all written
  pub six : (zs : List Event)
      → wrote (begins + 2) (event_if l f) (set (set (wrote (past_if o (past_if o k)) (event_if t c) (wrote (past_if o k) (event_if o b) (wrote k (event_if o a) zs))) begins d) (begins + 1) e) ≡ wrote k ((event_if o a ++ event_if o b) ++ (event_if t c ++ (d ∷ e ∷ event_if l f))) zs
  six zs =
      let z1 = wrote k (event_if o a) zs in
      let z2 = wrote (past_if o k) (event_if o b) z1 in
      let z3 = wrote (past_if o (past_if o k)) (event_if t c) z2 in
      let z4 = set z3 begins d in
      let z5 = set z4 (begins + 1) e in
      let two : begins + 1 + 1 ≡ begins + 2 = omega arith in
      sym
      (ap (λ (es : List Event). wrote k es zs) (append_assoc (event_if o a) (event_if o b) (event_if t c ++ (d ∷ e ∷ event_if l f))) ∙ one o k a (event_if o b ++ (event_if t c ++ (d ∷ e ∷ event_if l f))) zs ∙ one o (past_if o k) b (event_if t c ++ (d ∷ e ∷ event_if l f)) z1 ∙ one t (past_if o (past_if o k)) c (d ∷ e ∷ event_if l f) z2
      ∙ wrote-more begins d (e ∷ event_if l f) z3 ∙ wrote-more (begins + 1) e (event_if l f) z4 ∙ ap (λ (m : ℕ). wrote m (event_if l f) z5) two)

-- how many events there are
count : (o t l : Bool) (k : ℕ) (a b c d e f : Event) → past_if l (past_if t (past_if o (past_if o k)) + 2) ≡ k + length ((event_if o a ++ event_if o b) ++ (event_if t c ++ (d ∷ e ∷ event_if l f)))
count true true true k a b c d e f = omega arith
count true true false k a b c d e f = omega arith
count true false true k a b c d e f = omega arith
count true false false k a b c d e f = omega arith
count false true true k a b c d e f = omega arith
count false true false k a b c d e f = omega arith
count false false true k a b c d e f = omega arith
count false false false k a b c d e f = omega arith

-- the same number from any place
pub from_any : (o t l : Bool) (k j : ℕ) → k + (past_if l (past_if t (past_if o (past_if o j)) + 2) - j) ≡ past_if l (past_if t (past_if o (past_if o k)) + 2)
from_any true true true k j = omega arith
from_any true true false k j = omega arith
from_any true false true k j = omega arith
from_any true false false k j = omega arith
from_any false true true k j = omega arith
from_any false true false k j = omega arith
from_any false false true k j = omega arith
from_any false false false k j = omega arith

-- past all slots nothing is written, so the place of the first event matters no further than to the end of the slots
wrote_past : (i : ℕ) (es zs : List Event) → length zs ≤ i → wrote i es zs ≡ zs
unfolding wrote
wrote_past i [] zs h = refl
wrote_past i (e ∷ es) zs h = wrote_past (suc i) es (set zs i e) (omega (arith, h, length-set zs i e)) ∙ set_past zs i e h

pub wrote_within : (k : ℕ) (es zs : List Event) → wrote (min k (length zs)) es zs ≡ wrote k es zs
wrote_within k es zs = go (leb k (length zs)) refl
  where
    go : (b : Bool) → leb k (length zs) ≡ b → wrote (min k (length zs)) es zs ≡ wrote k es zs
    go true e = let h = leb-true k (length zs) e in ap (λ (j : ℕ). wrote j es zs) (omega (arith, h))
    go false e = let h = leb-false k (length zs) e in ap (λ (j : ℕ). wrote j es zs) (omega (arith, h)) ∙ wrote_past (length zs) es zs (omega arith) ∙ sym (wrote_past k es zs (omega (arith, h)))

-- at most six
at_most : (o t l : Bool) (k : ℕ) → past_if l (past_if t (past_if o (past_if o k)) + 2) ≤ k + 6
at_most true true true k = omega arith
at_most true true false k = omega arith
at_most true false true k = omega arith
at_most true false false k = omega arith
at_most false true true k = omega arith
at_most false true false k = omega arith
at_most false false true k = omega arith
at_most false false false k = omega arith

-- the slot behind a step whose first slot is small
pub next_few : (x : Step) → x.slot < 1000000000000 → min (next_of x) most ≡ next_of x
next_few x h = omega (arith, h, at_most x.opens x.enters x.leaves x.slot)

-- ## How far a text goes

module _ (kind : ℕ → ℕ) where
  -- a text that has reached a place ends somewhere
  record Ends (s : List ℕ) (from column : ℕ) : Type 0 where
    stop : Stop
    reaches : (Reaches kind) s from column stop

module _ {kind : ℕ → ℕ} (ok : Reads kind) where
  module _ (s : List ℕ) (short : length s ≤ 65536) (from column : ℕ) where
    -- behind whitespace
    abbrev spaced : ℕ → ℕ
    spaced i = i + length (space_next ok (line_from s i))

    -- a text that comes stands in the sheet
    comes : (i : ℕ) → text_next kind (line_from s i) ≡ true → spaced i < length s
    comes i e =
        let k = ahead_of kind (drop (spaced i) s) in
        let n : k ≡ 2 → ⊥ = λ z. true≢false (sym e ∙ text_ahead_lem ok s i (spaced i) refl ∙ rw z) in
        (front ok s (spaced i) k refl n).below

    reaching : (n i c : ℕ) → length s - i < n → c ≤ 4 * i + 1 → Goes kind s from column i c → Ends kind s from column
    reaching zero i c h m g = absurd (omega (arith, h))
    reaching (suc n) i c h m g = go (text_next kind (line_from s i)) refl (reaching n)
      where
        go : (b : Bool) → text_next kind (line_from s i) ≡ b → ((j d : ℕ) → length s - j < n → d ≤ 4 * j + 1 → Goes kind s from column j d → Ends kind s from column) → Ends kind s from column
        go true e ih =
            let t = spaced i in
            let tc = column_past c (space_next ok (line_from s i)) in
            let j = t + length (data_run kind false (line_from s t)) in
            let x = next ok s from column i c t tc j short (comes i e) m refl refl refl e g in
            ih j (tc + (j - t)) (omega (arith, x.onward, x.short, h)) x.narrow x.goes
        go false e ih = record { stop = record { at = i; column = c }; reaches = goes_ends ok g e }

  -- every one does
  ends_somewhere : (s : List ℕ) (from column : ℕ) → length s ≤ 65536 → column ≤ 4 * from + 1 → Ends kind s from column
  ends_somewhere s from column h n = reaching s h from column (suc (length s - from)) from column (omega arith) n (goes_none ok s from column)

  module _ (s : List ℕ) (x : Placed) (r : Stop) (h : (Reaches kind) s x.end x.column r) where
    abbrev at : Point
    at = point_in 0 x.end x.column

    left_there : (text_left kind) s x ≡ leave Data (past at h.text)
    left_there = h.last (record { entry = enter Data at; exit = leave Data at }) at refl refl

    reaches_is : ◌≡◌ {A = Placed} (record { name = x.name; end = (text_left kind s x).index; column = (text_left kind s x).column }) (record { name = x.name; end = r.at; column = r.column })
    reaches_is =
        let e = ap (λ (z : Event). z.index) left_there ∙ sym h.end in
        let c = ap (λ (z : Event). z.column) left_there ∙ sym h.wide in
        λ i. record { name = x.name; end = e i; column = c i }

  -- a piece by where it ends with what it takes with it
  pub reach_as : (s : List ℕ) (x : Placed) (r : Stop) → ReachesAs kind (number x.name) s x.end x.column r → reach_of kind s x ≡ record { name = x.name; end = r.at; column = r.column }
  reach_as s x r h = go (eqb (number x.name) Data) refl
    where
      go : (b : Bool) → eqb (number x.name) Data ≡ b → cond b (record { name = x.name; end = (text_left kind s x).index; column = (text_left kind s x).column }) x ≡ record { name = x.name; end = r.at; column = r.column }
      go true e = reaches_is s x r (h.0 (eqb-true (number x.name) Data e))
      go false e = let z = sym (h.1 (eqb-false (number x.name) Data e)) in λ i. record { name = x.name; end = (z i).at; column = (z i).column }

  -- the bytes that are passed
  record Extent (s : List ℕ) (from column : ℕ) (r : Stop) : Type 0 where
    text : List ℕ
    line : line_body (drop from s) ≡ text ++ line_body (drop r.at s)
    end : r.at ≡ from + length text
    wide : r.column ≡ column_past column text

  no_extent : (s : List ℕ) (from column : ℕ) → Extent s from column (record { at = from; column = column })
  unfolding column_past
  no_extent s from column = record { text = []; line = refl; end = omega arith; wide = refl }

  extent : (n : ℕ) (s : List ℕ) (from column : ℕ) (r : Stop) → ReachesAs kind n s from column r → Extent s from column r
  extent n s from column r h = go (eqb n Data) refl
    where
      go : (b : Bool) → eqb n Data ≡ b → Extent s from column r
      go true e = let g = h.0 (eqb-true n Data e) in record { text = g.text; line = g.line; end = g.end; wide = g.wide }
      go false e = subst (Extent s from column) (sym (h.1 (eqb-false n Data e))) (no_extent s from column)

module _ (kind : ℕ → ℕ) where
  -- a piece of any name ends somewhere with what it takes with it
  record Taken (n : ℕ) (s : List ℕ) (from column : ℕ) : Type 0 where
    stop : Stop
    reaches : (ReachesAs kind) n s from column stop

module _ {kind : ℕ → ℕ} (ok : Reads kind) where
  takes : (n : ℕ) (s : List ℕ) (from column : ℕ) → length s ≤ 65536 → column ≤ 4 * from + 1 → Taken kind n s from column
  takes n s from column h m = go (eqb n Data) refl
    where
      go : (b : Bool) → eqb n Data ≡ b → Taken kind n s from column
      go true e = let z = ends_somewhere ok s from column h m in record { stop = z.stop; reaches = (λ d. z.reaches, λ d. absurd (d (eqb-true n Data e))) }
      go false e = record { stop = record { at = from; column = column }; reaches = (λ d. absurd (eqb-false n Data e d), λ d. refl) }

  -- the end of a piece lies in the sheet
  pub next_fits : (s : List ℕ) (part : Part) (i c : ℕ) (x : Placed) {r : Option Placed} → (length s ≤ 65536) × (i ≤ length s) × (c ≤ 4 * i + 1) → r ≡ Some x → r ≡ next_at i c (pieces_of kind part (line_body (drop i s))) → (x.end ≤ length s) × (x.column ≤ 4 * x.end + 1)
  next_fits s part i c x h a b = go (next-piece ok s (point_in 0 i c) (record { short = h.0; within = h.1; narrow = h.2; lined = omega arith; flat = refl }) part)
    where
      go : (Next kind) s part (point_in 0 i c) → (x.end ≤ length s) × (x.column ≤ 4 * x.end + 1)
      go (none f) = let z : ◌≡◌ {A = Option Placed} (Some x) None = sym a ∙ b ∙ ap (next_at i c) (ap (pieces_of kind part) f ∙ no_pieces ok part) in cc
      go (some {n} {u} f) =
          let z : ◌≡◌ {A = Option Placed} (Some x) (Some (placed (name_of n) i c u)) = sym a ∙ b ∙ ap (next_at i c) f.pieces in
          let y : x ≡ placed (name_of n) i c u = cc in
          rw y (f.inside.within, f.inside.narrow)

-- ## What is left of a row

-- the events of what is left of a row's cells, inside a cell that was entered
abbrev pub tail_in : Part → Point → Bool → Bool → List Passed → List Event
tail_in Head e waits seen xs = tail GfmTableCell row_inner e seen xs
tail_in Delimiter e waits seen xs = tail_marks GfmTableDelimiterCell e waits seen xs
tail_in Body e waits seen xs = tail GfmTableCell row_inner e seen xs

tail-ends : (part : Part) (e : Point) (waits seen : Bool) → tail_in part e waits seen [] ≡ leave (cell_of part) e ∷ []
tail-ends Head e waits seen = row_ends GfmTableCell e seen
tail-ends Delimiter e waits seen = marks-end GfmTableDelimiterCell e waits seen
tail-ends Body e waits seen = row_ends GfmTableCell e seen

tail-begins : (part : Part) (e : Point) (xs : List Passed) → cell_events (cell_of part) (inside_of part) e (cells false xs) ≡ enter (cell_of part) (first_point xs e) ∷ tail_in part e true false xs
tail-begins Head e xs = enters GfmTableCell row_inner e xs
tail-begins Delimiter e xs = enters GfmTableDelimiterCell delimiter_inner e xs
tail-begins Body e xs = enters GfmTableCell row_inner e xs

-- a step from a place on over a piece of the name n, by whether it is a text and whether it is data
module _ {kind : ℕ → ℕ} (ok : Reads kind) (l i c k : ℕ) (n : Name) (j e : ℕ) (o seen waits m : Bool) where
  abbrev step : Bool → Bool → Step
  step t d =
      record {
        at = i;
        column = c;
        slot = k;
        name = n;
        linked = d;
        opens = o;
        enters = t && (d || waits);
        leaves = t && not ((t && not d) && m);
        end = j;
        stop = e;
        seen = seen || not (eqb (number n) SpaceOrTab);
        waits = o || (waits && not t);
      }

  -- its events in a head line or a body row
  row_events_lem : (t d : Bool) → t ≡ d → row_turn GfmTableCell o t (enter (number n) (point_in l i c)) (leave (number n) (point_in l j e)) ≡ step_events Body l (step t d)
  row_events_lem true true h = refl
  row_events_lem true false h = absurd (true≢false h)
  row_events_lem false true h = absurd (true≢false (sym h))
  row_events_lem false false h = refl

  -- its events in a delimiter row
  mark_events : (t d : Bool) → d ≡ false → mark_turn GfmTableDelimiterCell o (waits && t) (t && not m) (enter (number n) (point_in l i c)) (leave (number n) (point_in l j e)) ≡ step_events Delimiter l (step t d)
  mark_events t true h = absurd (true≢false h)
  mark_events true false h = ap (λ (b : Bool). mark_turn GfmTableDelimiterCell o b (not m) (enter (number n) (point_in l i c)) (leave (number n) (point_in l j e))) (and_true waits)
  mark_events false false h = ap (λ (b : Bool). mark_turn GfmTableDelimiterCell o b false (enter (number n) (point_in l i c)) (leave (number n) (point_in l j e))) (and_false waits)

-- no piece of a delimiter row is data
not_data : (n : ℕ) → delimiter_piece n ≡ true → eqb n Data ≡ false
not_data n =
    either (eqb n 1 || eqb n 10) (eqb n 12 || eqb n 15) (either (eqb n 1) (eqb n 10) (λ z. rw (eqb-true n 1 z)) (λ z. rw (eqb-true n 10 z))) (either (eqb n 12) (eqb n 15) (λ z. rw (eqb-true n 12 z)) (λ z. rw (eqb-true n 15 z)))

-- ## One step

module _ {kind : ℕ → ℕ} (ok : Reads kind) where
  -- the step over the next piece
  pub step_by : (s : List ℕ) (part : Part) (w : Within) {r y : Option Placed} → r ≡ y → r ≡ next_at w.at w.column (pieces_of kind part (line_body (drop w.at s))) → step_over kind s w y ≡ step_of kind s part w
  unfolding step_of
  step_by s part w a b = ap (step_over kind s w) (sym a ∙ b)

  -- the step over a piece that stands first
  step_is : (s : List ℕ) (part : Part) (w : Within) {n : ℕ} {u : List ℕ} {ps : List Piece} → pieces_of kind part (line_body (drop w.at s)) ≡ record { name = n; text = u } ∷ ps
      → step_of kind s part w ≡ step_over kind s w (Some (placed (name_of n) w.at w.column u))
  unfolding step_of
  step_is s part w e = rw e

  -- where none stands there, no step is left
  no_step : (s : List ℕ) (part : Part) (w : Within) → pieces_of kind part (line_body (drop w.at s)) ≡ [] → step_of kind s part w ≡ None
  unfolding step_of
  no_step s part w e = rw e

  -- the first slot of a step, or of the next one
  abbrev slot_from : Within → Option Step → ℕ
  slot_from w None = w.slot
  slot_from w (Some x) = x.slot

  step_slot : (s : List ℕ) (part : Part) (w : Within) (x : Step) → step_of kind s part w ≡ Some x → x.slot ≡ w.slot
  unfolding step_of
  step_slot s part w x e = sym (ap (slot_from w) e) ∙ same (next_at w.at w.column (pieces_of kind part (line_body (drop w.at s))))
    where
      same : (y : Option Placed) → slot_from w (step_over kind s w y) ≡ w.slot
      same None = refl
      same (Some y) = refl

  module _ (s : List ℕ) (part : Part) (l : ℕ) where
    abbrev pub point_at : Within → Point
    point_at w = point_in l w.at w.column

    -- the pieces to come, and where they end
    abbrev comes_at : Within → List Passed
    comes_at w = passed (point_at w) (pieces_of kind part (rest_of s (point_at w)))

    abbrev end_at : Within → Point
    end_at w = past (point_at w) (rest_of s (point_at w))

    -- the events to come
    abbrev left_at : Within → List Event
    left_at w = tail_in part (end_at w) w.waits w.seen (comes_at w)

    -- where the cells end, and what all slots are then
    abbrev pub makes : Within → List Event → Reached × List Event
    makes w zs = (record { at = (end_at w).index; column = (end_at w).column; slot = w.slot + length (left_at w) }, wrote w.slot (left_at w) zs)

    -- a place in the sheet, and a slot that does not grow faster than the bytes
    abbrev pub Good : Within → Type 0
    Good w = Inside s (point_at w) × (w.slot ≤ 4294967297 + 6 * w.at)

    -- the first slot of a step is small
    pub slot_few : (w : Within) (x : Step) → Good w → step_of kind s part w ≡ Some x → x.slot < 1000000000000
    slot_few w x h e = let i = h.0 in omega (arith, step_slot s part w x e, h.1, i.within, i.short)

    -- the step x goes on from w
    record Moves (w : Within) (x : Step) : Type 0 where
      events : (e : Point) → tail_in part e w.waits w.seen (comes_at w) ≡ step_events part l x ++ tail_in part e x.waits x.seen (comes_at (behind (next_of x) x))
      line : end_at (behind (next_of x) x) ≡ end_at w
      inside : Inside s (point_at (behind (next_of x) x))
      long : w.at < x.end

  module _ (s : List ℕ) (l : ℕ) (w : Within) (n : ℕ) (u : List ℕ) where
    abbrev p : Point
    p = point_in l w.at w.column

    -- behind the piece
    abbrev q : Point
    q = past p u

    -- the number of its name
    abbrev m : ℕ
    m = number (name_of n)

    -- the step with its end
    abbrev step_to : Stop → Step
    step_to r = step ok l w.at w.column w.slot (name_of n) r.at r.column (opens_at kind s w.seen m q.index) w.seen w.waits (text_next kind (rest_of s q)) (is_text_name m) (eqb m Data)

    stepped : (part : Part) → Piecing kind s part p n u → (r : Stop) → ReachesAs kind m s q.index q.column r → step_of kind s part w ≡ Some (step_to r)
    stepped part f r h =
        let x = placed (name_of n) w.at w.column u in
        step_is s part w f.pieces ∙ ap (λ (y : Placed). Some (step_from w x (opens_at kind s w.seen m x.end) ((is_text_name m && not (eqb m Data)) && text_next kind (line_body (drop x.end s))) y)) (reach_as ok s x r h)

    -- the pieces, the first by its name's number
    pieces_as : (part : Part) → Piecing kind s part p n u → pieces_of kind part (rest_of s p) ≡ record { name = m; text = u } ∷ pieces_of kind part (rest_of s q)
    pieces_as part f = f.pieces ∙ ap {B = List Piece} (λ (k : ℕ). record { name = k; text = u } ∷ pieces_of kind part (rest_of s q)) (sym f.real)

    -- what is behind the step, by the bytes that it passed
    module _ (part : Part) (f : (Piecing kind) s part p n u) (r : Stop) (h : (ReachesAs kind) m s q.index q.column r) where
      abbrev passes : (Extent ok) s q.index q.column r
      passes = extent ok m s q.index q.column r h

      stop_is : point_in l r.at r.column ≡ past q passes.text
      stop_is = λ i. point_in l (passes.end i) (passes.wide i)

      line-is : rest_of s q ≡ passes.text ++ rest_of s (past q passes.text)
      line-is = passes.line ∙ ap (λ (a : ℕ). passes.text ++ line_body (drop a s)) passes.end

      moving : ((e : Point) → tail_in part e w.waits w.seen (comes_at s part l w) ≡ step_events part l (step_to r) ++ tail_in part e (step_to r).waits (step_to r).seen (comes_at s part l (behind (next_of (step_to r)) (step_to r)))) → (x : Step) → step_of kind s part w ≡ Some x → Moves s part l w x
      moving core x e =
          let z : ◌≡◌ {A = Option Step} (Some (step_to r)) (Some x) = sym (stepped part f r h) ∙ e in
          let y : step_to r ≡ x = cc in
          subst (Moves s part l w) y
          (record {
            events = core;
            line = ap (λ (z : Point). past z (rest_of s z)) stop_is ∙ past-append q passes.text (rest_of s (past q passes.text)) ∙ ap (past q) (sym line-is) ∙ f.line;
            inside = subst (Inside s) (sym stop_is) (inside_past s q passes.text (rest_of s (past q passes.text)) f.inside line-is);
            long = omega (arith, f.long, passes.end);
          })

    body-moves : (Piecing kind) s Body p n u → (x : Step) → step_of kind s Body w ≡ Some x → Moves s Body l w x
    body-moves f =
        let z = takes ok m s q.index q.column f.inside.short f.inside.narrow in
        let r = z.stop in
        let g = pieces_as Body f in
        let t = is_data m (first-named (subst (Named row_piece) g (rows_named kind false (rest_of s p)))) in
        let x = step_to r in
        moving Body f r z.reaches
        (λ e.
        row_at ok GfmTableCell e s l w.at w.column m u q.index q.column refl refl g w.seen r z.reaches
        ∙ ap (λ (es : List Event). es ++ tail GfmTableCell row_inner e x.seen (comes_at s Body l (behind (next_of x) x)))
        (row_events_lem ok l w.at w.column w.slot (name_of n) r.at r.column x.opens w.seen w.waits (text_next kind (rest_of s q)) (is_text_name m) (eqb m Data) t))

    delimiter-moves : (Piecing kind) s Delimiter p n u → (x : Step) → step_of kind s Delimiter w ≡ Some x → Moves s Delimiter l w x
    delimiter-moves f =
        let r : Stop = record { at = q.index; column = q.column } in
        let g = pieces_as Delimiter f in
        let d = not_data m (first-named (subst (Named delimiter_piece) g (delimiters_named kind (rest_of s p)))) in
        let x = step_to r in
        moving Delimiter f r (λ z. absurd (eqb-false m Data d z), λ z. refl)
        (λ e.
        marks-at ok GfmTableDelimiterCell e s l w.at w.column m u q.index q.column refl refl g w.waits w.seen
        ∙ ap (λ (es : List Event). es ++ tail_marks GfmTableDelimiterCell e x.waits x.seen (comes_at s Delimiter l (behind (next_of x) x)))
        (mark_events ok l w.at w.column w.slot (name_of n) r.at r.column x.opens w.seen w.waits (text_next kind (rest_of s q)) (is_text_name m) (eqb m Data) d))

    -- a head line is read as a body row is
    head-moves : (x : Step) → Moves s Body l w x → Moves s Head l w x
    head-moves x f = record { events = f.events; line = f.line; inside = f.inside; long = f.long }

    as_body : (Piecing kind) s Head p n u → Piecing kind s Body p n u
    as_body f = record { pieces = f.pieces; real = f.real; long = f.long; line = f.line; inside = f.inside }

    same_step : step_of kind s Head w ≡ step_of kind s Body w
    unfolding step_of
    same_step = refl

    moves : (part : Part) → Piecing kind s part p n u → (x : Step) → step_of kind s part w ≡ Some x → Moves s part l w x
    moves Head f x e = head-moves x (body-moves (as_body f) x (sym same_step ∙ e))
    moves Delimiter f x e = delimiter-moves f x e
    moves Body f x e = body-moves f x e

  -- ## All steps

  module _ (s : List ℕ) (part : Part) (l : ℕ) where
    -- the step x is written
    pub record Onward (w : Within) (x : Step) : Type 0 where
      pub good : Good s part l (behind (next_of x) x)
      pub more : (zs : List Event) → makes s part l w zs ≡ makes s part l (behind (next_of x) x) (step_put part l x zs)
      pub long : w.at < x.end

    onward : (w : Within) (x : Step) → Good s part l w → x.slot ≡ w.slot → Moves s part l w x → Onward w x
    onward w x h k m =
        let v = behind (next_of x) x in
        let es = step_events part l x in
        let rest = left_at s part l v in
        let a = leave (cell_of part) (start_of l x) in
        let b = enter (cell_of part) (start_of l x) in
        let c = enter (value_of part) (start_of l x) in
        let d = leave (number x.name) (stop_of l x) in
        let f = leave (value_of part) (stop_of l x) in
        let q : left_at s part l w ≡ es ++ rest = m.events (end_at s part l w) ∙ ap (λ (e : Point). es ++ tail_in part e x.waits x.seen (comes_at s part l v)) (sym m.line) in
        let n : v.slot ≡ w.slot + length es = count x.opens x.enters x.leaves x.slot a b c (entry_in l x) d f ∙ ap (λ (j : ℕ). j + length es) k in
        let sum : w.slot + length (left_at s part l w) ≡ v.slot + length rest = omega (arith, n, ap length q, length-append es rest) in
        let few : v.slot ≤ x.slot + 6 = at_most x.opens x.enters x.leaves x.slot in
        let all : (zs : List Event) → wrote w.slot (left_at s part l w) zs ≡ wrote v.slot rest (step_put part l x zs) =
        λ zs. ap (λ (r : List Event). wrote w.slot r zs) q ∙ wrote-append w.slot es rest zs ∙ (λ j. wrote (sym n j) rest (wrote (sym k j) es zs)) in
        record {
          good = (m.inside, omega (arith, few, k, h.1, m.long));
          more = λ zs. λ j. (record { at = (sym m.line j).index; column = (sym m.line j).column; slot = sum j }, all zs j);
          long = m.long;
        }

    -- a step goes on
    pub goes : (w : Within) (x : Step) → Good s part l w → step_of kind s part w ≡ Some x → Onward w x
    goes w x h e = go (next-piece ok s (point_at s part l w) h.0 part)
      where
        go : (Next kind) s part (point_at s part l w) → Onward w x
        go (none f) = let z : ◌≡◌ {A = Option Step} None (Some x) = sym (no_step s part w (ap (pieces_of kind part) f ∙ no_pieces ok part)) ∙ e in cc
        go (some {n = n} {u = u} f) = onward w x h (step_slot s part w x e) (moves s l w n u part f x e)

    -- no step is left, and the last cell is left
    pub stops : (w : Within) (zs : List Event) → Good s part l w → step_of kind s part w ≡ None
        → makes s part l w zs ≡ (record { at = w.at; column = w.column; slot = w.slot + 1 }, set zs w.slot (leave (cell_of part) (point_at s part l w)))
    unfolding passed
    stops w zs h g = go (next-piece ok s (point_at s part l w) h.0 part)
      where
        go : (Next kind) s part (point_at s part l w) → makes s part l w zs ≡ (record { at = w.at; column = w.column; slot = w.slot + 1 }, set zs w.slot (leave (cell_of part) (point_at s part l w)))
        go (none e) =
            let p = point_at s part l w in
            let r : past p (rest_of s p) ≡ p = ap (past p) e ∙ past-none p refl in
            let n : (pieces_of kind) part (rest_of s p) ≡ [] = ap (pieces_of kind part) e ∙ no_pieces ok part in
            let q : left_at s part l w ≡ leave (cell_of part) p ∷ [] =
            ap (λ (ps : List Piece). tail_in part (past p (rest_of s p)) w.waits w.seen (passed p ps)) n ∙ tail-ends part (past p (rest_of s p)) w.waits w.seen ∙ ap (λ (z : Point). leave (cell_of part) z ∷ []) r in
            let a : wrote w.slot (left_at s part l w) zs ≡ set zs w.slot (leave (cell_of part) p) = ap (λ (es : List Event). wrote w.slot es zs) q ∙ wrote_one w.slot (leave (cell_of part) p) zs in
            λ j. (record { at = (r j).index; column = (r j).column; slot = w.slot + length (q j) }, a j)
        go (some {n = n} {u = u} f) =
            let z : ◌≡◌ {A = Option Step} (step_over kind s w (Some (placed (name_of n) w.at w.column u))) None = sym (step_is s part w f.pieces) ∙ g in cc

    -- the first cell is entered
    pub opening : (from k : ℕ) (ys : List Event) → Inside s (point_in l from 1)
        → (cells_end kind s part (point_in l from 1) k, cells_wrote kind s part (point_in l from 1) k ys) ≡ makes s part l (first_within from k) (set ys k (enter (cell_of part) (point_in l from 1)))
    unfolding passed
    opening from k ys h =
        let p = point_in l from 1 in
        let e = past p (rest_of s p) in
        let rest = left_at s part l (first_within from k) in
        let q : (cells_at kind) s part p ≡ enter (cell_of part) p ∷ rest = tail-begins part e (passed p (pieces_of kind part (rest_of s p))) ∙ ap (λ (z : Point). enter (cell_of part) z ∷ rest) (first (next-piece ok s p h part)) in
        let sum : k + length (cells_at kind s part p) ≡ k + 1 + length rest = ap (λ (es : List Event). k + length es) q ∙ omega arith in
        let all : wrote k (cells_at kind s part p) ys ≡ wrote (k + 1) rest (set ys k (enter (cell_of part) p)) = ap (λ (es : List Event). wrote k es ys) q ∙ wrote-more k (enter (cell_of part) p) rest ys in
        λ j. (record { at = e.index; column = e.column; slot = sum j }, all j)
      where
        first : (Next kind) s part (point_in l from 1) → first_point (passed (point_in l from 1) (pieces_of kind part (rest_of s (point_in l from 1)))) (past (point_in l from 1) (rest_of s (point_in l from 1))) ≡ point_in l from 1
        first (none e) =
            let p = point_in l from 1 in
            ap (λ (u : List ℕ). first_point (passed p (pieces_of kind part u)) (past p u)) e ∙ ap (λ (ps : List Piece). first_point (passed p ps) (past p [])) (no_pieces ok part) ∙ past-none p refl
        first (some f) = let p = point_in l from 1 in ap (λ (ps : List Piece). first_point (passed p ps) (past p (rest_of s p))) f.pieces

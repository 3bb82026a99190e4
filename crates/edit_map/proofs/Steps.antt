-- The cursor's steps are the stream's turns.
-- Assumes nothing.
use Prim.Native.Nat.{ℕ, zero, suc, ◌+◌, ◌≤◌}
use mathlib.Core.Path.{◌≡◌, refl, sym, ap, ◌∙◌}
use mathlib.Core.List.{List, [], ◌∷◌}
use mathlib.Core.Bool.{Bool, true, false, cond, ◌||◌, ◌&&◌, not, true≢false}
use lib.Dec.{eqb, leb, leb-zero, leb-suc-zero, leb-suc-suc}
use lib.ListN.{drop, length, length-drop, replicate}
use lib.Seq.{drop-drop}
use native.Mathlib.Omega.{arith}
use borrow.Author.Tests.{eqb-true, leb-true, leb-false}
use Rattle.std.specs.Prelude.{Some, None}
use Rattle.std.specs.declared.ops.ControlFlow.{ControlFlow}
use Rattle.std.specs.declared.ops.ControlFlow.TheVariants.{Continue, Break}
use Rattle.tokenizer.specs.declared.event.Event.{Event}
use Rattle.tokenizer.specs.Slots.{event_at, slots_of, cleared}
use Rattle.tokenizer.proofs.Blanks.{slots_none, cleared_all}
use Rattle.tokenizer.specs.Events.{GfmTableCellDivider, SpaceOrTab, blank_event}
use Rattle.edit_map.specs.declared.resolve_turn.Phase.{Phase}
use Rattle.edit_map.specs.declared.resolve_turn.Phase.TheVariants.{Out, Head, Row, Cell, Piece, Exit, Text, Copy, Leave, RowExit, HeadExit, End, EndExit, Open, BodyLeave, TableLeave}
use Rattle.gfm_table.specs.declared.stream.Part.{Part}
use Rattle.edit_map.specs.declared.resolve_turn.Mode.{Mode}
use Rattle.edit_map.specs.declared.resolve_turn.Turn.{Turn}
use Rattle.edit_map.specs.declared.resolve_look.Look.{Look}
use Rattle.edit_map.specs.declared.resolve_step.Cursor.{Cursor}
use Rattle.edit_map.specs.Base.{most, plus_of, is_text_name}
use Rattle.edit_map.specs.Turns.{plain, piece_turn, turn_in, turn_of}
use Rattle.edit_map.proofs.Stream.{first, rest, onward, ahead_of, solid_of, turn_at}
use Rattle.edit_map.specs.Cursors.{moves, look_all, is_piece, asks, reads, next_at, is_over, over_at, look_of, turn_here, next_of, front, stepped, given_to}
use Rattle.edit_map.proofs.Gives.{is_last, Gives, none, more}
use Rattle.edit_map.specs.Tables.{Table, raw_tables, resolved_tables}
use Rattle.edit_map.specs.Raw.{AreTables}
use Rattle.edit_map.proofs.Streams.{tables_give}
use Rattle.edit_order.proofs.Bools.{and_false, or_false, or_true}

-- the look ahead at a cursor
abbrev look_at : List Event → Cursor → Look
look_at es c = look_of es c (event_at es c.at)

-- ## As many slots as there were

cond_length : (b : Bool) (xs ys : List Event) (n : ℕ) → length xs ≡ n → length ys ≡ n → length (cond b xs ys) ≡ n
cond_length true xs ys n p q = p
cond_length false xs ys n p q = q

pub as_many : (es : List Event) (c : Cursor) (ys : List Event) → length (stepped es c ys) ≡ length ys
unfolding stepped
as_many es c [] = refl
as_many es c (y ∷ ys) = cond_length (over_at es c) (y ∷ ys) ((turn_here es c).event ∷ stepped es (next_of es c) ys) (suc (length ys)) refl (ap suc (as_many es (next_of es c) ys))

-- ## Reading at a place

pub plus_fits : (a b : ℕ) → a + b ≤ most → plus_of a b ≡ a + b
plus_fits a b h = omega (arith, h)

pub drop_past : (es : List Event) {n : ℕ} → length es ≤ n → drop n es ≡ []
drop_past es h = lib.ListN.drop_of_length-le es h

-- a place further on
drop_plus : (es : List Event) (a b : ℕ) → length es ≤ most → drop (plus_of a b) es ≡ drop b (drop a es)
drop_plus es a b h = go (leb (a + b) most) refl ∙ sym (drop-drop b a es)
  where
    go : (t : Bool) → leb (a + b) most ≡ t → drop (plus_of a b) es ≡ drop (a + b) es
    go true e = ap (λ (k : ℕ). drop k es) (plus_fits a b (leb-true (a + b) most e))
    go false e = drop_past es (omega (arith, leb-false (a + b) most e)) ∙ sym (drop_past es (omega (arith, leb-false (a + b) most e)))

event_at_lem : (es : List Event) (i : ℕ) → event_at es i ≡ first (drop i es)
event_at_lem [] zero = refl
event_at_lem [] (suc i) = refl
event_at_lem (e ∷ es) zero = refl
event_at_lem (e ∷ es) (suc i) = event_at_lem es i

drop-one : (es : List Event) → drop 1 es ≡ rest es
drop-one [] = refl
drop-one (e ∷ es) = refl

drop_two : (es : List Event) → drop 2 es ≡ rest (rest es)
drop_two [] = refl
drop_two (e ∷ []) = refl
drop_two (e ∷ f ∷ es) = refl

-- ## The look ahead finds what the stream asks

abbrev looking : ℕ → ℕ → Bool → Bool → Look
looking n a s f = record { count = n; ahead = a; solid = s; brief = f }

-- where the last text ahead ends, from a place n records on, if there is one
further : ℕ → ℕ → ℕ → ℕ
further a n zero = a
further a n (suc k) = n + suc k

further_space : (a n m k : ℕ) → m ≡ n + 1 → further a m k ≡ further a n (onward k)
unfolding further
further_space a n m zero q = refl
further_space a n m (suc k) q = omega arith

further_text : (n m k : ℕ) → m ≡ n + 1 → further m m k ≡ n + suc k
unfolding further
further_text n m zero q = omega arith
further_text n m (suc k) q = omega arith

further_start : (k : ℕ) → further 1 1 k ≡ suc k
unfolding further
further_start zero = refl
further_start (suc k) = omega arith

abbrev Sees : List Event → Look → ℕ → Bool → Type 0
Sees es l k z = ((look_all (Continue l) es).ahead ≡ k) × ((look_all (Continue l) es).solid ≡ z)

looks : (es : List Event) (n a : ℕ) (s : Bool) → n + length es ≤ most → Sees es (looking n a s false) (further a n (ahead_of es)) (s || solid_of es)
unfolding look_all ahead_of solid_of further
looks [] n a s h = (refl, sym (or_false s))
looks (e ∷ es) n a s h = go (plus_of n 1) (plus_fits n 1 (omega arith)) (eqb e.name SpaceOrTab) (is_text_name e.name) (λ m q b z. looks es m b z (omega arith))
  where
    d : Bool
    d = eqb e.name GfmTableCellDivider

    next : ℕ → Bool → Bool → ControlFlow Look Look
    next m p t = cond p (Continue (looking m a s false)) (cond t (Continue (looking m m true false)) (Break (looking n a (s || d) false)))

    go : (m : ℕ) → m ≡ n + 1 → (p t : Bool) → ((k : ℕ) → k ≡ n + 1 → (b : ℕ) (z : Bool) → Sees es (looking k b z false) (further b k (ahead_of es)) (z || solid_of es))
        → ((look_all (next m p t) es).ahead ≡ further a n (cond p (onward (ahead_of es)) (cond t (suc (ahead_of es)) 0))) × ((look_all (next m p t) es).solid ≡ s || cond p (solid_of es) (t || d))
    go m q true t ih = ((ih m q a s).0 ∙ further_space a n m (ahead_of es) q, (ih m q a s).1)
    go m q false true ih = ((ih m q m true).0 ∙ further_text n m (ahead_of es) q, (ih m q m true).1 ∙ sym (or_true s))
    go m q false false ih = (refl, refl)

-- a brief look finds whether something solid comes
briefly : (es : List Event) (n a : ℕ) (s : Bool) → (look_all (Continue (looking n a s true)) es).solid ≡ s || solid_of es
unfolding look_all solid_of
briefly [] n a s = sym (or_false s)
briefly (e ∷ es) n a s = go (plus_of n 1) (eqb e.name SpaceOrTab) (is_text_name e.name) (λ m. briefly es m a s)
  where
    d : Bool
    d = eqb e.name GfmTableCellDivider

    next : ℕ → Bool → Bool → ControlFlow Look Look
    next m p t = cond p (Continue (looking m a s true)) (cond t (Break (looking m m true true)) (Break (looking n a (s || d) true)))

    go : (m : ℕ) (p t : Bool) → ((k : ℕ) → (look_all (Continue (looking k a s true)) es).solid ≡ s || solid_of es)
        → (look_all (next m p t) es).solid ≡ s || cond p (solid_of es) (t || d)
    go m true t ih = ih m
    go m false true ih = sym (or_true s)
    go m false false ih = refl

-- ## A step is a turn

and_three : (b c d : Bool) → b && c ≡ false → b && (c && d) ≡ false
and_three true c d h = rw h
and_three false c d h = refl

-- whitespace, and the first divider of a row, open nothing
abbrev Quiet : Bool → Bool → ℕ → Type 0
Quiet seen waits n = (seen && eqb n GfmTableCellDivider ≡ false) × (waits && is_text_name n ≡ false)

quiet : (seen waits : Bool) (n : ℕ) → not (eqb n SpaceOrTab) && (seen || not (eqb n GfmTableCellDivider)) ≡ false → Quiet seen waits n
quiet seen waits n h = space (eqb n SpaceOrTab) refl h
  where
    divider : (s b : Bool) → eqb n GfmTableCellDivider ≡ b → s || not b ≡ false → Quiet s waits n
    divider true b e k = absurd (true≢false k)
    divider false true e k = (refl, ap (λ (i : ℕ). waits && is_text_name i) (eqb-true n GfmTableCellDivider e) ∙ and_false waits)
    divider false false e k = absurd (true≢false k)

    space : (b : Bool) → eqb n SpaceOrTab ≡ b → not b && (seen || not (eqb n GfmTableCellDivider)) ≡ false → Quiet seen waits n
    space true e k = (ap (λ (i : ℕ). seen && eqb i GfmTableCellDivider) (eqb-true n SpaceOrTab e) ∙ and_false seen, ap (λ (i : ℕ). waits && is_text_name i) (eqb-true n SpaceOrTab e) ∙ and_false waits)
    space false e k = divider seen (eqb n GfmTableCellDivider) refl k

-- where no look ahead is asked for, the turn does not depend on it
unasked : (m : Mode) (this next : Event) (a b : ℕ) (s t : Bool) → asks m this ≡ false → turn_of m this next a s ≡ turn_of m this next b t
unfolding piece_turn
unasked m this next a b s t h = go m.phase refl
  where
    piece : (m.seen && eqb this.name GfmTableCellDivider ≡ false) × (m.waits && is_text_name this.name ≡ false) → piece_turn m this a s ≡ piece_turn m this b t
    piece (x, y) = rw (and_three m.seen (eqb this.name GfmTableCellDivider) s x, and_three m.seen (eqb this.name GfmTableCellDivider) t x, y)

    go : (p : Phase) → m.phase ≡ p → turn_in p m this next a s ≡ turn_in p m this next b t
    go Out e = refl
    go Head e = refl
    go Row e = refl
    go Cell e = refl
    go Piece e = piece (quiet m.seen m.waits this.name (rw (ap is_piece e) at h))
    go Exit e = refl
    go Text e = refl
    go Copy e = refl
    go Leave e = refl
    go RowExit e = refl
    go HeadExit e = refl
    go End e = refl
    go EndExit e = refl
    go Open e = refl
    go BodyLeave e = refl
    go TableLeave e = refl

-- at a divider the turn does not depend on where the last text ahead ends
undivided : (m : Mode) (this next : Event) (a b : ℕ) (s : Bool) → eqb this.name GfmTableCellDivider ≡ true → turn_of m this next a s ≡ turn_of m this next b s
unfolding piece_turn
undivided m this next a b s h = go m.phase
  where
    none : m.waits && is_text_name this.name ≡ false
    none = ap (λ (i : ℕ). m.waits && is_text_name i) (eqb-true this.name GfmTableCellDivider h) ∙ and_false m.waits

    go : (p : Phase) → turn_in p m this next a s ≡ turn_in p m this next b s
    go Out = refl
    go Head = refl
    go Row = refl
    go Cell = refl
    go Piece = rw none
    go Exit = refl
    go Text = refl
    go Copy = refl
    go Leave = refl
    go RowExit = refl
    go HeadExit = refl
    go End = refl
    go EndExit = refl
    go Open = refl
    go BodyLeave = refl
    go TableLeave = refl

-- where the next record is not read, the turn does not depend on it
unread : (m : Mode) (this x y : Event) (a : ℕ) (s : Bool) → reads m.phase ≡ false → turn_of m this x a s ≡ turn_of m this y a s
unread m this x y a s h = go m.phase h
  where
    go : (p : Phase) → reads p ≡ false → turn_in p m this x a s ≡ turn_in p m this y a s
    go Out e = refl
    go Head e = refl
    go Row e = refl
    go Cell e = refl
    go Piece e = refl
    go Exit e = refl
    go Text e = refl
    go Copy e = refl
    go Leave e = refl
    go RowExit e = absurd (true≢false e)
    go HeadExit e = absurd (true≢false e)
    go End e = refl
    go EndExit e = refl
    go Open e = refl
    go BodyLeave e = refl
    go TableLeave e = refl

turn-same : (m : Mode) {x y z w : Event} {a b : ℕ} {s t : Bool} → x ≡ y → z ≡ w → a ≡ b → s ≡ t → turn_of m x z a s ≡ turn_of m y w b t
turn-same m p q r u = λ i. turn_of m (p i) (q i) (r i) (u i)

module _ (es : List Event) (fits : length es ≤ most) where
  after-at : (i : ℕ) → event_at es (plus_of i 1) ≡ first (rest (drop i es))
  after-at i = event_at_lem es (plus_of i 1) ∙ ap first (drop_plus es i 1 fits ∙ drop-one (drop i es))

  -- what is behind the piece at a place
  abbrev beyond : ℕ → List Event
  beyond i = rest (rest (drop i es))

  looks_at : (i : ℕ) → Sees (drop (plus_of i 2) es) (looking 1 1 false false) (suc (ahead_of (beyond i))) (solid_of (beyond i))
  looks_at i =
      let fits-too : 1 + length (beyond i) ≤ most = rw (← drop_two (drop i es)) (simp length-drop (omega arith)) in
      let seen = looks (beyond i) 1 1 false fits-too in
      rw (drop_plus es i 2 fits ∙ drop_two (drop i es)) (seen.0 ∙ further_start (ahead_of (beyond i)), seen.1)

  briefly_at : (i : ℕ) → (look_all (Continue (looking 1 1 false true)) (drop (plus_of i 2) es)).solid ≡ solid_of (beyond i)
  briefly_at i = rw (drop_plus es i 2 fits ∙ drop_two (drop i es)) (briefly (beyond i) 1 1 false)

  -- the turn with the next record read is that with the one that a step reads
  read_is : (c : Cursor) (a : ℕ) (s : Bool) → turn_of c.mode (event_at es c.at) (next_at es c) a s ≡ turn_of c.mode (event_at es c.at) (event_at es (plus_of c.at 1)) a s
  read_is c a s = go (reads c.mode.phase) refl
    where
      go : (b : Bool) → reads c.mode.phase ≡ b → turn_of c.mode (event_at es c.at) (cond b (event_at es (plus_of c.at 1)) blank_event) a s ≡ turn_of c.mode (event_at es c.at) (event_at es (plus_of c.at 1)) a s
      go true e = refl
      go false e = unread c.mode (event_at es c.at) _ _ a s e

  turn_is : (c : Cursor) → turn_here es c ≡ turn_at c.mode (drop c.at es)
  unfolding turn_here
  turn_is c = read_is c (look_at es c).ahead (look_at es c).solid ∙ go (asks c.mode this) refl
    where
      this : Event
      this = event_at es c.at

      next : Event
      next = event_at es (plus_of c.at 1)

      look : Bool → Bool → Look
      look b f = cond b (look_all (Continue (looking 1 1 false f)) (drop (plus_of c.at 2) es)) (looking 1 1 false f)

      there : (a : ℕ) (s : Bool) → a ≡ suc (ahead_of (beyond c.at)) → s ≡ solid_of (beyond c.at) → turn_of c.mode this next a s ≡ turn_at c.mode (drop c.at es)
      there a s p q = turn-same c.mode (event_at_lem es c.at) (after-at c.at) p q

      seen : (f : Bool) → eqb this.name GfmTableCellDivider ≡ f → turn_of c.mode this next (look true f).ahead (look true f).solid ≡ turn_at c.mode (drop c.at es)
      seen true e = undivided c.mode this next _ (suc (ahead_of (beyond c.at))) _ e ∙ there _ _ refl (briefly_at c.at)
      seen false e = there _ _ (looks_at c.at).0 (looks_at c.at).1

      go : (b : Bool) → asks c.mode this ≡ b → turn_of c.mode this next (look b (eqb this.name GfmTableCellDivider)).ahead (look b (eqb this.name GfmTableCellDivider)).solid ≡ turn_at c.mode (drop c.at es)
      go true e = seen (eqb this.name GfmTableCellDivider) refl
      go false e = unasked c.mode this next 1 _ false _ e ∙ there _ _ refl refl

  -- a cursor stands at a mode and a place of the list
  pub record Stands (c : Cursor) (m : Mode) (l : List Event) : Type 0 where
    pub mode : c.mode ≡ m
    pub place : drop c.at es ≡ l

  turns : {c : Cursor} {m : Mode} {l : List Event} → Stands c m l → turn_here es c ≡ turn_at m l
  turns {c} s = turn_is c ∙ (λ i. turn_at (s.mode i) (s.place i))

  moves_on : {c : Cursor} {m : Mode} {l : List Event} → Stands c m l → Stands (moves c (turn_at m l)) (turn_at m l).mode (drop (turn_at m l).by l)
  moves_on {c} {m} {l} s = record { mode = refl; place = drop_plus es c.at (turn_at m l).by fits ∙ ap (λ (k : List Event). drop (turn_at m l).by k) s.place }

  -- the stream is at its end
  over-is : {c : Cursor} {m : Mode} {l : List Event} → Stands c m l → over_at es c ≡ is_last m l
  over-is {c} s = ap (λ (e : Event). is_over c e) (event_at_lem es c.at) ∙ (λ i. is_last (s.mode i) (s.place i))

  -- ## The slots

  fill_step : (y : Event) (ys : List Event) {c : Cursor} {m : Mode} {l : List Event} → Stands c m l → is_last m l ≡ false → stepped es c (y ∷ ys) ≡ (turn_at m l).event ∷ stepped es (moves c (turn_at m l)) ys
  unfolding stepped
  fill_step y ys {c} s e = rw (over-is s ∙ e) (ap (λ (t : Turn). t.event ∷ stepped es (moves c t) ys) (turns s))

  -- where there are slots for all records that are to be given, these stand in them, once the slots behind are cleared
  pub fills : {m : Mode} {l out : List Event} → Gives m l out (plain Out Part.Head) [] → {c : Cursor} → Stands c m l → (ys : List Event) → length out ≤ length ys → cleared blank_event (length out) (stepped es c ys) ≡ slots_of (length ys) out
  unfolding cleared slots_of
  fills none {c} s ys h = cleared_all (stepped es c ys) ∙ ap (λ (k : ℕ). replicate k blank_event) (as_many es c ys) ∙ sym (slots_none (length ys))
  fills (more e g) s [] h = absurd (omega arith)
  fills (more {m = m} {es = l} {out = out} e g) {c} s (y ∷ ys) h =
      ap (cleared blank_event (suc (length out))) (fill_step y ys s e)
      ∙ ap (λ (r : List Event). (turn_at m l).event ∷ r) (fills g (moves_on s) ys (omega arith))

  -- ## The end, and the number of records given

  -- n slots where some records are to be given, and k have come
  counts : (k n : ℕ) {m : Mode} {l out : List Event} → Gives m l out (plain Out Part.Head) [] → {c : Cursor} → Stands c m l → given_to es k n c ≡ cond (leb (length out) n) (Some (k + length out)) None
  unfolding given_to
  counts k zero none s = rw (over-is s) (ap Some (omega arith))
  counts k (suc n) none s = rw (over-is s, leb-zero (suc n)) (ap Some (omega arith))
  counts k zero (more {out = out} e g) s = rw (over-is s ∙ e, leb-suc-zero (length out))
  counts k (suc n) (more {m = m} {es = l} {out = out} e g) {c} s =
      rw (over-is s ∙ e, turns s, leb-suc-suc (length out) n)
      (counts (suc k) n g (moves_on s) ∙ ap (λ (j : ℕ). cond (leb (length out) n) (Some j) None) (omega arith))

-- ## The resolver's stream: for a list of raw tables, what it gives, and how many records it gave
pub record Resolves (es out ys : List Event) : Type 0 where
  pub records : length out ≤ length ys → cleared blank_event (length out) (stepped es front ys) ≡ slots_of (length ys) out
  pub count : given_to es 0 (length ys) front ≡ cond (leb (length out) (length ys)) (Some (length out)) None

pub resolves : {ts : List Table} → AreTables ts → length (raw_tables ts) ≤ most → (ys : List Event) → Resolves (raw_tables ts) (resolved_tables ts) ys
resolves {ts} h fits ys =
    let s : Stands (raw_tables ts) fits front (plain Out Part.Head) (raw_tables ts) = record { mode = refl; place = refl } in
    record {
      records = fills (raw_tables ts) fits (tables_give h) s ys;
      count = counts (raw_tables ts) fits 0 (length ys) (tables_give h) s ∙ ap (λ (j : ℕ). cond (leb (length (resolved_tables ts)) (length ys)) (Some j) None) (omega arith);
    }

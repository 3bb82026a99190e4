-- How far a cell's text goes: what the bytes of a line say of its pieces.
-- Assumes nothing.
use Prim.Native.Nat.{ℕ, ◌+◌, ◌-◌, ◌*◌, ◌≤◌, ◌<◌}
use mathlib.Core.Path.{◌≡◌, refl, sym, ap, ◌∙◌}
use mathlib.Core.Logic.{◌⊎◌, inl, inr}
use mathlib.Core.List.{List, [], ◌∷◌, ◌++◌, append_assoc}
use mathlib.Core.Bool.{Bool, true, false, cond, ◌||◌, ◌&&◌, not, true≢false}
use lib.Dec.{eqb}
use lib.ListN.{length, drop, get_or, length-append}
use native.Mathlib.Omega.{arith}
use borrow.Author.Tests.{eq-eqb, ne_eqb, eqb-true, eqb-false}
use Rattle.tokenizer.specs.declared.event.Point.{Point}
use Rattle.tokenizer.specs.declared.kinds.Kind.{Kind}
use Rattle.tokenizer.specs.declared.kinds.Kind.TheVariants.{End, Pipe}
use Rattle.tokenizer.specs.Bytes.{kind_number, is_end, Reads}
use Rattle.tokenizer.specs.Lines.{line_body, is_empty, indent, unindented, blank}
use Rattle.tokenizer.specs.Moves.{ahead_of, Inside}
use Rattle.tokenizer.specs.Points.{column_after, column_past, past}
use Rattle.tokenizer.specs.Events.{Data, GfmTableCellDivider, GfmTableDelimiterFiller, GfmTableDelimiterMarker, SpaceOrTab, enter, leave}
use Rattle.tokenizer.proofs.Ahead.{Front, goes, past-append, past-none, rest-past, inside_past}
use Rattle.tokenizer.proofs.Runs.{space_on, space_split}
use Rattle.gfm_table.specs.declared.rows.Stop.{Stop}
use Rattle.gfm_table.specs.Rows.{Piece, Passed, joins, on_pieces, row_name, odd_after, row_pieces, delimiter_name, delimiter_pieces, passed}
use Rattle.gfm_table.specs.Machine.{data_run, data_rest}
use Rattle.gfm_table.proofs.Runs.{led, led-some, space_pieces, data_some, data_split, data_pieces, data_columns}
use Rattle.gfm_table.proofs.Passing.{line_from}
use Rattle.gfm_table.proofs.KindsAhead.{apart_kinds}
use Rattle.edit_map.specs.Base.{is_text_name}
use Rattle.edit_map.specs.Tables.{any_solid}
use Rattle.edit_map.specs.Cells.{text_ahead, later, last_ahead}
use Rattle.edit_map.specs.Spans.{text_first, text_next, pieces_from, Reaches}

-- ## Pieces without their points

unfoldable solid_in : List Piece → Bool
solid_in [] = false
solid_in (x ∷ xs) = not (eqb x.name SpaceOrTab) || solid_in xs

unfoldable text_in : List Piece → Bool
text_in [] = false
text_in (x ∷ xs) = is_text_name x.name || (not (eqb x.name GfmTableCellDivider) && text_in xs)

solid_in_lem : (p : Point) (ps : List Piece) → any_solid (passed p ps) ≡ solid_in ps
unfolding any_solid passed solid_in
solid_in_lem p [] = refl
solid_in_lem p (x ∷ xs) = ap (λ (b : Bool). not (eqb x.name SpaceOrTab) || b) (solid_in_lem (past p x.text) xs)

text_in_lem : (p : Point) (ps : List Piece) → text_ahead (passed p ps) ≡ text_in ps
unfolding text_ahead passed text_in
text_in_lem p [] = refl
text_in_lem p (x ∷ xs) = ap (λ (b : Bool). is_text_name x.name || (not (eqb x.name GfmTableCellDivider) && b)) (text_in_lem (past p x.text) xs)

-- one more byte
on_solid : (n b : ℕ) (ps : List Piece) → solid_in (on_pieces n b ps) ≡ not (eqb n SpaceOrTab) || solid_in ps
unfolding solid_in
on_solid n b [] = refl
on_solid n b (x ∷ xs) = go (joins n) (eqb n x.name) refl
  where
    twice : (s r : Bool) → s || r ≡ s || (s || r)
    twice true r = refl
    twice false r = refl

    go : (j e : Bool) → eqb n x.name ≡ e
        → solid_in (cond (j && e) (record { name = n; text = b ∷ x.text } ∷ xs) (record { name = n; text = b ∷ [] } ∷ x ∷ xs)) ≡ not (eqb n SpaceOrTab) || (not (eqb x.name SpaceOrTab) || solid_in xs)
    go true true h = rw (← eqb-true n x.name h) (twice (not (eqb n SpaceOrTab)) (solid_in xs))
    go true false h = refl
    go false e h = refl

on_text : (n b : ℕ) (ps : List Piece) → text_in (on_pieces n b ps) ≡ is_text_name n || (not (eqb n GfmTableCellDivider) && text_in ps)
unfolding text_in
on_text n b [] = refl
on_text n b (x ∷ xs) = go (joins n) (eqb n x.name) refl
  where
    twice : (t d r : Bool) → t || (d && r) ≡ t || (d && (t || (d && r)))
    twice true d r = refl
    twice false true r = refl
    twice false false r = refl

    go : (j e : Bool) → eqb n x.name ≡ e
        → text_in (cond (j && e) (record { name = n; text = b ∷ x.text } ∷ xs) (record { name = n; text = b ∷ [] } ∷ x ∷ xs)) ≡ is_text_name n || (not (eqb n GfmTableCellDivider) && (is_text_name x.name || (not (eqb x.name GfmTableCellDivider) && text_in xs)))
    go true true h = rw (← eqb-true n x.name h) (twice (is_text_name n) (not (eqb n GfmTableCellDivider)) (text_in xs))
    go true false h = refl
    go false e h = refl

-- ## Something other than whitespace comes

module _ {kind : ℕ → ℕ} (ok : Reads kind) where
  solid-bytes : (odd : Bool) (u : List ℕ) → solid_in (row_pieces kind odd u) ≡ not (blank kind u)
  unfolding row_pieces unindented solid_in
  solid-bytes odd [] = refl
  solid-bytes odd (b ∷ u) = on_solid (row_name kind odd b) b (row_pieces kind (odd_after kind odd b) u) ∙ go (eqb (kind b) 1) (eqb (kind b) 3 && not odd) (solid-bytes (odd_after kind odd b) u)
    where
      go : (s t : Bool) → solid_in (row_pieces kind (odd_after kind odd b) u) ≡ not (blank kind u)
          → not (eqb (cond s SpaceOrTab (cond t GfmTableCellDivider Data)) SpaceOrTab) || solid_in (row_pieces kind (odd_after kind odd b) u) ≡ not (is_empty (cond s (unindented kind u) (b ∷ u)))
      go true t ih = ih
      go false true ih = refl
      go false false ih = refl

  solid-marks : (u : List ℕ) → solid_in (delimiter_pieces kind u) ≡ not (blank kind u)
  unfolding delimiter_pieces unindented solid_in
  solid-marks [] = refl
  solid-marks (b ∷ u) = on_solid (delimiter_name kind b) b (delimiter_pieces kind u) ∙ go (eqb (kind b) 1) (eqb (kind b) 3) (eqb (kind b) 6) (solid-marks u)
    where
      go : (s t m : Bool) → solid_in (delimiter_pieces kind u) ≡ not (blank kind u)
          → not (eqb (cond s SpaceOrTab (cond t GfmTableCellDivider (cond m GfmTableDelimiterMarker GfmTableDelimiterFiller))) SpaceOrTab) || solid_in (delimiter_pieces kind u) ≡ not (is_empty (cond s (unindented kind u) (b ∷ u)))
      go true t m ih = ih
      go false true m ih = refl
      go false false true ih = refl
      go false false false ih = refl

  pub solid-row : (p : Point) (u : List ℕ) → any_solid (passed p (row_pieces kind false u)) ≡ not (blank kind u)
  solid-row p u = solid_in_lem p (row_pieces kind false u) ∙ solid-bytes false u

  pub solid-delimiter : (p : Point) (u : List ℕ) → any_solid (passed p (delimiter_pieces kind u)) ≡ not (blank kind u)
  solid-delimiter p u = solid_in_lem p (delimiter_pieces kind u) ∙ solid-marks u

  -- ## A text comes

  text-bytes : (u : List ℕ) → text_in (row_pieces kind false u) ≡ text_next kind u
  unfolding row_pieces unindented text_in
  text-bytes [] = refl
  text-bytes (b ∷ u) = on_text (row_name kind false b) b (row_pieces kind (odd_after kind false b) u) ∙ go (eqb (kind b) 1) (eqb (kind b) 3) refl refl (text-bytes u)
    where
      after : eqb (kind b) 1 ≡ true → odd_after kind false b ≡ false
      after e = rw (eqb-true (kind b) 1 e)

      go : (s t : Bool) → eqb (kind b) 1 ≡ s → eqb (kind b) 3 ≡ t → text_in (row_pieces kind false u) ≡ text_next kind u
          → is_text_name (cond s SpaceOrTab (cond (t && true) GfmTableCellDivider Data)) || (not (eqb (cond s SpaceOrTab (cond (t && true) GfmTableCellDivider Data)) GfmTableCellDivider) && text_in (row_pieces kind (odd_after kind false b) u)) ≡ text_first kind (cond s (unindented kind u) (b ∷ u))
      go true t e f ih = rw (after e) ih
      go false true e f ih = rw f
      go false false e f ih = rw f

  text-marks : (u : List ℕ) → text_in (delimiter_pieces kind u) ≡ text_next kind u
  unfolding delimiter_pieces unindented text_in
  text-marks [] = refl
  text-marks (b ∷ u) = on_text (delimiter_name kind b) b (delimiter_pieces kind u) ∙ go (eqb (kind b) 1) (eqb (kind b) 3) (eqb (kind b) 6) refl (text-marks u)
    where
      name_at : Bool → Bool → Bool → ℕ
      name_at s t m = cond s SpaceOrTab (cond t GfmTableCellDivider (cond m GfmTableDelimiterMarker GfmTableDelimiterFiller))

      go : (s t m : Bool) → eqb (kind b) 3 ≡ t → text_in (delimiter_pieces kind u) ≡ text_next kind u
          → is_text_name (name_at s t m) || (not (eqb (name_at s t m) GfmTableCellDivider) && text_in (delimiter_pieces kind u)) ≡ text_first kind (cond s (unindented kind u) (b ∷ u))
      go true t m f ih = ih
      go false true m f ih = rw f
      go false false true f ih = rw f
      go false false false f ih = rw f

  pub text-row : (p : Point) (u : List ℕ) → text_ahead (passed p (row_pieces kind false u)) ≡ text_next kind u
  text-row p u = text_in_lem p (row_pieces kind false u) ∙ text-bytes u

  pub text-delimiter : (p : Point) (u : List ℕ) → text_ahead (passed p (delimiter_pieces kind u)) ≡ text_next kind u
  text-delimiter p u = text_in_lem p (delimiter_pieces kind u) ∙ text-marks u

  -- ## The byte behind whitespace

  empty_ahead : (u : List ℕ) → is_empty (line_body u) ≡ eqb (ahead_of kind u) 2
  unfolding line_body
  empty_ahead [] = refl
  empty_ahead (b ∷ u) = go (is_end b) refl
    where
      go : (t : Bool) → is_end b ≡ t → is_empty (cond t [] (b ∷ line_body u)) ≡ eqb (kind b) 2
      go true e = sym (ok.ends b ∙ e)
      go false e = sym (ok.ends b ∙ e)

  first_ahead : (u : List ℕ) → text_first kind (line_body u) ≡ not (eqb (ahead_of kind u) 2 || eqb (ahead_of kind u) 3)
  unfolding line_body
  first_ahead [] = refl
  first_ahead (b ∷ u) = go (is_end b) refl
    where
      go : (t : Bool) → is_end b ≡ t → text_first kind (cond t [] (b ∷ line_body u)) ≡ not (eqb (kind b) 2 || eqb (kind b) 3)
      go true e = rw (ok.ends b ∙ e)
      go false e = rw (ok.ends b ∙ e)

  module _ (s : List ℕ) (i t : ℕ) (e : t ≡ i + length (indent kind (line_from s i))) where
    behind-spaces : unindented kind (line_from s i) ≡ line_from s t
    behind-spaces = sym (ap (line_from s) e ∙ rest-past s (record { line = 0; column = 0; index = i; vs = 0 }) (indent kind (line_from s i)) (unindented kind (line_from s i)) (sym (space_split kind (line_from s i))))

    pub solid_ahead : not (blank kind (line_from s i)) ≡ not (eqb (ahead_of kind (drop t s)) 2)
    solid_ahead = ap (λ (u : List ℕ). not (is_empty u)) behind-spaces ∙ ap not (empty_ahead (drop t s))

    pub text_ahead_lem : (text_next kind) (line_from s i) ≡ not (eqb (ahead_of kind (drop t s)) 2 || eqb (ahead_of kind (drop t s)) 3)
    text_ahead_lem = ap (text_first kind) behind-spaces ∙ first_ahead (drop t s)

    pub text-stops : (k : ℕ) → k ≡ ahead_of kind (drop t s) → 2 ≤ k → k ≤ 3 → text_next kind (line_from s i) ≡ false
    text-stops k q g l = text_ahead_lem ∙ rw (← q) (go (eqb k 2) refl)
      where
        go : (b : Bool) → eqb k 2 ≡ b → not (b || eqb k 3) ≡ false
        go true h = refl
        go false h = let z = eqb-false k 2 h in rw (eq-eqb k 3 (omega arith))

    pub text_comes : (k : ℕ) → k ≡ ahead_of kind (drop t s) → (k ≡ 2 → ⊥) → (k ≡ 3 → ⊥) → text_next kind (line_from s i) ≡ true
    text_comes k q g l = text_ahead_lem ∙ rw (← q, ne_eqb k 2 g, ne_eqb k 3 l)

-- a line end or a pipe
pub last_kind : (k : Kind) → (k ≡ End) ⊎ (k ≡ Pipe) → (2 ≤ kind_number k) × (kind_number k ≤ 3)
last_kind k (inl e) = rw e (omega arith, omega arith)
last_kind k (inr e) = rw e (omega arith, omega arith)

-- ## Columns of whitespace

-- a point at a place, in a column
abbrev point_at : ℕ → ℕ → Point
point_at i c = record { line = 0; column = c; index = i; vs = 0 }

pub inside-at : {s : List ℕ} {i c : ℕ} → length s ≤ 65536 → i ≤ length s → c ≤ 4 * i + 1 → Inside s (point_at i c)
inside-at h l n = record { short = h; within = l; narrow = n; lined = omega arith; flat = refl }

module _ {kind : ℕ → ℕ} (ok : Reads kind) (s : List ℕ) (i c : ℕ) (f : (Front kind) s i 1) where
  pub space_column : column_past c (indent kind (line_from s i)) ≡ column_past (column_after c (get_or s i 0)) (indent kind (line_from s (i + 1)))
  unfolding column_past
  space_column = ap (column_past c) (ap (indent kind) f.line ∙ space_on kind _ _ f.is)

-- ## One text more

later-none : (xs : List Passed) → text_ahead xs ≡ false → later xs ≡ xs
unfolding later
later-none [] e = refl
later-none (x ∷ xs) e = rw e

last_none : (x : Passed) (xs : List Passed) → text_ahead xs ≡ false → last_ahead x xs ≡ x
unfolding last_ahead
last_none x [] e = refl
last_none x (y ∷ ys) e = rw e

last_by : (x y : Passed) (xs : List Passed) → x.exit ≡ y.exit → (last_ahead x xs).exit ≡ (last_ahead y xs).exit
unfolding last_ahead
last_by x y [] e = e
last_by x y (z ∷ zs) e = go (text_ahead (z ∷ zs))
  where
    go : (b : Bool) → (cond b (last_ahead z zs) x).exit ≡ (cond b (last_ahead z zs) y).exit
    go true = refl
    go false = e

-- a text that is left at a point
abbrev text_to : Point → Passed
text_to p = record { entry = enter Data p; exit = leave Data p }

-- whitespace, or none, and a text behind it
module _ (d : List ℕ) (ps : List Piece) where
  abbrev with_text : List ℕ → List Piece
  with_text w = led SpaceOrTab w (record { name = Data; text = d } ∷ ps)

  later-next : (p : Point) (w : List ℕ) → later (passed p (with_text w)) ≡ later (passed (past p (w ++ d)) ps)
  unfolding later text_ahead passed
  later-next p [] = refl
  later-next p (b ∷ w) = ap (λ (q : Point). later (passed q ps)) (past-append p (b ∷ w) d)

  last-next : (x : Passed) (p : Point) (w : List ℕ) → (last_ahead x (passed p (with_text w))).exit ≡ (last_ahead (text_to (past p (w ++ d))) (passed (past p (w ++ d)) ps)).exit
  unfolding last_ahead text_ahead passed
  last-next x p [] = last_by _ _ (passed (past p d) ps) refl
  last-next x p (b ∷ w) = last_by _ (text_to (past (past p (b ∷ w)) d)) (passed (past (past p (b ∷ w)) d) ps) refl ∙ ap (λ (q : Point). (last_ahead (text_to q) (passed q ps)).exit) (past-append p (b ∷ w) d)

module _ {kind : ℕ → ℕ} (ok : Reads kind) where
  -- a text that comes is not empty
  data_next : (u : List ℕ) → text_next kind u ≡ true → 0 < length (data_run kind false (unindented kind u))
  unfolding unindented
  data_next [] e = absurd (true≢false (sym e))
  data_next (b ∷ u) e = go (eqb (kind b) 1) refl (data_next u) e
    where
      go : (s : Bool) → eqb (kind b) 1 ≡ s → (text_next kind u ≡ true → 0 < length (data_run kind false (unindented kind u)))
          → text_first kind (cond s (unindented kind u) (b ∷ u)) ≡ true → 0 < length (data_run kind false (cond s (unindented kind u) (b ∷ u)))
      go true h ih t = ih t
      go false h ih t = data_some kind b u (eqb-false (kind b) 1 h) (λ z. true≢false (sym t ∙ rw z))

  module _ (u : List ℕ) where
    -- the whitespace in front, the text behind it, and the rest
    abbrev pub space_next : List ℕ
    space_next = indent kind u

    abbrev pub text_of : List ℕ
    text_of = data_run kind false (unindented kind u)

    abbrev rest_next : List ℕ
    rest_next = data_rest kind false (unindented kind u)

    pub next-split : u ≡ (space_next ++ text_of) ++ rest_next
    next-split = sym (append_assoc space_next text_of rest_next ∙ ap (λ (l : List ℕ). space_next ++ l) (data_split kind false (unindented kind u)) ∙ space_split kind u)

    next-pieces : (text_next kind) u ≡ true → row_pieces kind false u ≡ with_text text_of (row_pieces kind false rest_next) space_next
    next-pieces e = space_pieces kind u ∙ ap (led SpaceOrTab space_next) (data_pieces kind false (unindented kind u) ∙ led-some Data text_of (row_pieces kind false rest_next) (data_next u e))

    -- the column behind the text
    next-column : (c : ℕ) → column_past c (space_next ++ text_of) ≡ column_past c space_next + length text_of
    next-column c = sym (ap (λ (q : Point). q.column) (past-append (point_at 0 c) space_next text_of)) ∙ data_columns ok false (unindented kind u) (column_past c space_next)

-- ## How far a text goes

module _ (kind : ℕ → ℕ) where
  -- a text that has reached a place has gone on to i, in the column c, so far
  pub record Goes (s : List ℕ) (from column i c : ℕ) : Type 0 where
    pub text : List ℕ
    pub line : line_from s from ≡ text ++ line_from s i
    pub end : i ≡ from + length text
    pub wide : c ≡ column_past column text
    pub behind : (p : Point) → p.vs ≡ 0 → later (passed p (pieces_from kind s from)) ≡ later (passed (past p text) (pieces_from kind s i))
    pub last : (x : Passed) (p : Point) → p.vs ≡ 0 → x.exit ≡ leave Data p → (last_ahead x (passed p (pieces_from kind s from))).exit ≡ (last_ahead (text_to (past p text)) (passed (past p text) (pieces_from kind s i))).exit

module _ {kind : ℕ → ℕ} (ok : Reads kind) where
  pub goes_none : (s : List ℕ) (from column : ℕ) → Goes kind s from column from column
  unfolding column_past
  goes_none s from column = record {
    text = [];
    line = refl;
    end = omega arith;
    wide = refl;
    behind = λ p v. rw (past-none p v);
    last = λ x p v e. last_by x (text_to p) (passed p (pieces_from kind s from)) e ∙ ap (λ (q : Point). (last_ahead (text_to q) (passed q (pieces_from kind s from))).exit) (sym (past-none p v));
  }

column-past : (c : ℕ) (a b : List ℕ) → column_past c (a ++ b) ≡ column_past (column_past c a) b
column-past c a b = sym (ap (λ (q : Point). q.column) (past-append (point_at 0 c) a b))

module _ {kind : ℕ → ℕ} (ok : Reads kind) where
  pub goes_more : {s : List ℕ} {from column i c : ℕ} (j d : ℕ) → Goes kind s from column i c → text_next kind (line_from s i) ≡ true → j ≡ i + length (space_next ok (line_from s i)) + length (text_of ok (line_from s i)) → d ≡ column_past c (space_next ok (line_from s i)) + length (text_of ok (line_from s i))
      → Goes kind s from column j d
  goes_more {s} {from} {column} {i} {c} j d g t e f =
      let u = line_from s i in
      let a = space_next ok u ++ text_of ok u in
      let n : j ≡ i + length a = omega (arith, e, length-append (space_next ok u) (text_of ok u)) in
      let r : line_from s j ≡ rest_next ok u = ap (line_from s) n ∙ rest-past s (point_at i 0) a (rest_next ok u) (next-split ok u) in
      let ps : row_pieces kind false (rest_next ok u) ≡ pieces_from kind s j = ap (row_pieces kind false) (sym r) in
      record {
        text = g.text ++ a;
        line = g.line ∙ ap (λ (l : List ℕ). g.text ++ l) (next-split ok u ∙ ap (λ (l : List ℕ). a ++ l) (sym r)) ∙ sym (append_assoc g.text a (line_from s j));
        end = omega (arith, n, g.end, length-append g.text a);
        wide = f ∙ sym (next-column ok u c) ∙ ap (λ (k : ℕ). column_past k a) g.wide ∙ sym (column-past column g.text a);
        behind = λ p v.
            g.behind p v ∙ ap (λ (l : List Piece). later (passed (past p g.text) l)) (next-pieces ok u t) ∙ later-next (text_of ok u) (row_pieces kind false (rest_next ok u)) (past p g.text) (space_next ok u)
            ∙ ap (λ (q : Point). later (passed q (row_pieces kind false (rest_next ok u)))) (past-append p g.text a) ∙ ap (λ (l : List Piece). later (passed (past p (g.text ++ a)) l)) ps;
        last = λ x p v h.
            g.last x p v h ∙ ap (λ (l : List Piece). (last_ahead (text_to (past p g.text)) (passed (past p g.text) l)).exit) (next-pieces ok u t)
            ∙ last-next (text_of ok u) (row_pieces kind false (rest_next ok u)) (text_to (past p g.text)) (past p g.text) (space_next ok u)
            ∙ ap (λ (q : Point). (last_ahead (text_to q) (passed q (row_pieces kind false (rest_next ok u)))).exit) (past-append p g.text a) ∙ ap (λ (l : List Piece). (last_ahead (text_to (past p (g.text ++ a))) (passed (past p (g.text ++ a)) l)).exit) ps;
      }

  pub goes_ends : {s : List ℕ} {from column i c : ℕ} → Goes kind s from column i c → text_next kind (line_from s i) ≡ false → Reaches kind s from column (record { at = i; column = c })
  goes_ends {s} {from} {column} {i} {c} g t = record {
    text = g.text;
    line = g.line;
    end = g.end;
    wide = g.wide;
    behind = λ p v. g.behind p v ∙ later-none (passed (past p g.text) (pieces_from kind s i)) (text-row ok (past p g.text) (line_from s i) ∙ t);
    last = λ x p v h. g.last x p v h ∙ ap (λ (y : Passed). y.exit) (last_none (text_to (past p g.text)) (passed (past p g.text) (pieces_from kind s i)) (text-row ok (past p g.text) (line_from s i) ∙ t));
  }

module _ (kind : ℕ → ℕ) where
  -- the text that comes is passed too: t and tc are the place and the column behind the whitespace, j the text's end
  pub record Next (s : List ℕ) (from column i c t tc j : ℕ) : Type 0 where
    pub onward : t < j
    pub short : j ≤ length s
    pub narrow : tc + (j - t) ≤ 4 * j + 1
    pub goes : (Goes kind) s from column j (tc + (j - t))

module _ {kind : ℕ → ℕ} (ok : Reads kind) where
  pub next : (s : List ℕ) (from column i c t tc j : ℕ) → length s ≤ 65536 → t < length s → c ≤ 4 * i + 1 → t ≡ i + length (space_next ok (line_from s i)) → tc ≡ column_past c (space_next ok (line_from s i)) → j ≡ t + length (data_run kind false (line_from s t))
      → text_next kind (line_from s i) ≡ true → Goes kind s from column i c → Next kind s from column i c t tc j
  next s from column i c t tc j h l n e f g x k =
      let u = line_from s i in
      let m : j ≡ t + length (text_of ok u) = g ∙ ap (λ (v : List ℕ). t + length (data_run kind false v)) (sym (behind-spaces ok s i t e)) in
      let d : tc + (j - t) ≡ column_past c (space_next ok u) + length (text_of ok u) = omega (arith, m, f) in
      let q = inside_past s (point_at i c) (space_next ok u ++ text_of ok u) (rest_next ok u) (inside-at h (omega (arith, e, l)) n) (next-split ok u) in
      let a = length-append (space_next ok u) (text_of ok u) in
      record {
        onward = omega (arith, m, data_next ok u x);
        short = omega (arith, m, e, a, q.within);
        narrow = omega (arith, d, m, e, a, q.narrow, next-column ok u c);
        goes = goes_more ok j (tc + (j - t)) k x (omega (arith, m, e)) d;
      }

  -- a text goes on where neither a line end nor a pipe stands behind the whitespace
  pub goes_next : (s : List ℕ) (from x t : Stop) (k : Kind) (j : ℕ) → length s ≤ 65536 → Goes kind s from.at from.column x.at x.column × (x.column ≤ 4 * x.at + 1) × (x.at ≤ length s) → (t.at ≡ x.at + length (indent kind (line_from s x.at))) × (t.column ≡ column_past x.column (indent kind (line_from s x.at)))
      → kind_number k ≡ ahead_of kind (drop t.at s) → (k ≡ End → ⊥) → (k ≡ Pipe → ⊥) → j ≡ t.at + length (data_run kind false (line_from s t.at)) → Next kind s from.at from.column x.at x.column t.at t.column j
  goes_next s from x t k j h g e f a b d =
      let n = apart_kinds k End a in
      next s from.at from.column x.at x.column t.at t.column j h (goes ok s t.at (kind_number k) f n).below g.1 e.0 e.1 d (text_comes ok s x.at t.at e.0 (kind_number k) f n (apart_kinds k Pipe b)) g.0

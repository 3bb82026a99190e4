-- Rows and tables whose points are related one by one, over any relation of points: so are the raw and the resolved events made of them.
-- Assumes nothing.
use Prim.Native.Nat.{ℕ}
use mathlib.Core.Path.{◌≡◌, refl, ap, ap₂}
use mathlib.Core.List.{List}
use mathlib.Core.Bool.{Bool, true, false, cond, ◌||◌, ◌&&◌, not, true≢false, false≢true}
use lib.Dec.{eqb}
use Rattle.tokenizer.specs.declared.event.Point.{Point}
use Rattle.tokenizer.specs.declared.event.Event.{Event}
use Rattle.tokenizer.specs.Events.{SpaceOrTab, Data, GfmTable, GfmTableBody, GfmTableCell, GfmTableCellText, GfmTableCellDivider, GfmTableDelimiterMarker, GfmTableDelimiterCell, GfmTableDelimiterCellValue, GfmTableDelimiterFiller, enter, leave, linked}
use Rattle.gfm_table.specs.Rows.{Passed, Row, both, all_both, raw_row}
use Rattle.edit_map.specs.Tables.{BodyRow, Table, raw_body, raw_table, named, is_text, is_solid, any_solid, any_text, before, cells, last_text, after_text, upto_text, row_inner, delimiter_inner, first_point, boundary, cell_events, resolved_row, resolved_text, resolved_rows, last_exit, resolved_body, resolved_table}
use Rattle.sheet.specs.Demands.{Each, none, more, Alike}
use Rattle.sheet.proofs.Lists.{each_append, each_cond}

module _ (R : Point → Point → Type 0) where
  pub record AlikePassed (x y : Passed) : Type 0 where
    pub entry : Alike R x.entry y.entry
    pub exit : Alike R x.exit y.exit

  pub record AlikeRow (r s : Row) : Type 0 where
    pub entry : Alike R r.entry s.entry
    pub pieces : Each AlikePassed r.pieces s.pieces
    pub exit : Alike R r.exit s.exit

  pub record AlikeBody (b c : BodyRow) : Type 0 where
    pub before : AlikePassed b.before c.before
    pub row : AlikeRow b.row c.row

  pub record AlikeTable (t u : Table) : Type 0 where
    pub entry : Alike R t.entry u.entry
    pub head : AlikeRow t.head u.head
    pub between : AlikePassed t.between u.between
    pub delimiter : AlikeRow t.delimiter u.delimiter
    pub exit : Alike R t.exit u.exit
    pub body : Each AlikeBody t.body u.body

  pub enter_alike : (n : ℕ) {p q : Point} → R p q → Alike R (enter n p) (enter n q)
  enter_alike n h = record { kind = refl; name = refl; link = refl; point = h }

  pub leave_alike : (n : ℕ) {p q : Point} → R p q → Alike R (leave n p) (leave n q)
  leave_alike n h = record { kind = refl; name = refl; link = refl; point = h }

  -- ## Raw events

  both_alike : {x y : Passed} → AlikePassed x y → Each (Alike R) (both x) (both y)
  both_alike h = more h.entry (more h.exit none)

  all_both_alike : {xs ys : List Passed} → Each AlikePassed xs ys → Each (Alike R) (all_both xs) (all_both ys)
  unfolding all_both
  all_both_alike none = none
  all_both_alike (more h hs) = more h.entry (more h.exit (all_both_alike hs))

  pub raw_row_alike : {r s : Row} → AlikeRow r s → Each (Alike R) (raw_row r) (raw_row s)
  raw_row_alike h = more h.entry (each_append (all_both_alike h.pieces) (more h.exit none))

  raw_body_alike : {bs cs : List BodyRow} → Each AlikeBody bs cs → Each (Alike R) (raw_body bs) (raw_body cs)
  unfolding raw_body
  raw_body_alike none = none
  raw_body_alike (more h hs) = each_append (both_alike h.before) (each_append (raw_row_alike h.row) (raw_body_alike hs))

  pub raw_table_alike : {t u : Table} → AlikeTable t u → Each (Alike R) (raw_table t) (raw_table u)
  raw_table_alike h =
      more h.entry
      (each_append (raw_row_alike h.head) (each_append (both_alike h.between) (each_append (raw_row_alike h.delimiter) (more h.exit (raw_body_alike h.body)))))

  -- ## Cells: the tests go by names alone

  named_alike : (n : ℕ) {x y : Passed} → AlikePassed x y → named n x ≡ named n y
  named_alike n h = ap (λ k. eqb k n) h.entry.name

  pub is_text_alike : {x y : Passed} → AlikePassed x y → is_text x ≡ is_text y
  is_text_alike {x} {y} h = ap (λ k. eqb k Data || eqb k GfmTableDelimiterMarker || eqb k GfmTableDelimiterFiller) h.entry.name

  is_solid_alike : {x y : Passed} → AlikePassed x y → is_solid x ≡ is_solid y
  is_solid_alike h = ap not (named_alike SpaceOrTab h)

  any_solid_alike : {xs ys : List Passed} → Each AlikePassed xs ys → any_solid xs ≡ any_solid ys
  unfolding any_solid
  any_solid_alike none = refl
  any_solid_alike (more h hs) = ap₂ ◌||◌ (is_solid_alike h) (any_solid_alike hs)

  any_text_alike : {xs ys : List Passed} → Each AlikePassed xs ys → any_text xs ≡ any_text ys
  unfolding any_text
  any_text_alike none = refl
  any_text_alike (more h hs) = ap₂ ◌||◌ (is_text_alike h) (any_text_alike hs)

  before_alike : {x y : Passed} {cs ds : List (List Passed)} → AlikePassed x y → Each (Each AlikePassed) cs ds → Each (Each AlikePassed) (before x cs) (before y ds)
  before_alike h none = more (more h none) none
  before_alike h (more k ks) = more (more h k) ks

  pub cells_alike : {a b : Bool} {xs ys : List Passed} → a ≡ b → Each AlikePassed xs ys → Each (Each AlikePassed) (cells a xs) (cells b ys)
  unfolding cells
  cells_alike e none = more none none
  cells_alike {a} {b} e (more {a = x} {b = y} h hs) =
      each_cond (ap₂ ◌&&◌ e (ap₂ ◌&&◌ (named_alike GfmTableCellDivider h) (any_solid_alike hs)))
      (more none (before_alike h (cells_alike {a = true} {b = true} refl hs)))
      (before_alike h (cells_alike {a = a || is_solid x} {b = b || is_solid y} (ap₂ ◌||◌ e (is_solid_alike h)) hs))

  -- ## What stands in a cell

  linked_alike : {e f : Event} → Alike R e f → Alike R (linked e) (linked f)
  linked_alike h = record { kind = h.kind; name = h.name; link = refl; point = h.point }

  pick_alike : {b c : Bool} {x y u v : Passed} → b ≡ c → AlikePassed x y → AlikePassed u v → AlikePassed (cond b x u) (cond c y v)
  pick_alike {b = true} {c = true} e p q = p
  pick_alike {b = true} {c = false} e p q = absurd (true≢false e)
  pick_alike {b = false} {c = true} e p q = absurd (false≢true e)
  pick_alike {b = false} {c = false} e p q = q

  pub last_text_alike : {x y : Passed} {xs ys : List Passed} → AlikePassed x y → Each AlikePassed xs ys → AlikePassed (last_text x xs) (last_text y ys)
  unfolding last_text
  last_text_alike h none = h
  last_text_alike h (more k ks) = pick_alike (any_text_alike (more k ks)) (last_text_alike k ks) h

  after_text_alike : {xs ys : List Passed} → Each AlikePassed xs ys → Each AlikePassed (after_text xs) (after_text ys)
  unfolding after_text
  after_text_alike none = none
  after_text_alike (more h hs) = each_cond (any_text_alike (more h hs)) (after_text_alike hs) (more h hs)

  upto_text_alike : {xs ys : List Passed} → Each AlikePassed xs ys → Each AlikePassed (upto_text xs) (upto_text ys)
  unfolding upto_text
  upto_text_alike none = none
  upto_text_alike (more h hs) = each_cond (any_text_alike (more h hs)) (more h (upto_text_alike hs)) none

  row_inner_alike : {xs ys : List Passed} → Each AlikePassed xs ys → Each (Alike R) (row_inner xs) (row_inner ys)
  unfolding row_inner
  row_inner_alike none = none
  row_inner_alike (more h hs) =
      each_cond (is_text_alike h)
      (more (enter_alike GfmTableCellText h.entry.point)
      (more (linked_alike h.entry)
      (more (last_text_alike h hs).exit
      (more (leave_alike GfmTableCellText (last_text_alike h hs).exit.point) (all_both_alike (after_text_alike hs))))))
      (more h.entry (more h.exit (row_inner_alike hs)))

  delimiter_inner_alike : {xs ys : List Passed} → Each AlikePassed xs ys → Each (Alike R) (delimiter_inner xs) (delimiter_inner ys)
  unfolding delimiter_inner
  delimiter_inner_alike none = none
  delimiter_inner_alike (more h hs) =
      each_cond (is_text_alike h)
      (more (enter_alike GfmTableDelimiterCellValue h.entry.point)
      (each_append (all_both_alike (more h (upto_text_alike hs)))
      (more (leave_alike GfmTableDelimiterCellValue (last_text_alike h hs).exit.point) (all_both_alike (after_text_alike hs)))))
      (more h.entry (more h.exit (delimiter_inner_alike hs)))

  -- ## Resolved rows and tables

  first_point_alike : {xs ys : List Passed} {p q : Point} → Each AlikePassed xs ys → R p q → R (first_point xs p) (first_point ys q)
  first_point_alike none h = h
  first_point_alike (more k ks) h = k.entry.point

  boundary_alike : {cs ds : List (List Passed)} {p q : Point} → Each (Each AlikePassed) cs ds → R p q → R (boundary cs p) (boundary ds q)
  boundary_alike none h = h
  boundary_alike (more k ks) h = first_point_alike k h

  -- what a cell holds is made of related events of related pieces
  abbrev Inner : (List Passed → List Event) → Type 0
  Inner inner = (xs ys : List Passed) → Each AlikePassed xs ys → Each (Alike R) (inner xs) (inner ys)

  cell_events_alike : (n : ℕ) (inner : List Passed → List Event) → Inner inner → {cs ds : List (List Passed)} {p q : Point}
      → Each (Each AlikePassed) cs ds → R p q → Each (Alike R) (cell_events n inner p cs) (cell_events n inner q ds)
  unfolding cell_events
  cell_events_alike n inner f none h = none
  cell_events_alike n inner f (more k ks) h =
      each_append (more (enter_alike n (first_point_alike k h)) (f _ _ k)) (more (leave_alike n (boundary_alike ks h)) (cell_events_alike n inner f ks h))

  resolved_row_alike : (n : ℕ) (inner : List Passed → List Event) → Inner inner → {r s : Row} → AlikeRow r s → Each (Alike R) (resolved_row n inner r) (resolved_row n inner s)
  resolved_row_alike n inner f h =
      more h.entry (each_append (cell_events_alike n inner f (cells_alike refl h.pieces) h.exit.point) (more h.exit none))

  pub resolved_text_alike : {r s : Row} → AlikeRow r s → Each (Alike R) (resolved_text r) (resolved_text s)
  resolved_text_alike = resolved_row_alike GfmTableCell row_inner (λ xs ys. row_inner_alike)

  pub resolved_delimiter_alike : {r s : Row} → AlikeRow r s
      → Each (Alike R) (resolved_row GfmTableDelimiterCell delimiter_inner r) (resolved_row GfmTableDelimiterCell delimiter_inner s)
  resolved_delimiter_alike = resolved_row_alike GfmTableDelimiterCell delimiter_inner (λ xs ys. delimiter_inner_alike)

  resolved_rows_alike : {bs cs : List BodyRow} → Each AlikeBody bs cs → Each (Alike R) (resolved_rows bs) (resolved_rows cs)
  unfolding resolved_rows
  resolved_rows_alike none = none
  resolved_rows_alike (more h hs) = each_append (both_alike h.before) (each_append (resolved_text_alike h.row) (resolved_rows_alike hs))

  last_exit_alike : {e f : Event} {bs cs : List BodyRow} → Alike R e f → Each AlikeBody bs cs → Alike R (last_exit e bs) (last_exit f cs)
  unfolding last_exit
  last_exit_alike h none = h
  last_exit_alike h (more k ks) = last_exit_alike k.row.exit ks

  resolved_body_alike : {e f : Event} {bs cs : List BodyRow} → Alike R e f → Each AlikeBody bs cs → Each (Alike R) (resolved_body e bs) (resolved_body f cs)
  resolved_body_alike h none = more (leave_alike GfmTable h.point) none
  resolved_body_alike h (more k ks) =
      let last = (last_exit_alike k.row.exit ks).point in
      each_append (both_alike k.before)
      (more (enter_alike GfmTableBody k.row.entry.point)
      (each_append (resolved_text_alike k.row)
      (each_append (resolved_rows_alike ks) (more (leave_alike GfmTableBody last) (more (leave_alike GfmTable last) none)))))

  pub resolved_table_alike : {t u : Table} → AlikeTable t u → Each (Alike R) (resolved_table t) (resolved_table u)
  resolved_table_alike h =
      more (enter_alike GfmTable h.entry.point)
      (more h.entry
      (each_append (resolved_text_alike h.head)
      (each_append (both_alike h.between) (each_append (resolved_delimiter_alike h.delimiter) (more h.exit (resolved_body_alike h.exit h.body))))))

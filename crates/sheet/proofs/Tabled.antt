-- The tables of a sheet are raw tables, so that resolving accepts them and gives their result events.
-- Assumes nothing.
use Prim.Native.Nat.{ℕ}
use mathlib.Core.Path.{◌≡◌, refl, ap, sym, ◌∙◌}
use mathlib.Core.Bool.{Bool, true, false, cond, ◌&&◌, ◌||◌, not, true≢false}
use mathlib.Core.List.{List, [], ◌∷◌, ◌++◌}
use native.Mathlib.Omega.{arith}
use borrow.Author.Tests.{eqb-true, not-true}
use lib.Dec.{eqb, leb}
use lib.ListN.{length}
use Rattle.tokenizer.specs.declared.event.Point.{Point}
use Rattle.tokenizer.specs.declared.event.Event.{Event}
use Rattle.tokenizer.specs.Points.{past}
use Rattle.tokenizer.specs.Events.{GfmTableRow, GfmTableDelimiterRow}
use Rattle.tokenizer.specs.Slots.{slots_of}
use Rattle.tokenizer.specs.Lines.{Line, unindented}
use Rattle.tokenizer.specs.Places.{Placed}
use Rattle.gfm_table.specs.Heads.{permitted, lone_divider, solid, marked, head_refusal}
use Rattle.gfm_table.specs.Rows.{row_pieces}
use Rattle.gfm_table.specs.Raw.{text_row, delimiter_row}
use Rattle.edit_map.specs.Tables.{Table, raw_table, resolved_table, raw_tables, resolved_tables}
use Rattle.edit_map.specs.Raw.{row_piece, delimiter_piece, IsRow, IsTable, AreRows, AreTables}
use Rattle.edit_map.specs.Accept.{accepts}
use Rattle.edit_map.specs.TablesOf.{resolved_list}
use Rattle.std.specs.Prelude.{Ok, Err}
use Rattle.tokenizer.specs.declared.refusal.Refusal.TheVariants as Refusal
use Rattle.edit_map.specs.Answers.{resolve_answer, resolve_slots}
use Rattle.edit_map.proofs.RawRows.{text-row, delimiter-row}
use Rattle.edit_map.proofs.Parse.{accepts-raw}
use Rattle.edit_map.proofs.Resolving.{tables_of_lem}
use Rattle.sheet.proofs.Tests.{test, both_true}
use Rattle.sheet.specs.Walk.{Found, closes, line_end, body_rows, table_of, opens, heads, rows, tables, raw_of, resolved_of}

-- the tables alone
unfoldable tables_in : List Found → List Table
tables_in [] = []
tables_in (f ∷ fs) = f.table ∷ tables_in fs

raw_in : (fs : List Found) → raw_of fs ≡ raw_tables (tables_in fs)
unfolding raw_of raw_tables tables_in
raw_in [] = refl
raw_in (f ∷ fs) = ap (λ (l : List Event). raw_table f.table ++ l) (raw_in fs)

resolved_in : (fs : List Found) → resolved_of fs ≡ resolved_tables (tables_in fs)
unfolding resolved_of resolved_tables tables_in
resolved_in [] = refl
resolved_in (f ∷ fs) = ap (λ (l : List Event). resolved_table f.table ++ l) (resolved_in fs)

-- ## Rows

module _ (kind : ℕ → ℕ) where
  is_row : (p : Point) (u : List ℕ) → closes kind u ≡ false → IsRow GfmTableRow row_piece (text_row kind p u)
  unfolding closes unindented
  is_row p [] e = absurd (true≢false e)
  is_row p (b ∷ u) e = text-row kind p (past p (b ∷ u)) b u

  -- an empty line is no delimiter row
  none : (on : Bool) (l d : Line) → d.body ≡ [] → head_refusal kind on false l d ≡ 0 → ⊥
  unfolding marked
  none on l d f e =
      go (permitted kind on l.body) (eqb l.end 0 || lone_divider (solid (row_pieces kind false l.body))) (permitted kind on []) _ (rw f at e)
    where
      go : (a b c : Bool) (n : ℕ) → ◌≡◌ {A = ℕ} (cond (not a) 3 (cond b 4 (cond (not (c && false)) 6 n))) 0 → ⊥
      go false b c n e = omega arith
      go true true c n e = omega arith
      go true false true n e = omega arith
      go true false false n e = omega arith

  delimits : (on : Bool) (l d : Line) (p : Point) → head_refusal kind on false l d ≡ 0 → IsRow GfmTableDelimiterRow delimiter_piece (delimiter_row kind p d.body)
  delimits on l d p e = go d.body refl
    where
      go : (u : List ℕ) → d.body ≡ u → IsRow GfmTableDelimiterRow delimiter_piece (delimiter_row kind p u)
      go [] f = absurd (none on l d f e)
      go (b ∷ u) f = delimiter-row kind p (past p (b ∷ u)) b u

  rows_are : (l : Placed) (ls : List Placed) → AreRows (body_rows kind l ls)
  unfolding body_rows
  rows_are l [] = AreRows.none
  rows_are l (m ∷ ls) = go (closes kind m.line.body) refl (rows_are m ls)
    where
      go : (t : Bool) → closes kind m.line.body ≡ t → AreRows (body_rows kind m ls) → AreRows (cond t [] (record { before = line_end l; row = text_row kind m.at m.line.body } ∷ body_rows kind m ls))
      go true e r = AreRows.none
      go false e r = AreRows.row (record { enter = refl; leave = refl }) (is_row m.at m.line.body e) r

  -- ## Tables

  is-table : (on : Bool) (l d : Placed) (ls : List Placed) → opens kind on l d ≡ true → IsTable (table_of kind l d ls)
  is-table on l d ls o =
      let b = both_true (not (closes kind l.line.body)) (eqb (head_refusal kind on false l.line d.line) 0) o in
      let r = eqb-true (head_refusal kind on false l.line d.line) 0 b.1 in
      record {
        enter = refl;
        head = is_row l.at l.line.body (not-true (closes kind l.line.body) b.0);
        between = record { enter = refl; leave = refl };
        delimiter = delimits on l.line d.line d.at r;
        leave = refl;
        body = rows_are d ls;
      }

  module _ (on : Bool) where
    mutual
      unfolding heads tables_in

      heads_are : (ls : List Placed) → AreTables (tables_in (heads kind on ls))
      heads_are [] = AreTables.none
      heads_are (l ∷ []) = AreTables.none
      heads_are (l ∷ d ∷ ls) = test (opens kind on l d) (λ e. rw e (AreTables.table (is-table on l d ls e) (rows_on ls))) (λ e. rw e (heads_are (d ∷ ls)))

      rows_on : (ls : List Placed) → AreTables (tables_in (rows kind on ls))
      rows_on [] = AreTables.none
      rows_on (l ∷ ls) = test (closes kind l.line.body) (λ e. rw e (heads_are ls)) (λ e. rw e (rows_on ls))

    -- ## What resolving answers

    module _ (s : List ℕ) where
      abbrev fs : List Found
      fs = tables kind on s

      pub raw-accepted : accepts (raw_of fs) ≡ true
      raw-accepted = ap accepts (raw_in fs) ∙ accepts-raw (heads_are _)

      pub raw-resolved : resolved_list (raw_of fs) ≡ resolved_of fs
      raw-resolved = ap resolved_list (raw_in fs) ∙ ap resolved_tables (tables_of_lem (heads_are _)) ∙ sym (resolved_in fs)

      pub answer-is : (m : ℕ) → resolve_answer (raw_of fs) m ≡ cond (leb (length (resolved_of fs)) m) (Ok (length (resolved_of fs))) (Err Refusal.TooFewResultSlots)
      unfolding resolve_answer
      answer-is m = rw (raw-accepted, raw-resolved)

      pub slots_are : (m : ℕ) → resolve_slots (raw_of fs) m ≡ slots_of m (cond (leb (length (resolved_of fs)) m) (resolved_of fs) [])
      unfolding resolve_slots
      slots_are m = rw (raw-accepted, raw-resolved)

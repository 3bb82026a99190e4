-- The end of a table's body rows, one line at a time.
-- Assumes nothing.
use Prim.Native.Nat.{ℕ, ◌+◌}
use mathlib.Core.Path.{◌≡◌, refl, ap, sym, ◌∙◌, subst}
use mathlib.Core.Bool.{Bool, true, false}
use mathlib.Core.List.{List, [], ◌∷◌}
use native.Mathlib.Omega.{arith}
use Rattle.tokenizer.specs.declared.event.Point.{Point}
use lib.ListN.{length, drop}
use Rattle.tokenizer.specs.declared.event.Event.{Event}
use Rattle.std.specs.Prelude.{Some}
use Rattle.tokenizer.specs.declared.event.LineStart.{LineStart}
use Rattle.tokenizer.specs.Points.{start_of}
use Rattle.tokenizer.specs.Events.{GfmTableHead, leave, point_of}
use Rattle.tokenizer.specs.Lines.{line_body}
use Rattle.tokenizer.specs.Places.{Placed, end_of, lines_from, lines_past}
use Rattle.tokenizer.specs.Moves.{rest_of, line_at, after}
use Rattle.tokenizer.proofs.Ends.{body-inside}
use Rattle.edit_map.specs.Tables.{BodyRow, last_exit}
use Rattle.sheet.specs.Walk.{closes, body_rows, heads, rows}
use Rattle.gfm_table.specs.Heads.{values}
use Rattle.sheet.specs.declared.seek.Opening.{Opening}
use Rattle.sheet.specs.declared.spans.Tail.{Tail}
use Rattle.sheet.specs.From.{AtLine, opening_point, Opens, here}
use Rattle.sheet.specs.Spans.{last_point, last_stop, EndsBody, FirstTable}
use Rattle.sheet.proofs.From.{Read, past-last, after_line, heads-last}
use Rattle.sheet.proofs.Stops.{stop-end}
use Rattle.sheet.proofs.Bodies.{rows_last, next-lines, rows-closed, rows_row}
use Rattle.sheet.proofs.Bounds.{aligned-length}

-- the last exit is told by the point before it
pub last-exit : (e f : Event) (bs : List BodyRow) → point_of e ≡ point_of f → point_of (last_exit e bs) ≡ point_of (last_exit f bs)
unfolding last_exit
last-exit e f [] h = h
last-exit e f (b ∷ bs) h = refl

module _ (kind : ℕ → ℕ) where
  module _ (s : List ℕ) (p : Point) where
    -- no line is next
    pub last_end : (line_at s p).end ≡ 0 → last_point kind s p ≡ end_of (here s p)
    unfolding body_rows last_exit
    last_end e = ap (λ (ls : List Placed). point_of (last_exit (leave GfmTableHead (end_of (here s p))) (body_rows kind (here s p) ls))) (past-last s p e)

    module _ (z : (line_at s p).end ≡ 0 → ⊥) where
      -- a line is next that ends the table
      pub last-closed : closes kind (rest_of s (after s p)) ≡ true → last_point kind s p ≡ end_of (here s p)
      unfolding body_rows last_exit
      last-closed b = ap (λ (ls : List Placed). point_of (last_exit (leave GfmTableHead (end_of (here s p))) (body_rows kind (here s p) ls))) (next-lines kind s p z) ∙ rw b

      -- a row is next
      pub last_row : closes kind (rest_of s (after s p)) ≡ false → last_point kind s p ≡ last_point kind s (after s p)
      unfolding body_rows last_exit
      last_row b =
          ap (λ (ls : List Placed). point_of (last_exit (leave GfmTableHead (end_of (here s p))) (body_rows kind (here s p) ls))) (next-lines kind s p z)
          ∙ rw b (last-exit _ _ (body_rows kind (here s (after s p)) (lines_past s (after s p))) refl)

  -- ## Where the body rows end

  module _ (s : List ℕ) where
    -- at the sheet's end
    pub ends-last : (w : LineStart) → AtLine s (start_of w) → (line_at s (start_of w)).end ≡ 0
        → EndsBody kind s (start_of w) (record { stop = w.at + length (rest_of s (start_of w)); next = record { line = w.line; at = w.at + length (rest_of s (start_of w)) } })
    ends-last w h z =
        let q = start_of w in
        let i = body-inside s q h.inside in
        record {
          stop = ap (λ (x : Point). x.index) (sym (last_end s q z));
          at = record { inside = record { short = i.short; within = i.within; narrow = omega arith; lined = i.lined; flat = refl }; first = refl };
          tables = λ on. rows_last kind s q z on ∙ sym (heads-last kind s (start_of (record { line = w.line; at = w.at + length (rest_of s q) })) on (stop-end s q ∙ z));
        }

    module _ (p : Point) (w : LineStart) (d : Read s p (start_of w)) where
      next-closes : closes kind (rest_of s (after s p)) ≡ closes kind (rest_of s (start_of w))
      next-closes = ap (λ (q : Point). closes kind (rest_of s q)) (sym d.next)

      -- before a line that ends the table
      pub ends-closed : (e : ℕ) → e ≡ (end_of (here s p)).index → closes kind (rest_of s (start_of w)) ≡ true → EndsBody kind s p (record { stop = e; next = w })
      ends-closed e f b =
          record {
            stop = f ∙ ap (λ (x : Point). x.index) (sym (last-closed s p d.ended (next-closes ∙ b)));
            at = d.at;
            tables = λ on. rows-closed kind s p d.ended (next-closes ∙ b) on ∙ ap (λ (q : Point). heads kind on (lines_from s q)) (sym d.next);
          }

      -- where they end behind the next row
      pub ends_row : closes kind (rest_of s (start_of w)) ≡ false → (r : Tail) → EndsBody kind s (start_of w) r → EndsBody kind s p r
      ends_row b r h =
          record {
            stop = h.stop ∙ ap (last_stop kind s) d.next ∙ ap (λ (x : Point). x.index) (sym (last_row s p d.ended (next-closes ∙ b)));
            at = h.at;
            tables = λ on. rows_row kind s p d.ended (next-closes ∙ b) on ∙ ap (λ (q : Point). rows kind on (lines_past s q)) (sym d.next) ∙ h.tables on;
          }

  -- ## A table

  module _ (s : List ℕ) (on : Bool) (p : Point) (o : Opening) (h : (Opens kind) s on p o) where
    -- the line of its delimiter row
    abbrev pub row_start : LineStart
    row_start = record { line = o.head.line + 1; at = o.delimiter }

    row-point : after s (opening_point o) ≡ start_of row_start
    row-point i = record { line = o.head.line + 1; column = 1; index = sym h.delimiter i; vs = 0 }

    pub row_line : AtLine s (start_of row_start)
    row_line = subst (AtLine s) row-point (after_line s (opening_point o) h.ended h.at.inside)

    -- the table that a head opens comes next
    pub comes_of : (r : Tail) → EndsBody kind s (start_of row_start) r
        → FirstTable kind s on (Some (record { head = o.head; delimiter = o.delimiter; cells = o.columns; stop = r.stop; next = r.next })) (heads kind on (lines_from s p))
    comes_of r b =
        rw h.tables
        (record {
          at = h.at;
          ended = h.ended;
          table = refl;
          delimiter = h.delimiter;
          cells = h.columns ∙ ap (λ (j : ℕ). length (values kind (line_body (drop j s)))) h.delimiter ∙ sym (aligned-length kind (values kind (rest_of s (after s (opening_point o)))));
          stop = b.stop ∙ ap (last_stop kind s) (sym row-point);
          next = b.at;
          tables = ap (λ (q : Point). rows kind on (lines_past s q)) row-point ∙ b.tables on;
        })

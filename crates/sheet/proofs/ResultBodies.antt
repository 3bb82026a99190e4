-- The result events of a table's body rows, written one row after the other.
-- Assumes nothing.
use Prim.Native.Nat.{ℕ, ◌+◌, ◌≤◌, ◌<◌}
use mathlib.Core.Path.{◌≡◌, refl, ap, sym, ◌∙◌}
use mathlib.Core.List.{List, [], ◌∷◌, ◌++◌, append_assoc}
use native.Mathlib.Omega.{arith}
use lib.ListN.{length, set, length-append}
use Rattle.tokenizer.specs.declared.event.Point.{Point}
use Rattle.tokenizer.specs.declared.event.Event.{Event}
use Rattle.tokenizer.specs.Points.{past}
use Rattle.tokenizer.specs.Events.{GfmTable, GfmTableBody, GfmTableHead, GfmTableRow, enter, leave}
use Rattle.tokenizer.specs.Places.{Placed, end_of, lines_past}
use Rattle.tokenizer.specs.Slots.{wrote}
use Rattle.tokenizer.specs.Moves.{after, Inside}
use Rattle.tokenizer.proofs.Ends.{stop-rest, body-inside}
use Rattle.tokenizer.proofs.Writing.{wrote_none, wrote_one, wrote-more, wrote-append}
use Rattle.gfm_table.specs.declared.stream.Part.TheVariants.{Delimiter, Body}
use Rattle.edit_map.specs.Tables.{BodyRow, resolved_rows, resolved_body, resolved_table, last_exit}
use Rattle.sheet.specs.Walk.{closes, body_rows}
use Rattle.sheet.specs.From.{here}
use Rattle.sheet.specs.declared.tables.Written.{Written}
use Rattle.sheet.specs.Spans.{last_point, last_stop}
use Rattle.sheet.specs.Placing.{point_at, written_at, AtEnd, Few, break_events, table_at}
use Rattle.sheet.specs.Results.{row_result, head_result, body_after}
use Rattle.sheet.proofs.Tests.{test}
use Rattle.sheet.proofs.LastRow.{last-exit}
use Rattle.sheet.proofs.NextRow.{stop-rows, stop_last_point, next_start, next_end, Row, row_next, none_next, last_here}
use Rattle.sheet.proofs.Stops.{stop-stop}

-- ## One row more

module _ (kind : ℕ → ℕ) where
  module _ (s : List ℕ) (stop : ℕ) where
    -- the events to come, and what is made of the slots by them
    abbrev pub to_come : Written → List Event
    to_come x = resolved_rows (body_after kind s (point_at x))

    abbrev pub makes : Written → List Event → Written × List Event
    makes x zs = (written_at (last_point kind s (point_at x)) (x.slot + length (to_come x)), wrote x.slot (to_come x) zs)

    -- at the end of a line from which the rows end at the stop
    pub record Good (x : Written) : Type 0 where
      pub at : AtEnd s x
      pub stops : stop ≡ last_stop kind s (point_at x)
      pub few : Few x.slot (to_come x)

    -- behind the next row, whose first slot is k
    abbrev pub behind_row : Written → ℕ → Written
    behind_row x k = written_at (next_end s x) (k + length (row_result kind s Body (next_start s x)))

    -- the slots with it
    abbrev pub with_row : Written → List Event → List Event
    with_row x zs = wrote (x.slot + 2) (row_result kind s Body (next_start s x)) (wrote x.slot (break_events s (point_at x)) zs)

    -- a row is written
    pub record Goes (x : Written) : Type 0 where
      pub good : Good (behind_row x (x.slot + 2))
      pub more : (zs : List Event) → makes x zs ≡ makes (behind_row x (x.slot + 2)) (with_row x zs)
      pub long : x.at < (next_end s x).index
      pub small : x.slot + 2 < 1000000000000
      pub row : Inside s (next_start s x) × Few (x.slot + 2) (row_result kind s Body (next_start s x))

    pub goes : (x : Written) → Good x → x.at < stop → Goes x
    unfolding resolved_rows
    goes x h l =
        let w = row_next kind s stop x h.at h.stops l in
        let k = x.slot in
        let u = break_events s (point_at x) in
        let t = row_result kind s Body (next_start s x) in
        let y = behind_row x (k + 2) in
        let g : to_come x ≡ u ++ (t ++ to_come y) = ap resolved_rows w.rows in
        let m : k + length (to_come x) ≡ k + 2 + length t + length (to_come y) = omega (arith, ap (λ (c : List Event). length c) g, length-append t (to_come y)) in
        record {
          good = record {
            at = record { inside = body-inside s (next_start s x) w.inside; rest = stop-rest s (next_start s x) };
            stops = h.stops ∙ ap (λ (c : Point). c.index) w.last;
            few = omega (arith, m, h.few);
          };
          more = λ zs.
              let e = ap (λ (c : List Event). wrote k c zs) g ∙ wrote-append k u (t ++ to_come y) zs ∙ wrote-append (k + 2) t (to_come y) (wrote k u zs) in
              λ i. (written_at (w.last i) (m i), e i);
          long = w.long;
          small = omega (arith, m, h.few);
          row = (w.inside, omega (arith, m, h.few));
        }

    -- no row is left
    pub stops : (x : Written) (zs : List Event) → Good x → stop ≤ x.at → makes x zs ≡ (x, zs)
    unfolding resolved_rows
    stops x zs h l =
        let e = none_next kind s stop x h.at h.stops l in
        let o = last_here kind s x h.at e in
        let g : to_come x ≡ [] = ap resolved_rows e in
        let k : x.slot + length (to_come x) ≡ x.slot = omega (arith, ap (λ (c : List Event). length c) g) in
        let w : wrote x.slot (to_come x) zs ≡ zs = ap (λ (c : List Event). wrote x.slot c zs) g ∙ wrote_none x.slot zs in
        λ i. (written_at (o i) (k i), w i)

  -- ## A body

  -- the last row is left between two bytes
  last_flat : (e : Event) (l : Placed) (ls : List Placed) → e.vs ≡ 0 → (last_exit e (body_rows kind l ls)).vs ≡ 0
  unfolding last_exit body_rows
  last_flat e l [] h = h
  last_flat e l (m ∷ ms) h = test (closes kind m.line.body) (λ b. rw b h) (λ b. rw b (last_flat (leave GfmTableRow (past m.at m.line.body)) m ms refl))

  module _ (s : List ℕ) where
    -- the events of a body, and of the exit of its table
    abbrev pub body_of : Written → List Event
    body_of w = resolved_body (leave GfmTableHead (point_at w)) (body_after kind s (point_at w))

    module _ (stop : ℕ) (w : Written) (h : AtEnd s w) (o : stop ≡ last_stop kind s (point_at w)) (f : Few w.slot (body_of w)) where
      -- there is none
      pub none_said : stop ≤ w.at → (zs : List Event)
          → (written_at (point_at w) (w.slot + 1) ≡ written_at (last_point kind s (point_at w)) (w.slot + length (body_of w)))
          × (set zs w.slot (leave GfmTable (point_at w)) ≡ wrote w.slot (body_of w) zs)
      none_said l zs =
          let e = none_next kind s stop w h o l in
          let g : body_of w ≡ leave GfmTable (point_at w) ∷ [] = ap (resolved_body (leave GfmTableHead (point_at w))) e in
          let k : w.slot + 1 ≡ w.slot + length (body_of w) = omega (arith, ap (λ (c : List Event). length c) g) in (
            λ i. written_at (sym (last_here kind s w h e) i) (k i),
            sym (ap (λ (c : List Event). wrote w.slot c zs) g ∙ wrote_one w.slot (leave GfmTable (point_at w)) zs),
          )

      -- the first row of one, the others, and where the last is left
      abbrev first : List Event
      first = row_result kind s Body (next_start s w)

      abbrev pub first_end : Written
      first_end = behind_row s stop w (w.slot + 2 + 1)

      abbrev others : List Event
      others = to_come s stop first_end

      abbrev pub last_slot : ℕ
      last_slot = first_end.slot + length others

      abbrev pub last_at : Point
      last_at = point_at (written_at (last_point kind s (point_at first_end)) last_slot)

      last-at : last_at ≡ last_point kind s (next_end s w)
      last-at =
          let d = next_end s w in
          let e = last_point kind s d in
          λ i. record { line = e.line; column = e.column; index = e.index; vs = sym (last_flat (leave GfmTableHead (end_of (here s d))) (here s d) (lines_past s d) refl) i }

      module _ (l : w.at < stop) where
        row_is : Row kind s w
        row_is = row_next kind s stop w h o l

        body_is : body_of w ≡ break_events s (point_at w) ++ (enter GfmTableBody (next_start s w) ∷ (first ++ (others ++ (leave GfmTableBody last_at ∷ leave GfmTable last_at ∷ []))))
        body_is =
            let d = next_end s w in
            let e = sym (last-exit (leave GfmTableRow d) (leave GfmTableHead (end_of (here s d))) (body_after kind s d) (sym (stop-stop s (next_start s w)))) in
            let j = last-at ∙ e in
            ap (resolved_body (leave GfmTableHead (point_at w))) row_is.rows
            ∙ (λ i. break_events s (point_at w) ++ (enter GfmTableBody (next_start s w) ∷ (first ++ (others ++ (leave GfmTableBody (sym j i) ∷ leave GfmTable (sym j i) ∷ [])))))

        body-length : last_slot + 1 + 1 ≡ w.slot + length (body_of w)
        body-length =
            let x = leave GfmTableBody last_at ∷ leave GfmTable last_at ∷ [] in
            omega (arith, ap (λ (c : List Event). length c) body_is, length-append first (others ++ x), length-append others x)

        -- a row, the others and the exits are few
        pub first-few : Inside s (next_start s w) × Few (w.slot + 2 + 1) first
        first-few = (row_is.inside, omega (arith, body-length, f))

        pub others-few : AtEnd s first_end × (stop ≡ last_stop kind s (point_at first_end)) × Few first_end.slot others
        others-few = (record { inside = body-inside s (next_start s w) row_is.inside; rest = stop-rest s (next_start s w) }, o ∙ ap (λ (c : Point). c.index) row_is.last, omega (arith, body-length, f))

        pub last-few : last_slot + 1 < 1000000000000
        last-few = omega (arith, body-length, f)

        pub body_said : (zs : List Event)
            → (written_at last_at (last_slot + 1 + 1) ≡ written_at (last_point kind s (point_at w)) (w.slot + length (body_of w)))
            × (set (set (wrote first_end.slot others (wrote (w.slot + 2 + 1) first (set (wrote w.slot (break_events s (point_at w)) zs) (w.slot + 2) (enter GfmTableBody (next_start s w))))) last_slot (leave GfmTableBody last_at)) (last_slot + 1) (leave GfmTable last_at)
            ≡ wrote w.slot (body_of w) zs)
        body_said zs =
            let k = w.slot in
            let u = break_events s (point_at w) in
            let a = enter GfmTableBody (next_start s w) in
            let x = leave GfmTableBody last_at in
            let y = leave GfmTable last_at in
            let ys = wrote k u zs in
            let ws = set ys (k + 2) a in
            let rs = wrote (k + 2 + 1) first ws in
            let vs = wrote first_end.slot others rs in (
              (λ i. written_at ((last-at ∙ sym row_is.last) i) (body-length i)),
              sym (
                  ap (λ (c : List Event). wrote k c zs) body_is
                  ∙ wrote-append k u (a ∷ (first ++ (others ++ (x ∷ y ∷ [])))) zs
                  ∙ wrote-more (k + 2) a (first ++ (others ++ (x ∷ y ∷ []))) ys
                  ∙ wrote-append (k + 2 + 1) first (others ++ (x ∷ y ∷ [])) ws
                  ∙ wrote-append first_end.slot others (x ∷ y ∷ []) rs
                  ∙ wrote-more last_slot x (y ∷ []) vs
                  ∙ wrote_one (last_slot + 1) y (set vs last_slot x)
                  ),
            )

  -- ## A table

  module _ (s : List ℕ) (p : Point) (k : ℕ) where
    -- the end of the delimiter row
    abbrev pub bottom : Point
    bottom = end_of (here s (after s p))

    abbrev pub at_bottom : Written
    at_bottom = written_at bottom (k + length (head_result kind s p))

    table_is : resolved_table (table_at kind s p) ≡ head_result kind s p ++ body_of s at_bottom
    table_is =
        let q = after s p in
        let t = row_result kind s Body p in
        let v = row_result kind s Delimiter q in
        let x = leave GfmTableHead bottom in
        let b = body_of s at_bottom in
        sym (
        ap (λ (es : List Event). enter GfmTable p ∷ enter GfmTableHead p ∷ es) (append_assoc t (break_events s p ++ (v ++ x ∷ [])) b)
        ∙ ap (λ (es : List Event). enter GfmTable p ∷ enter GfmTableHead p ∷ (t ++ (break_events s p ++ es))) (append_assoc v (x ∷ []) b)
        ∙ ap (λ (bs : List BodyRow). enter GfmTable p ∷ enter GfmTableHead p ∷ (t ++ (break_events s p ++ (v ++ x ∷ resolved_body x bs)))) (stop-rows kind s q)
        )

    table-length : k + length (head_result kind s p) + length (body_of s at_bottom) ≡ k + length (resolved_table (table_at kind s p))
    table-length = omega (arith, ap (λ (es : List Event). length es) table_is, length-append (head_result kind s p) (body_of s at_bottom))

    pub table-few : Few k (resolved_table (table_at kind s p)) → Few k (head_result kind s p) × Few (k + length (head_result kind s p)) (body_of s at_bottom)
    table-few f = (omega (arith, f, table-length), omega (arith, f, table-length))

    pub table_said : (zs : List Event)
        → (written_at (last_point kind s bottom) (k + length (head_result kind s p) + length (body_of s at_bottom)) ≡ written_at (last_point kind s (after s p)) (k + length (resolved_table (table_at kind s p))))
        × (wrote (k + length (head_result kind s p)) (body_of s at_bottom) (wrote k (head_result kind s p) zs) ≡ wrote k (resolved_table (table_at kind s p)) zs)
    table_said zs = (
      (λ i. written_at (stop_last_point kind s (after s p) i) (table-length i)),
      sym (ap (λ (es : List Event). wrote k es zs) table_is ∙ wrote-append k (head_result kind s p) (body_of s at_bottom) zs),
    )

    pub table-stop : (last_stop kind) s (after s p) ≡ last_stop kind s bottom
    table-stop = sym (ap (λ (c : Point). c.index) (stop_last_point kind s (after s p)))

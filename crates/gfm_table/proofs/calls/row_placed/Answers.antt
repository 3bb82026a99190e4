-- `calls::row_placed` meets its contract: the number of the first question answered no refuses, and a row that is accepted has as many events as its pieces say.
-- Assumes nothing.
use Prim.Native.Nat.{ℕ, ◌+◌, ◌*◌}
use mathlib.Core.Path.{◌≡◌, ap, sym, ◌∙◌}
use native.Mathlib.Omega.{arith}
use lib.ListN.{length}
use Rattle.std.specs.Prelude.{List, false, Ok}
use Rattle.tokenizer.specs.declared.event.Point.{Point}
use Rattle.tokenizer.specs.Bytes.{kind_in}
use Rattle.tokenizer.specs.Moves.{rest_of, Inside}
use Rattle.gfm_table.specs.declared.stream.Part.TheVariants.{Body}
use Rattle.gfm_table.specs.declared.stream.Cursor.TheVariants.{Enter}
use Rattle.gfm_table.specs.Rows.{row_pieces}
use Rattle.gfm_table.specs.Calls.{point_at, row_events_at}
use Rattle.gfm_table.proofs.Plans.{row-few, rest-few, row-length, place_inside, slots-short, slots-enough, row-slots}
use Rattle.gfm_table.proofs.calls.row_placed.Goals as goal

pub point_at-p-requires : goal.point_at-p-requires
point_at-p-requires c =
    let t = c.args.text.now in
    let placed = c.requires in
    let h = place_inside t.bytes.now c.args.at placed in
    (h.within, omega (arith, h.within, h.short))

pub is_blank-requires : goal.is_blank-requires
is_blank-requires c =
    let t = c.args.text.now in
    let placed = c.requires in
    rw c.point_at-p.ensures (place_inside t.bytes.now c.args.at placed)

pub row-q-requires : goal.row-q-requires
row-q-requires c =
    let t = c.args.text.now in
    let placed = c.requires in
    rw c.point_at-p.ensures (place_inside t.bytes.now c.args.at placed)

-- the events of a row that was read
counted : (kind : ℕ → ℕ) (s : List ℕ) (i : ℕ) (p : Point) (n : ℕ) → p ≡ point_at s i → n ≡ length (row_pieces kind false (rest_of s p)) → 2 * n + 2 ≡ length (row_events_at kind s (point_at s i))
counted kind s i p n f e = rw (e, f) (sym (row-length 7 (row_pieces kind false) (point_at s i) (rest_of s (point_at s i))))

pub overflow_add-events : goal.overflow_add-events
overflow_add-events c =
    let t = c.args.text.now in
    let placed = c.requires in
    let inside : Inside t.bytes.now c.point_at-p.result = rw c.point_at-p.ensures (place_inside t.bytes.now c.args.at placed) in
    record { fits = omega (arith, c.row-q.ensures.pieces, row-few (kind_in t.kinds.now) false (rest_of t.bytes.now c.point_at-p.result), rest-few t.bytes.now c.point_at-p.result inside) }

pub returns-then-slots-events : goal.returns-then-slots-events
returns-then-slots-events c =
    let a = c.args in
    let t = a.text.now in
    let kind = kind_in t.kinds.now in
    let placed = c.requires in
    let g = sym (rw c.point_at-p.ensures at c.is_blank.ensures) ∙ c.if-is_blank.false in
    let n = counted kind t.bytes.now a.at c.point_at-p.result c.row-q.result.count c.point_at-p.ensures c.row-q.ensures.pieces in
    rw (row-slots kind t.bytes.now a.at a.lazy a.slots placed c.if-lazy.false g ∙ slots-short a.slots _ (row_events_at kind t.bytes.now (point_at t.bytes.now a.at)) n c.if-slots-events.true)

pub returns : goal.returns
returns c =
    let a = c.args in
    let t = a.text.now in
    let kind = kind_in t.kinds.now in
    let q = point_at t.bytes.now a.at in
    let placed = c.requires in
    let g = sym (rw c.point_at-p.ensures at c.is_blank.ensures) ∙ c.if-is_blank.false in
    let n = counted kind t.bytes.now a.at c.point_at-p.result c.row-q.result.count c.point_at-p.ensures c.row-q.ensures.pieces in
    let e = rw c.point_at-p.ensures at c.row-q.ensures.end in
    rw (row-slots kind t.bytes.now a.at a.lazy a.slots placed c.if-lazy.false g ∙ slots-enough a.slots _ (row_events_at kind t.bytes.now q) n c.if-slots-events.false)
    (ap Ok (λ k. record { answer = record { events = n k; end = (e k).index }; cursor = Enter Body (c.point_at-p.ensures k) }))

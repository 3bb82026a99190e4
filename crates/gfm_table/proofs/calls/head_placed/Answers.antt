-- `calls::head_placed` meets its contract: the number of the first question answered no refuses, and a head that is accepted has as many events as its pieces say.
-- Assumes nothing.
use Prim.Native.Nat.{ℕ, ◌+◌, ◌*◌}
use mathlib.Core.Path.{◌≡◌, refl, ap, sym, ◌∙◌}
use native.Mathlib.Omega.{arith}
use lib.ListN.{length}
use Rattle.std.specs.Prelude.{List, false, Ok}
use Rattle.std.proofs.lemmas.Result.{err_from_is_err_and}
use Rattle.tokenizer.specs.declared.event.Point.{Point}
use Rattle.tokenizer.specs.Bytes.{kind_in}
use Rattle.tokenizer.specs.Moves.{rest_of, line_at, after}
use Rattle.tokenizer.proofs.Answering.{ok-answered, err-answered, answered-err}
use Rattle.tokenizer.proofs.Ends.{after-inside}
use Rattle.gfm_table.specs.declared.heads.Opened.{Opened}
use Rattle.gfm_table.specs.declared.stream.Cursor.TheVariants.{Begin}
use Rattle.gfm_table.specs.Rows.{delimiter_pieces}
use Rattle.gfm_table.specs.Answers.{opened_at}
use Rattle.gfm_table.specs.Calls.{point_at, head_events_at}
use Rattle.gfm_table.proofs.Answers.{refused_end}
use Rattle.gfm_table.proofs.Plans.{row-few, rest-few, head-length, place_inside, slots-short, slots-enough, head-lines, head-slots}
use Rattle.gfm_table.proofs.calls.head_placed.Goals as goal

pub point_at-p-requires : goal.point_at-p-requires
point_at-p-requires c =
    let t = c.args.text.now in
    let placed = c.requires in
    let h = place_inside t.bytes.now c.args.at placed in
    (h.within, omega (arith, h.within, h.short))

pub head_at-requires : goal.head_at-requires
head_at-requires c =
    let t = c.args.text.now in
    let placed = c.requires in
    rw c.point_at-p.ensures (place_inside t.bytes.now c.args.at placed, refl)

-- a head that was found has as many events as its pieces say
counted : (kind : ℕ → ℕ) {o : Opened} (s : List ℕ) (q : Point) (m : ℕ) → o ≡ opened_at kind s q
    → m ≡ 2 * (o.pieces + length (delimiter_pieces kind (rest_of s o.delimiter))) + 8 → m ≡ length (head_events_at kind s q)
counted kind s q m e f =
    f ∙ (λ j. 2 * ((e j).pieces + length (delimiter_pieces kind (rest_of s (e j).delimiter))) + 8) ∙ sym (head-length kind q (line_at s q) (line_at s (after s q)))

pub returns-in_err-opened : goal.returns-in_err-opened
returns-in_err-opened c =
    let a = c.args in
    let t = a.text.now in
    let kind = kind_in t.kinds.now in
    let q = point_at t.bytes.now a.at in
    let placed = c.requires in
    let p = err_from_is_err_and c.from_residual.result c.from_residual.ensures.1 in
    let f = err-answered _ (opened_at kind t.bytes.now q) c.in_err-opened.field-0.0 (rw c.point_at-p.ensures at c.in_err-opened.ensures) in
    rw (p.1, p.2, f.0, head-lines kind t.bytes.now a.at a.on a.stray a.slots placed f.1) (answered-err _ _ f.1)

pub head_events-events-requires : goal.head_events-events-requires
head_events-events-requires c =
    let a = c.args in
    let t = a.text.now in
    let q = point_at t.bytes.now a.at in
    let placed = c.requires in
    let h = place_inside t.bytes.now a.at placed in
    let o = ok-answered _ (opened_at (kind_in t.kinds.now) t.bytes.now q) _ (rw c.point_at-p.ensures at c.in_ok-opened.ensures) in
    rw o.0 (after-inside t.bytes.now q (refused_end t.passes.reads a.on a.stray (line_at t.bytes.now q) (line_at t.bytes.now (after t.bytes.now q)) o.1) h, omega (arith, row-few (kind_in t.kinds.now) false (rest_of t.bytes.now q), rest-few t.bytes.now q h))

pub returns-then-slots-events : goal.returns-then-slots-events
returns-then-slots-events c =
    let a = c.args in
    let t = a.text.now in
    let kind = kind_in t.kinds.now in
    let q = point_at t.bytes.now a.at in
    let placed = c.requires in
    let o = ok-answered _ (opened_at kind t.bytes.now q) _ (rw c.point_at-p.ensures at c.in_ok-opened.ensures) in
    let n = counted kind t.bytes.now q _ o.0 c.head_events-events.ensures in
    rw (head-slots kind t.bytes.now a.at a.on a.stray a.slots placed o.1 ∙ slots-short a.slots _ (head_events_at kind t.bytes.now q) n c.if-slots-events.true)

pub returns : goal.returns
returns c =
    let a = c.args in
    let t = a.text.now in
    let kind = kind_in t.kinds.now in
    let q = point_at t.bytes.now a.at in
    let placed = c.requires in
    let o = ok-answered _ (opened_at kind t.bytes.now q) _ (rw c.point_at-p.ensures at c.in_ok-opened.ensures) in
    let n = counted kind t.bytes.now q _ o.0 c.head_events-events.ensures in
    rw (head-slots kind t.bytes.now a.at a.on a.stray a.slots placed o.1 ∙ slots-enough a.slots _ (head_events_at kind t.bytes.now q) n c.if-slots-events.false)
    (ap Ok (λ k. record { answer = record { events = n k; end = (o.0 k).end.index; cells = (o.0 k).cells }; cursor = Begin (c.point_at-p.ensures k) }))

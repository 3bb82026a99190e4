-- The cycle of calls {row_break, row_data}. The measure: the bytes left, then the state's rank, 1 between pieces and 0 in data.
-- `row_break` reads the first piece, by which the rest of the row is shorter; in data it hands over to `row_data`, which reads the piece and comes back.
-- Assumes nothing.
use mathlib.Core.Path.{refl, ap, sym, ◌∙◌}
use native.Mathlib.Omega.{arith}
use Rattle.tokenizer.specs.declared.kinds.Kind.TheVariants.{Space, Pipe}
use Rattle.tokenizer.specs.Bytes.{kind_number}
use Rattle.gfm_table.proofs.KindsAhead.{front, front_at, apart_kinds}
use Rattle.gfm_table.proofs.Machine.{first_space, first_divider, first_data, data_ahead, read_none, read-end, read_on, step-counted, bytes_fall}
use Rattle.gfm_table.proofs.states.+row_break_row_data.Goals as goal

pub row_break-returns-then-budget-eq0 : goal.row_break-returns-then-budget-eq0
row_break-returns-then-budget-eq0 t c =
    let ok = c.args.text.now.passes.reads in
    read_none ok _ c.args.st _ c.if-budget-eq0.true c.requires

pub row_break-row_break-requires : goal.row_break-row_break-requires
row_break-row_break-requires t c =
    let ok = c.args.text.now.passes.reads in
    let s = c.args.text.now.bytes.now in
    let here = front_at ok s c.args.st.at.index c.ahead.result c.ahead.ensures in
    let f = first_space ok s c.args.st.at 1 (here Space c.in-Space.is (λ z. omega arith)) c.requires.inside refl in
    rw (c.passed.ensures, c.space_end-to.ensures) (omega (arith, bytes_fall ok _ _ _ _ f), step-counted ok _ c.args.st _ _ f c.requires)

pub row_break-row_break-requires-in-Pipe : goal.row_break-row_break-requires-in-Pipe
row_break-row_break-requires-in-Pipe t c =
    let ok = c.args.text.now.passes.reads in
    let s = c.args.text.now.bytes.now in
    let here = front_at ok s c.args.st.at.index c.ahead.result c.ahead.ensures in
    let f = first_divider ok s c.args.st.at 3 (here Pipe c.in-Pipe.is (λ z. omega arith)) c.requires.inside refl in
    rw (c.passed-in-Pipe.ensures, c.counted.ensures, c.over-to.ensures) (omega (arith, bytes_fall ok _ _ _ _ f), step-counted ok _ c.args.st _ _ f c.requires)

pub row_break-row_data-requires : goal.row_break-row_data-requires
row_break-row_data-requires t c =
    let ok = c.args.text.now.passes.reads in
    let s = c.args.text.now.bytes.now in
    let some = data_ahead ok s c.args.st.at _ (front ok s c.args.st.at.index c.ahead.result c.ahead.ensures c.in_default.not-End) c.requires.inside (apart_kinds c.ahead.result Space c.in_default.not-Space) (apart_kinds c.ahead.result Pipe c.in_default.not-Pipe) in
    (omega arith, record { counted = c.requires; some = some })

pub row_break-returns-in-Space : goal.row_break-returns-in-Space
row_break-returns-in-Space t c =
    let ok = c.args.text.now.passes.reads in
    let s = c.args.text.now.bytes.now in
    let here = front_at ok s c.args.st.at.index c.ahead.result c.ahead.ensures in
    let f = first_space ok s c.args.st.at 1 (here Space c.in-Space.is (λ z. omega arith)) c.requires.inside refl in
    read_on ok _ _ _ _ _ _ c.if-budget-eq0.false f (rw (c.passed.ensures, c.space_end-to.ensures) at c.row_break.ensures)

pub row_break-returns-in-End : goal.row_break-returns-in-End
row_break-returns-in-End t c =
    let ok = c.args.text.now.passes.reads in
    read-end ok _ c.args.st _ c.if-budget-eq0.false (sym c.ahead.ensures ∙ ap kind_number c.in-End.is) c.requires

pub row_break-returns-in-Pipe : goal.row_break-returns-in-Pipe
row_break-returns-in-Pipe t c =
    let ok = c.args.text.now.passes.reads in
    let s = c.args.text.now.bytes.now in
    let here = front_at ok s c.args.st.at.index c.ahead.result c.ahead.ensures in
    let f = first_divider ok s c.args.st.at 3 (here Pipe c.in-Pipe.is (λ z. omega arith)) c.requires.inside refl in
    read_on ok _ _ _ _ _ _ c.if-budget-eq0.false f (rw (c.passed-in-Pipe.ensures, c.counted.ensures, c.over-to.ensures) at c.row_break-in-Pipe.ensures)

pub row_break-returns-in_default : goal.row_break-returns-in_default
row_break-returns-in_default t c =
    let ok = c.args.text.now.passes.reads in
    let s = c.args.text.now.bytes.now in
    let some = data_ahead ok s c.args.st.at _ (front ok s c.args.st.at.index c.ahead.result c.ahead.ensures c.in_default.not-End) c.requires.inside (apart_kinds c.ahead.result Space c.in_default.not-Space) (apart_kinds c.ahead.result Pipe c.in_default.not-Pipe) in
    read_on ok _ _ _ _ _ _ c.if-budget-eq0.false (first_data ok _ c.args.st.at c.requires.inside some) c.row_data.ensures

pub row_data-row_break-requires : goal.row_data-row_break-requires
row_data-row_break-requires t c =
    let ok = c.args.text.now.passes.reads in
    let h = c.requires.counted in
    let f = first_data ok _ c.args.st.at h.inside c.requires.some in
    rw (c.passed.ensures, c.counted.ensures, c.data_end-to.ensures) (omega (arith, bytes_fall ok _ _ _ _ f), step-counted ok _ c.args.st _ _ f h)

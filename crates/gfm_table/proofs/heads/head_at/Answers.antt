-- `heads::head_at` meets its contract: each test answers its question.
-- Assumes nothing.
use Prim.Native.Nat.{ℕ}
use mathlib.Core.Path.{◌≡◌, refl, sym, ◌∙◌}
use mathlib.Core.List.{List}
use native.Mathlib.Omega.{arith}
use borrow.Author.Tests.{lt-leb}
use lib.ListN.{length, drop}
use Rattle.std.specs.Prelude.{Result, Ok, Option, Some}
use Rattle.tokenizer.specs.Lines.{line_end}
use Rattle.tokenizer.specs.Bytes.{kind_in}
use Rattle.tokenizer.specs.declared.event.Point.{Point}
use Rattle.tokenizer.specs.declared.refusal.Refusal.{Refusal}
use Rattle.tokenizer.specs.Points.{past}
use Rattle.tokenizer.specs.Moves.{rest_of, line_at, after}
use Rattle.tokenizer.proofs.Ends.{no_end, an_end, end-past, after-inside}
use Rattle.gfm_table.specs.declared.heads.Opened.{Opened}
use Rattle.gfm_table.specs.Heads.{is_delimiter_row, values}
use Rattle.gfm_table.specs.Answers.{opened_at}
use Rattle.gfm_table.proofs.Stretches.{is-count, is_none}
use Rattle.gfm_table.proofs.Answers.{answer-0, answer-4_end, answer-5, answer-6, answer-7}
use Rattle.gfm_table.proofs.heads.head_at.Goals as goal

-- a head is known by its four parts
opened : (kind : ℕ → ℕ) (s : List ℕ) (p : Point) (n m : ℕ) (d e : Point) → n ≡ (opened_at kind s p).cells → m ≡ (opened_at kind s p).pieces → d ≡ (opened_at kind s p).delimiter → e ≡ (opened_at kind s p).end
    → ◌≡◌ {A = Result Opened Refusal} (Ok (record { cells = n; pieces = m; delimiter = d; end = e })) (Ok (opened_at kind s p))
opened kind s p n m d e f g h i = λ j. Ok (record { cells = f j; pieces = g j; delimiter = h j; end = i j })

-- the line end that stands behind the row is the line's
behind : (s : List ℕ) (p q : Point) (n : ℕ) (o : Option ℕ) → q ≡ past p (rest_of s p) → o ≡ line_end (drop q.index s) → o ≡ Some n → (n ≡ (line_at s p).end) × ((line_at s p).end ≡ 0 → ⊥)
behind s p q n o e f h =
    let some = an_end (drop (past p (rest_of s p)).index s) n (sym (rw e at f) ∙ h) in
    let is = sym some.0 ∙ end-past s p in
    (is, λ z. omega (arith, is, z, some.1.0))

pub head_delimiter_start-requires : goal.head_delimiter_start-requires
head_delimiter_start-requires c =
    let s = c.args.text.now.bytes.now in
    let b = behind s c.args.p c.row-r.result.at _ _ c.row-r.ensures.end c.end_at.ensures c.in-Some.is in
    let next = rw (c.row-r.ensures.end, b.0) at c.next_line-delimiter.ensures in
    rw next (after-inside s c.args.p b.1 c.requires.0, refl)

pub returns-in_default : goal.returns-in_default
returns-in_default c =
    let a = c.args in
    let s = a.text.now.bytes.now in
    let may = sym c.permits.ensures ∙ c.if-not-permits.false in
    answer-4_end a.text.now.passes.reads s a.p a.on a.stray may
    (sym (end-past s a.p) ∙ no_end (drop (past a.p (rest_of s a.p)).index s) (sym (rw c.row-r.ensures.end at c.end_at.ensures) ∙ c.in_default.is))

pub returns-then-stray : goal.returns-then-stray
returns-then-stray c =
    let a = c.args in
    let s = a.text.now.bytes.now in
    let may = sym c.permits.ensures ∙ c.if-not-permits.false in
    let b = behind s a.p c.row-r.result.at _ _ c.row-r.ensures.end c.end_at.ensures c.in-Some.is in
    answer-5 a.text.now.passes.reads s a.p a.on a.stray may b.1 (sym c.row-r.ensures.lone ∙ lt-leb _ 1 c.if-r-le1.false) c.if-stray.true

pub returns-in_default-head_delimiter_start : goal.returns-in_default-head_delimiter_start
returns-in_default-head_delimiter_start c =
    let a = c.args in
    let s = a.text.now.bytes.now in
    let may = sym c.permits.ensures ∙ c.if-not-permits.false in
    let b = behind s a.p c.row-r.result.at _ _ c.row-r.ensures.end c.end_at.ensures c.in-Some.is in
    let more = sym c.row-r.ensures.lone ∙ lt-leb _ 1 c.if-r-le1.false in
    let next = rw (c.row-r.ensures.end, b.0) at c.next_line-delimiter.ensures in
    let o = is_none _ _ _ (sym c.in_default-head_delimiter_start.is ∙ (rw next at c.head_delimiter_start.ensures)) in
    answer-6 a.text.now.passes.reads s a.p a.on a.stray may b.1 more c.if-stray.false o

pub returns-then-values-r : goal.returns-then-values-r
returns-then-values-r c =
    let a = c.args in
    let s = a.text.now.bytes.now in
    let may = sym c.permits.ensures ∙ c.if-not-permits.false in
    let b = behind s a.p c.row-r.result.at _ _ c.row-r.ensures.end c.end_at.ensures c.in-Some.is in
    let more = sym c.row-r.ensures.lone ∙ lt-leb _ 1 c.if-r-le1.false in
    let next = rw (c.row-r.ensures.end, b.0) at c.next_line-delimiter.ensures in
    let o = is-count _ _ _ _ _ (sym c.in-Some-head_delimiter_start.is ∙ (rw next at c.head_delimiter_start.ensures)) in
    answer-7 a.text.now.passes.reads s a.p a.on a.stray may b.1 more c.if-stray.false o.2
    (λ z. c.if-values-r.true (o.0 ∙ z ∙ sym c.row-r.ensures.cells))

pub returns : goal.returns
returns c =
    let a = c.args in
    let s = a.text.now.bytes.now in
    let may = sym c.permits.ensures ∙ c.if-not-permits.false in
    let b = behind s a.p c.row-r.result.at _ _ c.row-r.ensures.end c.end_at.ensures c.in-Some.is in
    let more = sym c.row-r.ensures.lone ∙ lt-leb _ 1 c.if-r-le1.false in
    let next = rw (c.row-r.ensures.end, b.0) at c.next_line-delimiter.ensures in
    let q = after s a.p in
    let u = rest_of s q in
    let kind = kind_in a.text.now.kinds.now in
    let o = is-count (is_delimiter_row kind a.on u) _ (length (values kind u)) (past q u) _ (sym c.in-Some-head_delimiter_start.is ∙ (rw next at c.head_delimiter_start.ensures)) in
    let h = c.if-values-r.false ∙ c.row-r.ensures.cells in
    let f = answer-0 a.text.now.passes.reads s a.p a.on a.stray may b.1 more c.if-stray.false o.2 (sym o.0 ∙ h) in
    opened kind s a.p _ _ _ _ h c.row-r.ensures.pieces next o.1 ∙ f

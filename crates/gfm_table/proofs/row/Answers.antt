-- `row` meets its contract: the plan answers, and its cursor gives the slots; the built-in table lists `kind_of`.
-- Assumes nothing.
use Prim.Native.Nat.{ℕ}
use mathlib.Core.Path.{◌≡◌, ap, sym, ◌∙◌}
use mathlib.Core.Bool.{Bool}
use mathlib.Core.List.{List}
use native.Mathlib.Omega.{arith}
use Rattle.std.proofs.Common.{rules}
use lib.ListN.{length}
use Rattle.std.specs.Prelude.{Result}
use Rattle.tokenizer.specs.declared.refusal.Refusal.{Refusal}
use Rattle.tokenizer.specs.Bytes.{kind_of, built_in, kind_in}
use Rattle.tokenizer.proofs.Answering.{ok-answered, err-answered, answered-ok, answered-err}
use Rattle.tokenizer.proofs.Blanks.{slots_none, cleared_all}
use Rattle.tokenizer.proofs.Bytes.{built}
use Rattle.tokenizer.proofs.KindTables.{built_passes, built_is}
use Rattle.gfm_table.specs.declared.calls.Plan.{Plan}
use Rattle.gfm_table.specs.declared.calls.RowCounts.{RowCounts}
use Rattle.gfm_table.specs.declared.stream.Cursor.TheVariants.{Enter}
use Rattle.gfm_table.specs.declared.stream.Part.TheVariants.{Body}
use Rattle.gfm_table.specs.Stream.{gave}
use Rattle.gfm_table.specs.Calls.{point_at, row_counts, row_plan}
use Rattle.gfm_table.proofs.Plans.{row-good, row_gives, row_blanks}
use Rattle.gfm_table.proofs.row.Goals as goal

-- the plan by the built-in table is that by its rule
planned : {r : Result (Plan RowCounts) Refusal} {ks : List ℕ} (s : List ℕ) (at : ℕ) (lazy : Bool) (n : ℕ) → ks ≡ built_in → r ≡ row_plan (kind_in ks) s at lazy n → r ≡ row_plan kind_of s at lazy n
planned {r = r} s at lazy n e h = h ∙ rw e (ap (λ (k : ℕ → ℕ). row_plan k s at lazy n) built_is)

pub invariant_of-text : goal.invariant_of-text
invariant_of-text c = record { passes = rw c.builtin-kinds.ensures built_passes; fits = search rules }

pub fill-requires : goal.fill-requires
fill-requires c =
    let a = c.args in
    let n = length a.raw.now in
    let p = ok-answered _ (record { answer = row_counts kind_of a.sheet.now a.offset a.lazy n; cursor = Enter Body (point_at a.sheet.now a.offset) }) _ (planned a.sheet.now a.offset a.lazy n c.builtin-kinds.ensures c.in-Ok.ensures) in
    rw p.0 (omega arith, row-good built a.sheet.now a.offset a.lazy n p.1)

pub returns-in-Ok : goal.returns-in-Ok
returns-in-Ok c =
    let a = c.args in
    let n = length a.raw.now in
    let p = ok-answered _ (record { answer = row_counts kind_of a.sheet.now a.offset a.lazy n; cursor = Enter Body (point_at a.sheet.now a.offset) }) _ (planned a.sheet.now a.offset a.lazy n c.builtin-kinds.ensures c.in-Ok.ensures) in (
      rw p.0 (answered-ok _ _ p.1),
      c.fill.ensures ∙ rw (p.0, c.builtin-kinds.ensures) (ap (λ (k : ℕ → ℕ). gave k a.sheet.now n (Enter Body (point_at a.sheet.now a.offset))) built_is) ∙ row_gives built a.sheet.now a.offset a.lazy n p.1,
    )

pub returns-in-Err : goal.returns-in-Err
returns-in-Err c =
    let a = c.args in
    let n = length a.raw.now in
    let p = err-answered _ (record { answer = row_counts kind_of a.sheet.now a.offset a.lazy n; cursor = Enter Body (point_at a.sheet.now a.offset) }) _ (planned a.sheet.now a.offset a.lazy n c.builtin-kinds.ensures c.in-Err.ensures) in (
      rw p.0 (answered-err _ _ p.1),
      c.clear_from.ensures ∙ cleared_all a.raw.now ∙ sym (slots_none n) ∙ row_blanks built a.sheet.now a.offset a.lazy n p.1,
    )

-- The loop that writes a sheet's tables: a table in each turn, its raw events, its result events and its alignments to a row of slots each.
-- Assumes nothing.
use Prim.Native.Nat.{ℕ, suc, ◌+◌, ◌*◌, ◌<◌, ◌≤◌}
use mathlib.Core.Path.{◌≡◌, refl, sym, ap, ◌∙◌, subst}
use mathlib.Core.Bool.{Bool}
use mathlib.Core.List.{List, [], ◌∷◌, ◌++◌}
use Rattle.std.proofs.Common.{Option, Some, None}
use native.Mathlib.Omega.{arith}
use lib.ListN.{length, length-append}
use Rattle.tokenizer.specs.declared.event.Event.{Event}
use Rattle.tokenizer.specs.Slots.{wrote}
use Rattle.tokenizer.specs.Places.{lines_from, first_point}
use Rattle.tokenizer.specs.Points.{start_of}
use Rattle.tokenizer.proofs.Writing.{wrote_none, wrote-append}
use Rattle.edit_map.specs.Tables.{Table, raw_table, resolved_table}
use Rattle.sheet.specs.declared.calls.SheetCounts.{SheetCounts}
use Rattle.sheet.specs.declared.spans.Span.{Span}
use Rattle.sheet.specs.Walk.{Found, tables, heads, raw_of, resolved_of, aligned_of}
use Rattle.sheet.specs.Spans.{head_of, Spanned, FirstTable}
use Rattle.sheet.specs.Placing.{table_at}
use Rattle.sheet.specs.Aligning.{line_alignments, filled_if}
use Rattle.sheet.specs.Writing.{counts_of, one_more, aligned_from}
use Rattle.sheet.proofs.From.{after_line}
use Rattle.sheet.proofs.Bounds.{from-tally, tally}
use Rattle.sheet.proofs.Doubling.{table_doubles}

-- there are at most twice as many result events
results_few : (fs : List Found) → length (resolved_of fs) ≤ 2 * length (raw_of fs)
unfolding raw_of resolved_of
results_few [] = omega arith
results_few (f ∷ fs) =
    omega (
      arith,
      results_few fs,
      table_doubles f.table,
      length-append (raw_table f.table) (raw_of fs),
      length-append (resolved_table f.table) (resolved_of fs),
    )

module _ (kind : ℕ → ℕ) (s : List ℕ) (on : Bool) where
  abbrev all : List Found
  all = tables kind on s

  -- the tables fs are left
  pub record Facts (o : Option Span) (c : SheetCounts) (fs : List Found) : Type 0 where
    pub comes : FirstTable kind s on o fs
    pub tables : c.tables + length fs ≡ length all
    pub events : c.events + length (raw_of fs) ≡ length (raw_of all)
    pub results : c.results + length (resolved_of fs) ≡ length (resolved_of all)
    pub aligned : c.alignments + length (aligned_of fs) ≡ length (aligned_of all)

  -- what is told of the slots
  abbrev pub Told : List Event → List Event → List ℕ → SheetCounts → List Found → List Event → List Event → List ℕ → Type 0
  Told ys ms ks c fs zs ws ns =
      (wrote 0 (raw_of all) ys ≡ wrote c.events (raw_of fs) zs)
      × (wrote 0 (resolved_of all) ms ≡ wrote c.results (resolved_of fs) ws)
      × (aligned_from 0 all ks ≡ aligned_from c.alignments fs ns)

  -- some tables are left, and that is told of the slots
  pub record Left (ys ms : List Event) (ks : List ℕ) (o : Option Span) (c : SheetCounts) (zs ws : List Event) (ns : List ℕ) : Type 0 where
    pub left : List Found
    pub facts : Facts o c left
    pub told : Told ys ms ks c left zs ws ns

  -- before the first table
  pub begins : (ys ms : List Event) (ks : List ℕ) (o : Option Span) → FirstTable kind s on o all
      → Left ys ms ks o (record { tables = 0; events = 0; results = 0; alignments = 0 }) ys ms ks
  begins ys ms ks o h =
      record {
        left = all;
        facts = record { comes = h; tables = omega arith; events = omega arith; results = omega arith; aligned = omega arith };
        told = (refl, refl, refl);
      }

  -- one table after the other
  pub record Next (x : Span) (fs : List Found) : Type 0 where
    pub f : Found
    pub others : List Found
    pub is : fs ≡ f ∷ others
    pub span : Spanned kind s on x f others

  pub next : (x : Span) (fs : List Found) → FirstTable kind s on (Some x) fs → Next x fs
  next x [] h = absurd h
  next x (f ∷ fs) h = record { f = f; others = fs; is = refl; span = h }

  pub known : {o p : Option Span} {c : SheetCounts} {fs : List Found} → Facts o c fs → o ≡ p → Facts p c fs
  known {c = c} {fs = fs} g e = subst (λ q. Facts q c fs) e g

  module _ (short : length s ≤ 65536) where
    -- what is counted of the sheet is little
    few : tally all ≤ 1000000
    unfolding raw_of aligned_of
    few = omega (arith, from-tally kind s on (first_point s), short)

    module _ {x : Span} {c : SheetCounts} {fs : List Found} (g : Facts (Some x) c fs) where
      abbrev pub k : Next x fs
      k = next x fs g.comes

      abbrev pub table : Table
      table = table_at kind s (head_of x)

      table_is : k.f.table ≡ table
      table_is = ap {B = Table} (λ (y : Found). y.table) k.span.table

      abbrev pub its : List ℕ
      its = line_alignments kind s x.delimiter

      pub its_are : k.f.aligned ≡ its
      its_are = ap {B = List ℕ} (λ (y : Found). y.aligned) k.span.table ∙ ap (line_alignments kind s) (sym k.span.delimiter)

      raw-is : raw_of fs ≡ raw_table table ++ raw_of k.others
      unfolding raw_of
      raw-is = ap raw_of k.is ∙ ap (λ (y : Table). raw_table y ++ raw_of k.others) table_is

      resolved-is : resolved_of fs ≡ resolved_table table ++ resolved_of k.others
      unfolding resolved_of
      resolved-is = ap resolved_of k.is ∙ ap (λ (y : Table). resolved_table y ++ resolved_of k.others) table_is

      aligned-is : aligned_of fs ≡ its ++ aligned_of k.others
      unfolding aligned_of
      aligned-is = ap aligned_of k.is ∙ ap (λ (y : List ℕ). y ++ aligned_of k.others) its_are

      raw_long : length (raw_of fs) ≡ length (raw_table table) + length (raw_of k.others)
      raw_long = ap {B = ℕ} length raw-is ∙ length-append (raw_table table) (raw_of k.others)

      resolved_long : length (resolved_of fs) ≡ length (resolved_table table) + length (resolved_of k.others)
      resolved_long = ap {B = ℕ} length resolved-is ∙ length-append (resolved_table table) (resolved_of k.others)

      aligned_long : length (aligned_of fs) ≡ length its + length (aligned_of k.others)
      aligned_long = ap {B = ℕ} length aligned-is ∙ length-append its (aligned_of k.others)

      tables_long : length fs ≡ suc (length k.others)
      tables_long = ap {B = ℕ} length k.is

      -- the events of the table have slots with small numbers
      pub raw-few : c.events + length (raw_table table) ≤ 4294967295
      raw-few = omega (arith, g.events, raw_long, few)

      pub resolved-few : c.results + length (resolved_table table) ≤ 4294967295
      resolved-few = omega (arith, g.results, resolved_long, results_few all, few)

      -- and so have its alignments
      pub cells_are : x.cells ≡ length its
      cells_are = k.span.cells ∙ ap {B = ℕ} length its_are

      pub aligned-few : c.alignments + x.cells < 1000000000000
      aligned-few = omega (arith, g.aligned, aligned_long, cells_are, few)

      pub tables-few : c.tables < 1000000000000
      tables-few = omega (arith, g.tables, tables_long, few)

      pub delimiter-within : x.delimiter ≤ length s
      delimiter-within = omega (arith, k.span.delimiter, (after_line s (head_of x) k.span.ended k.span.at.inside).inside.within)

      -- the counts behind the table
      abbrev pub onward : SheetCounts
      onward = one_more c (c.events + length (raw_table table)) (c.results + length (resolved_table table)) x.cells

      aligns : (ks : List ℕ) → aligned_from c.alignments fs ks ≡ aligned_from (c.alignments + x.cells) k.others (filled_if c.alignments its ks)
      unfolding aligned_from
      aligns ks =
          ap (λ (l : List Found). aligned_from c.alignments l ks) k.is
          ∙ ap (λ (y : List ℕ). aligned_from (c.alignments + length y) k.others (filled_if c.alignments y ks)) its_are
          ∙ ap (λ (m : ℕ). aligned_from (c.alignments + m) k.others (filled_if c.alignments its ks)) (sym cells_are)

      -- the table is written
      pub goes : (ys ms zs ws : List Event) (ks ns : List ℕ) (o : Option Span) → Told ys ms ks c fs zs ws ns → FirstTable kind s on o (heads kind on (lines_from s (start_of x.next)))
          → Left ys ms ks o onward (wrote c.events (raw_table table) zs) (wrote c.results (resolved_table table) ws) (filled_if c.alignments its ns)
      goes ys ms zs ws ks ns o (a, b, m) h =
          record {
            left = k.others;
            facts =
                record {
                  comes = subst (FirstTable kind s on o) (sym k.span.tables) h;
                  tables = omega (arith, g.tables, tables_long);
                  events = omega (arith, g.events, raw_long);
                  results = omega (arith, g.results, resolved_long);
                  aligned = omega (arith, g.aligned, aligned_long, cells_are);
                };
            told = (
              a ∙ ap (λ (l : List Event). wrote c.events l zs) raw-is ∙ wrote-append c.events (raw_table table) (raw_of k.others) zs,
              b ∙ ap (λ (l : List Event). wrote c.results l ws) resolved-is ∙ wrote-append c.results (resolved_table table) (resolved_of k.others) ws,
              m ∙ aligns ns,
            );
          }

      pub fewer : c.tables + 1 ≤ length all
      fewer = omega (arith, g.tables, tables_long)

  -- none is left
  pub stops : (ys ms zs ws : List Event) (ks ns : List ℕ) (c : SheetCounts) (fs : List Found) → Facts None c fs → Told ys ms ks c fs zs ws ns
      → (c ≡ counts_of all) × ((zs ≡ wrote 0 (raw_of all) ys) × ((ws ≡ wrote 0 (resolved_of all) ms) × (ns ≡ aligned_from 0 all ks)))
  unfolding raw_of resolved_of aligned_of aligned_from
  stops ys ms zs ws ks ns c fs g (x, y, z) =
      let e : fs ≡ [] = g.comes in
      let n : c.tables ≡ length all = omega (arith, g.tables, ap {B = ℕ} length e) in
      let a : c.events ≡ length (raw_of all) = omega (arith, g.events, ap {B = ℕ} (λ (l : List Found). length (raw_of l)) e) in
      let b : c.results ≡ length (resolved_of all) = omega (arith, g.results, ap {B = ℕ} (λ (l : List Found). length (resolved_of l)) e) in
      let m : c.alignments ≡ length (aligned_of all) = omega (arith, g.aligned, ap {B = ℕ} (λ (l : List Found). length (aligned_of l)) e) in (
        (λ i. record { tables = n i; events = a i; results = b i; alignments = m i }),
        (
          sym (x ∙ ap (λ (l : List Found). wrote c.events (raw_of l) zs) e ∙ wrote_none c.events zs),
          (
            sym (y ∙ ap (λ (l : List Found). wrote c.results (resolved_of l) ws) e ∙ wrote_none c.results ws),
            sym (z ∙ ap (λ (l : List Found). aligned_from c.alignments l ns) e),
          ),
        ),
      )

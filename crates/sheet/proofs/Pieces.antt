-- Each byte of a table lies in one piece of its raw and of its resolved events, and in no other piece of the sheet's.
-- Assumes nothing.
use Prim.Native.Nat.{ℕ, ◌≤◌, ◌<◌}
use mathlib.Core.Path.{◌≡◌, refl}
use mathlib.Core.List.Memᴰ
use mathlib.Core.List.{List, [], ◌∷◌, ◌++◌, Memᴰ}
use mathlib.Core.Logic.{⊎_elim}
use mathlib.Core.Bool.{Bool}
use native.Mathlib.Omega.{arith}
use Rattle.tokenizer.specs.declared.event.Point.{Point}
use Rattle.tokenizer.specs.declared.event.Event.{Event}
use lib.ListN.{drop}
use Rattle.tokenizer.specs.Points.{past}
use Rattle.tokenizer.specs.Events.{GfmTableRow, GfmTableDelimiterRow, leave}
use Rattle.tokenizer.specs.Lines.{Line, lines, first_start}
use Rattle.tokenizer.specs.Places.{Placed, placed, first_point}
use Rattle.edit_map.specs.Tables.{Table, raw_table, resolved_table, last_exit}
use Rattle.sheet.specs.Walk.{Found, closes, opens, body_rows, heads, rows, tables, raw_of, resolved_of}
use Rattle.sheet.specs.Demands.{holding, last_end, Covers, Covered}
use Rattle.sheet.proofs.Tests.{test, by_cases}
use Rattle.sheet.proofs.Walks.{starting, onward}
use Rattle.sheet.proofs.Tiles.{Tiles, tiles_before, tiles_hold, tiles_order, tiles_behind, tiles_more, TableTiles, table_tiles}

-- tables one behind the other, from offset a on
data Spread : ℕ → List Found → Type 0 where
  none : {a : ℕ} → Spread a []
  next : {a : ℕ} {f : Found} {fs : List Found} → a ≤ f.table.entry.index → TableTiles f.table → Spread (last_end f.table) fs → Spread a (f ∷ fs)

module _ (kind : ℕ → ℕ) (on : Bool) where
  mutual
    unfolding heads placed body_rows last_exit

    heads_spread : (a : ℕ) (p : Point) (ls : List Line) → a ≤ p.index → Spread a (heads kind on (placed p ls))
    heads_spread a p [] h = none
    heads_spread a p (l ∷ []) h = none
    heads_spread a p (l ∷ d ∷ ls) h =
        let q = onward p l in
        by_cases (Spread a) (opens kind on (starting p l) (starting q d))
        (λ e. next h (table_tiles kind on p l d ls) (rows_spread (leave GfmTableDelimiterRow (past q d.body)) (starting q d) (onward q d) ls (omega arith)))
        (λ e. heads_spread a q (d ∷ ls) (omega arith))

    -- behind the last row of a body
    rows_spread : (e : Event) (k : Placed) (p : Point) (ls : List Line) → e.index ≤ p.index
        → Spread (last_exit e (body_rows kind k (placed p ls))).index (rows kind on (placed p ls))
    rows_spread e k p [] h = none
    rows_spread e k p (l ∷ ls) h =
        test (closes kind l.body) (λ f. rw f (heads_spread e.index (onward p l) ls (omega arith)))
        (λ f. rw f (rows_spread (leave GfmTableRow (past p l.body)) (starting p l) (onward p l) ls (omega arith)))

-- the events of all tables, made of those of each
module _ (own : Table → List Event) (all : List Found → List Event) (nil : all [] ≡ []) (cons : (f : Found) (fs : List Found) → all (f ∷ fs) ≡ own f.table ++ all fs)
    (tiles : (t : Table) → TableTiles t → Tiles t.entry.index (last_end t) (own t)) where
  spread_before : {a : ℕ} {fs : List Found} (i : ℕ) → Spread a fs → i < a → holding i (all fs) ≡ 0
  unfolding holding
  spread_before i none l = rw nil
  spread_before i (next {f = f} {fs} h t r) l =
      let k = tiles f.table t in
      rw (cons f fs, tiles_more i (all fs) k) (omega (arith, tiles_before i k (omega arith), spread_before i r (omega (arith, tiles_order k))))

  spread_from : {a : ℕ} {fs : List Found} (f : Found) → Spread a fs → Memᴰ f fs → a ≤ f.table.entry.index
  spread_from f none m = absurd (Memᴰ.not-nil m)
  spread_from f (next {f = g} h t r) m =
      ⊎_elim (λ e. rw e h) (λ n. omega (arith, tiles_order (tiles g.table t), spread_from f r n)) (Memᴰ.cases_cons m)

  spread_covers : {a : ℕ} {fs : List Found} (f : Found) → Spread a fs → Memᴰ f fs → Covers (all fs) f.table
  spread_covers f none m i lo hi = absurd (Memᴰ.not-nil m)
  spread_covers f (next {f = g} {fs} h t r) m i lo hi =
      let k = tiles g.table t in
      rw (cons g fs, tiles_more i (all fs) k)
      (⊎_elim
      (λ e. omega (arith, tiles_hold i k (rw e at lo) (rw e at hi), spread_before i r (rw e at hi)))
      (λ n. omega (arith, tiles_behind i k (omega (arith, spread_from f r n)), spread_covers f r n i lo hi))
      (Memᴰ.cases_cons m))

spread_tiles : {a : ℕ} {fs : List Found} (f : Found) → Spread a fs → Memᴰ f fs → TableTiles f.table
spread_tiles f none m = absurd (Memᴰ.not-nil m)
spread_tiles f (next h t r) m = ⊎_elim (λ e. rw e t) (λ n. spread_tiles f r n) (Memᴰ.cases_cons m)

pub covered : (kind : ℕ → ℕ) (on : Bool) (s : List ℕ) (f : Found) → Memᴰ f (tables kind on s) → Covered (tables kind on s) f.table
unfolding raw_of resolved_of
covered kind on s f m =
    let r = heads_spread kind on 0 (first_point s) (lines (drop (first_start s) s)) (omega arith) in
    let t = spread_tiles f r m in
    record {
      raw = λ i. tiles_hold i t.raw;
      resolved = λ i. tiles_hold i t.resolved;
      raw_all = spread_covers raw_table raw_of refl (λ g gs. refl) (λ u k. k.raw) f r m;
      resolved_all = spread_covers resolved_table resolved_of refl (λ g gs. refl) (λ u k. k.resolved) f r m;
    }

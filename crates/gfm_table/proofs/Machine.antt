-- The first piece at a point, and what reading it makes of a state: the steps of the row machine, for its cycle of calls to cite.
-- Assumes nothing.
use Prim.Native.Nat.{ℕ, zero, suc, ◌+◌, ◌-◌, ◌*◌, ◌≤◌, ◌<◌}
use mathlib.Core.Path.{◌≡◌, refl, ap, sym, ◌∙◌}
use mathlib.Core.Bool.{Bool, true, false, cond, ◌&&◌}
use mathlib.Core.List.{List, [], ◌∷◌, ◌++◌}
use native.Mathlib.Nat.{add-zero}
use native.Mathlib.Numerals.{sub-one}
use native.Mathlib.Omega.{arith}
use lib.ListN.{length, drop, get_or}
use Rattle.tokenizer.specs.declared.event.Point.{Point}
use Rattle.gfm_table.specs.declared.states.Scan.{Scan}
use Rattle.std.specs.declared.ops.ControlFlow.{ControlFlow}
use Rattle.std.specs.declared.ops.ControlFlow.TheVariants.{Continue, Break}
use Rattle.tokenizer.specs.Bytes.{Reads}
use Rattle.tokenizer.specs.Points.{past}
use Rattle.gfm_table.specs.Rows.{Piece, row_pieces}
use Rattle.tokenizer.specs.Lines.{indent, unindented}
use Rattle.tokenizer.specs.Moves.{ahead_of, rest_of, over_at, Inside}
use Rattle.gfm_table.specs.Machine.{data_run, data_rest, is_solid, stepped, walked, outcome, whole, pieces_at, Counted, ReadHere}
use Rattle.tokenizer.proofs.Ahead.{Front, ends, rest-past, inside_past}
use Rattle.tokenizer.proofs.Runs.{space_on, space_split}
use Rattle.gfm_table.proofs.Runs.{led-some, single, space_pieces, data_some, data_split, data_pieces}

-- ## The first piece at a point

module _ (kind : ℕ → ℕ) where
  pub record First (s : List ℕ) (p : Point) (n : ℕ) (t : List ℕ) : Type 0 where
    pub pieces : (pieces_at kind) s p ≡ record { name = n; text = t } ∷ pieces_at kind s (past p t)
    pub some : 0 < length t
    pub line : rest_of s p ≡ t ++ rest_of s (past p t)
    pub inside : Inside s (past p t)

module _ {kind : ℕ → ℕ} (ok : Reads kind) where
  -- a stretch t of the line that is one piece, before u
  first : (s : List ℕ) (p : Point) (n : ℕ) (t u : List ℕ) → Inside s p → rest_of s p ≡ t ++ u → 0 < length t → pieces_at kind s p ≡ record { name = n; text = t } ∷ row_pieces kind false u → First kind s p n t
  first s p n t u h e l f =
      record { pieces = f ∙ ap (λ (r : List ℕ). record { name = n; text = t } ∷ row_pieces kind false r) (sym (rest-past s p t u e)); some = l; line = e ∙ ap (λ (r : List ℕ). t ++ r) (sym (rest-past s p t u e)); inside = inside_past s p t u h e }

  module _ (s : List ℕ) (p : Point) (k : ℕ) (f : (Front kind) s p.index k) (h : Inside s p) where
    pub first_space : k ≡ 1 → First kind s p 1 (indent kind (rest_of s p))
    first_space e =
        let u = rest_of s p in
        let l : 0 < length (indent kind u) = rw (f.line, space_on kind _ _ (f.is ∙ e)) (omega arith) in
        first s p 1 (indent kind u) (unindented kind u) h (sym (space_split kind u)) l (space_pieces kind u ∙ led-some 1 _ _ l)

    pub first_divider : k ≡ 3 → First kind s p 10 (get_or s p.index 0 ∷ [])
    unfolding row_pieces
    first_divider e =
        first s p 10 (get_or s p.index 0 ∷ []) (rest_of s (over_at s p)) h f.line (omega arith) (rw f.line (simp (f.is, e) (single _ _)))

    pub data_ahead : (k ≡ 1 → ⊥) → (k ≡ 3 → ⊥) → 0 < length (data_run kind false (rest_of s p))
    data_ahead d e = rw f.line (data_some kind _ _ (λ z. d (sym f.is ∙ z)) (λ z. e (sym f.is ∙ z)))

  pub first_data : (s : List ℕ) (p : Point) → Inside s p → 0 < length (data_run kind false (rest_of s p)) → First kind s p 3 (data_run kind false (rest_of s p))
  first_data s p h l =
      let u = rest_of s p in
      first s p 3 (data_run kind false u) (data_rest kind false u) h (sym (data_split kind false u)) l (data_pieces kind false u ∙ led-some 3 _ _ l)

  -- ## Reading on

  module _ (s : List ℕ) (q : Scan) (n : ℕ) where
    pub read_none : n ≡ 0 → Counted s q → ReadHere kind s q n (Continue q)
    unfolding outcome
    read_none e h = record { is = rw e; left = rw e; good = h }

    pub read-end : (n ≡ 0 → ⊥) → ahead_of kind (drop q.at.index s) ≡ 2 → Counted s q → ReadHere kind s q n (Break q)
    unfolding outcome row_pieces
    read-end z e h = go n z (ap (row_pieces kind false) (ends ok (drop q.at.index s) e))
      where
        go : (n : ℕ) → (n ≡ 0 → ⊥) → pieces_at kind s q.at ≡ [] → ReadHere kind s q n (Break q)
        go zero z e = absurd (z refl)
        go (suc n) z e = record { is = rw e; left = rw e; good = h }

    pub read_on : (m : ℕ) (t : List ℕ) (r : ControlFlow Scan Scan) → (n ≡ 0 → ⊥) → First kind s q.at m t → ReadHere kind s (stepped q (record { name = m; text = t })) (n - 1) r → ReadHere kind s q n r
    unfolding outcome
    read_on m t r z f h = go n z h
      where
        go : (n : ℕ) → (n ≡ 0 → ⊥) → ReadHere kind s (stepped q (record { name = m; text = t })) (n - 1) r → ReadHere kind s q n r
        go zero z h = absurd (z refl)
        go (suc n) z h =
            let g = rw sub-one at h in
            record { is = rw f.pieces g.is; left = rw f.pieces g.left; good = g.good }

one_more_lem : (b : Bool) (n : ℕ) → cond b (n + 1) n ≤ n + 1
one_more_lem true n = omega arith
one_more_lem false n = omega arith

module _ {kind : ℕ → ℕ} (ok : Reads kind) where
  -- a piece takes a byte at least, so no counter passes the bytes
  pub step-counted : (s : List ℕ) (q : Scan) (n : ℕ) (t : List ℕ) → First kind s q.at n t → Counted s q → Counted s (stepped q (record { name = n; text = t }))
  step-counted s q n t f h =
      let l = f.some in
      record {
        inside = f.inside;
        few = omega (arith, h.few);
        cells = omega (arith, h.cells, one_more_lem (is_solid n && q.seen) q.size);
        solids = omega (arith, h.solids, one_more_lem (is_solid n) q.size_b);
      }

pub few-pieces : (s : List ℕ) (q : Scan) → Counted s q → q.count < 1000000
few-pieces s q h = let i = h.inside in omega (arith, h.few, i.within, i.short)

pub few-cells : (s : List ℕ) (q : Scan) → Counted s q → (q.size < 1000000) × (q.size_b < 1000000)
few-cells s q h = let i = h.inside in (omega (arith, h.cells, i.within, i.short), omega (arith, h.solids, i.within, i.short))

module _ {kind : ℕ → ℕ} (ok : Reads kind) where
  -- the bytes left fall, by more than a rank
  pub bytes_fall : (s : List ℕ) (p : Point) (n : ℕ) (t : List ℕ) → First kind s p n t → 2 * (length s - (past p t).index) + 1 < 2 * (length s - p.index)
  bytes_fall s p n t f = let i = f.inside in omega (arith, f.some, i.within)

-- ## A pause, and the end

pause_walks : (n : ℕ) (q p : Scan) (xs : List Piece) → Continue p ≡ outcome n q xs → (walked p (drop n xs) ≡ walked q xs) × (p.count ≡ q.count + n)
unfolding outcome walked
pause_walks zero q p xs e = let i : p ≡ q = cc in (ap (λ (o : Scan). walked o xs) i, ap (λ (o : Scan). o.count) i ∙ sym (add-zero q.count))
pause_walks (suc n) q p [] e = absurd (let z : ◌≡◌ {A = ℕ} 0 1 = cc in omega arith)
pause_walks (suc n) q p (x ∷ xs) e = let h = pause_walks n (stepped q x) p xs e in (h.0, omega (arith, h.1))

end_walks : (n : ℕ) (q p : Scan) (xs : List Piece) → Break p ≡ outcome n q xs → p ≡ walked q xs
unfolding outcome walked
end_walks zero q p xs e = absurd (let z : ◌≡◌ {A = ℕ} 0 1 = cc in omega arith)
end_walks (suc n) q p [] e = cc
end_walks (suc n) q p (x ∷ xs) e = end_walks n (stepped q x) p xs e

module _ {kind : ℕ → ℕ} (ok : Reads kind) (s : List ℕ) (q p : Scan) (n : ℕ) where
  -- a paused state continues to the same end, n pieces later
  pub paused_whole : (ReadHere kind) s q n (Continue p) → whole kind s p ≡ whole kind s q
  paused_whole h = ap (walked p) h.left ∙ (pause_walks n q p (pieces_at kind s q.at) h.is).0

  pub paused_count : (ReadHere kind) s q n (Continue p) → p.count ≡ q.count + n
  paused_count h = (pause_walks n q p (pieces_at kind s q.at) h.is).1

  pub ended-whole : (ReadHere kind) s q n (Break p) → p ≡ whole kind s q
  ended-whole h = end_walks n q p (pieces_at kind s q.at) h.is

-- The stretches of a delimiter row, one after the other.
-- Assumes nothing.
use Prim.Native.Nat.{ℕ, suc, ◌+◌, ◌≤◌, ◌<◌}
use mathlib.Core.Path.{◌≡◌, refl, ap, sym, ◌∙◌}
use mathlib.Core.Bool.{Bool, true, false, cond, ◌&&◌, ◌||◌, false≢true}
use mathlib.Core.List.{List, [], ◌∷◌, ◌++◌, append-nil}
use native.Mathlib.Nat.{add-zero}
use native.Mathlib.Omega.{arith}
use borrow.Author.Tests.{eqb-true, eqb-false, ne_eqb, lt-ltb, le-ltb}
use lib.Dec.{eqb, ltb}
use lib.ListN.{length, drop}
use Rattle.tokenizer.specs.declared.event.Point.{Point}
use Rattle.std.specs.Prelude.{Option, Some, None}
use Rattle.gfm_table.specs.declared.delimiter.Cell.TheVariants.{Empty, Value}
use Rattle.gfm_table.specs.declared.delimiter.Values.{Values}
use Rattle.tokenizer.specs.Bytes.{is_end, Reads}
use Rattle.tokenizer.specs.Points.{past}
use Rattle.tokenizer.specs.Lines.{is_empty, indent, unindented}
use Rattle.gfm_table.specs.Heads.{is_value, on_stretch, stretches, trimmed, unled, untrailed, all_values, values, marked, permitted}
use Rattle.tokenizer.specs.Lines.{line_body}
use Rattle.tokenizer.specs.Moves.{ahead_of, rest_of, over_at, Inside}
use Rattle.gfm_table.specs.Machine.{pipe_first}
use Rattle.gfm_table.specs.Delimiters.{stretch, written, cell_at, rest_at, values_at, delimiter_at}
use Rattle.tokenizer.proofs.Ahead.{Front, ends, run_end, end_over, rest_end, inside-end, end-end}
use Rattle.gfm_table.proofs.Stops.{led_ahead}
use Rattle.tokenizer.proofs.Runs.{space_split}
use Rattle.gfm_table.proofs.Delimiters.{written_on, written_none}

-- ## Stretches

module _ {kind : ℕ → ℕ} (ok : Reads kind) where
  -- what follows the first stretch: nothing, or a pipe
  pub beyond : List ℕ → List ℕ
  beyond [] = []
  beyond (b ∷ u) = cond (eqb (kind b) 3) (b ∷ u) (beyond u)

  pub stretch-split : (u : List ℕ) → stretch kind u ++ beyond u ≡ u
  unfolding stretch beyond
  stretch-split [] = refl
  stretch-split (b ∷ u) = go (eqb (kind b) 3) (stretch-split u)
    where
      go : (t : Bool) → stretch kind u ++ beyond u ≡ u → cond t [] (b ∷ stretch kind u) ++ cond t (b ∷ u) (beyond u) ≡ b ∷ u
      go true e = refl
      go false e = ap (λ (l : List ℕ). b ∷ l) e

  pub beyond-first : (u : List ℕ) (b : ℕ) (w : List ℕ) → beyond u ≡ b ∷ w → kind b ≡ 3
  unfolding beyond
  beyond-first [] b w e = absurd (let z : ◌≡◌ {A = ℕ} 0 1 = cc in omega arith)
  beyond-first (c ∷ u) b w e = go (eqb (kind c) 3) refl (λ i. beyond-first u b w i) e
    where
      go : (t : Bool) → eqb (kind c) 3 ≡ t → (beyond u ≡ b ∷ w → kind b ≡ 3) → cond t (c ∷ u) (beyond u) ≡ b ∷ w → kind b ≡ 3
      go true h r e = let i : c ≡ b = cc in rw (← i) (eqb-true (kind c) 3 h)
      go false h r e = r e

module _ (kind : ℕ → ℕ) where
  -- the cells of a line: the stretches, whitespace off
  abbrev pub cells : List ℕ → List (List ℕ)
  cells u = trimmed kind (stretches kind u)

  abbrev pub others : List ℕ → List (List ℕ)
  others [] = []
  others (b ∷ w) = stretches kind w

module _ {kind : ℕ → ℕ} (ok : Reads kind) where
  stretches-split : (u : List ℕ) → stretches kind u ≡ stretch kind u ∷ others kind (beyond ok u)
  unfolding stretches stretch beyond
  stretches-split [] = refl
  stretches-split (b ∷ u) = go (eqb (kind b) 3) (stretches-split u)
    where
      go : (t : Bool) → stretches kind u ≡ stretch kind u ∷ others kind (beyond ok u)
          → cond t ([] ∷ stretches kind u) (on_stretch b (stretches kind u)) ≡ cond t [] (b ∷ stretch kind u) ∷ others kind (cond t (b ∷ u) (beyond ok u))
      go true e = refl
      go false e = ap (on_stretch b) e

  pub cells-split : (u : List ℕ) → cells kind u ≡ written kind u ∷ trimmed kind (others kind (beyond ok u))
  unfolding trimmed
  cells-split u = ap (trimmed kind) (stretches-split u)

  -- the last stretch, and one before a pipe
  pub cells-last : (u : List ℕ) → beyond ok u ≡ [] → cells kind u ≡ written kind u ∷ []
  unfolding trimmed
  cells-last u e = cells-split u ∙ ap (λ (l : List ℕ). written kind u ∷ trimmed kind (others kind l)) e

  pub cells-more : (u : List ℕ) (b : ℕ) (w : List ℕ) → beyond ok u ≡ b ∷ w → cells kind u ≡ written kind u ∷ cells kind w
  cells-more u b w e = cells-split u ∙ ap (λ (l : List ℕ). written kind u ∷ trimmed kind (others kind l)) e

  pub untrailed-more : (c : List ℕ) (w : List ℕ) → untrailed (c ∷ cells kind w) ≡ c ∷ untrailed (cells kind w)
  unfolding untrailed
  untrailed-more c w = rw (cells-split w)

-- ## What a cell says of the stretches that are left

-- n values that end at a point
abbrev pub counted : ℕ → Point → Option Values
counted n e = Some (record { count = n; end = e })

module _ (x e : Point) where
  is_value_lem : (a b : Bool) → Some (Value e) ≡ cond a (Some (Empty x)) (cond b (Some (Value x)) None) → (e ≡ x) × (a ≡ false) × (b ≡ true)
  is_value_lem true b h = absurd (let z : ◌≡◌ {A = ℕ} 0 1 = cc in omega arith)
  is_value_lem false true h = (cc, refl, refl)
  is_value_lem false false h = absurd (let z : ◌≡◌ {A = ℕ} 0 1 = cc in omega arith)

  is-empty : (a b : Bool) → Some (Empty e) ≡ cond a (Some (Empty x)) (cond b (Some (Value x)) None) → (e ≡ x) × (a ≡ true)
  is-empty true b h = (cc, refl)
  is-empty false true h = absurd (let z : ◌≡◌ {A = ℕ} 0 1 = cc in omega arith)
  is-empty false false h = absurd (let z : ◌≡◌ {A = ℕ} 0 1 = cc in omega arith)

is_bad : (x : Point) (a b : Bool) → None ≡ cond a (Some (Empty x)) (cond b (Some (Value x)) None) → (a ≡ false) × (b ≡ false)
is_bad x true b h = absurd (let z : ◌≡◌ {A = ℕ} 0 1 = cc in omega arith)
is_bad x false true h = absurd (let z : ◌≡◌ {A = ℕ} 0 1 = cc in omega arith)
is_bad x false false h = (refl, refl)

module _ {kind : ℕ → ℕ} (ok : Reads kind) where
  all_bad : (c : List ℕ) (cs : List (List ℕ)) → is_empty c ≡ false → is_value kind c ≡ false → all_values kind (untrailed (c ∷ cs)) ≡ false
  unfolding untrailed all_values
  all_bad c [] e f = rw (e, f)
  all_bad c (d ∷ cs) e f = rw f

  head_ahead : (v : List ℕ) (b : ℕ) (w : List ℕ) → line_body v ≡ b ∷ w → ahead_of kind v ≡ kind b
  unfolding line_body
  head_ahead [] b w e = absurd (let z : ◌≡◌ {A = ℕ} 0 1 = cc in omega arith)
  head_ahead (c ∷ v) b w e = go (is_end c) e
    where
      go : (t : Bool) → cond t [] (c ∷ line_body v) ≡ b ∷ w → kind c ≡ kind b
      go true e = absurd (let z : ◌≡◌ {A = ℕ} 0 1 = cc in omega arith)
      go false e = cc

  none : (c : List ℕ) → is_empty c ≡ true → is_value kind c ≡ false
  none [] e = refl
  none (b ∷ c) e = absurd (false≢true e)

  module _ (s : List ℕ) (q : Point) (m : ℕ) where
    abbrev pub stop : Point
    stop = run_end (stretch kind) s q

    abbrev pub line : List ℕ
    line = rest_of s q

    pub stop-rest : rest_of s stop ≡ beyond ok line
    stop-rest = rest_end (stretch kind) (beyond ok) (stretch-split ok) s q

    stop-inside : Inside s q → Inside s stop
    stop-inside = inside-end (stretch kind) (beyond ok) (stretch-split ok) s q

    pub last-stretch : (ahead_of kind (drop stop.index s) ≡ 3 → ⊥) → beyond ok line ≡ []
    last-stretch h = go (beyond ok line) refl
      where
        go : (l : List ℕ) → beyond ok line ≡ l → l ≡ []
        go [] i = refl
        go (b ∷ w) i = absurd (h (head_ahead (drop stop.index s) b w (stop-rest ∙ i) ∙ beyond-first ok line b w i))

    last-point : (beyond ok) line ≡ [] → past q line ≡ stop
    last-point e = ap (past q) (sym (stretch-split ok line) ∙ ap (λ (l : List ℕ). stretch kind line ++ l) e ∙ append-nil (stretch kind line))

    pub more-stretch : (Front kind) s stop.index 3 → cells kind line ≡ written kind line ∷ cells kind (rest_of s (over_at s stop))
    more-stretch f = cells-more ok line _ _ (sym stop-rest ∙ f.line)

    more-point : (f : (Front kind) s stop.index 3) → past (over_at s stop) (rest_of s (over_at s stop)) ≡ past q line
    more-point f =
        end_over s stop 3 f (λ u. u) (λ u. u) (λ b u e. refl) ∙ end-end (stretch kind) (beyond ok) (stretch-split ok) s q (λ u. u) (λ u. u) (λ u. sym (stretch-split ok u))

    pub rest_bad : None ≡ cell_at kind q line → None ≡ rest_at kind m q line
    rest_bad h =
        let i = is_bad stop (is_empty (written kind line)) (is_value kind (written kind line)) h in
        rw (cells-split ok line, all_bad (written kind line) (trimmed kind (others kind (beyond ok line))) i.0 i.1)

    rest_empty_more : Some (Empty stop) ≡ cell_at kind q line → Front kind s stop.index 3 → None ≡ rest_at kind m q line
    unfolding all_values
    rest_empty_more h f =
        let i = (is-empty stop stop (is_empty (written kind line)) (is_value kind (written kind line)) h).1 in
        rw (more-stretch f, untrailed-more ok (written kind line) (rest_of s (over_at s stop)), none (written kind line) i)

    rest_empty_last : Some (Empty stop) ≡ cell_at kind q line → (ahead_of kind (drop stop.index s) ≡ 3 → ⊥) → counted m stop ≡ rest_at kind m q line
    unfolding all_values untrailed
    rest_empty_last h z =
        let i = (is-empty stop stop (is_empty (written kind line)) (is_value kind (written kind line)) h).1 in
        let l = last-stretch z in
        rw (cells-last ok line l, i, last-point l, add-zero)

    rest_value_last : Some (Value stop) ≡ cell_at kind q line → (ahead_of kind (drop stop.index s) ≡ 3 → ⊥) → counted (m + 1) stop ≡ rest_at kind m q line
    unfolding all_values untrailed
    rest_value_last h z =
        let i = is_value_lem stop stop (is_empty (written kind line)) (is_value kind (written kind line)) h in
        let l = last-stretch z in
        rw (cells-last ok line l, i.1, i.2, last-point l)

    rest_value_more : Some (Value stop) ≡ cell_at kind q line → Front kind s stop.index 3 → rest_at kind (m + 1) (over_at s stop) (rest_of s (over_at s stop)) ≡ rest_at kind m q line
    unfolding all_values
    rest_value_more h f =
        let i = is_value_lem stop stop (is_empty (written kind line)) (is_value kind (written kind line)) h in
        let n = length (untrailed (cells kind (rest_of s (over_at s stop)))) in
        let l : (m + 1) + n ≡ m + suc n = omega arith in
        rw (more-stretch f, untrailed-more ok (written kind line) (rest_of s (over_at s stop)), i.2, more-point f, l)

    -- the same at the point that the cell gives
    module _ (e : Point) (h : Some (Empty e) ≡ cell_at kind q line) where
      empty-stop : e ≡ stop
      empty-stop = (is-empty stop e (is_empty (written kind line)) (is_value kind (written kind line)) h).0

      pub empty-more : (Front kind) s e.index 3 → None ≡ rest_at kind m q line
      empty-more f = rest_empty_more (rw empty-stop at h) (rw empty-stop at f)

      pub empty-last : (ahead_of kind (drop e.index s) ≡ 3 → ⊥) → counted m e ≡ rest_at kind m q line
      empty-last z = rw empty-stop (rest_empty_last (rw empty-stop at h) (rw empty-stop at z))

    module _ (e : Point) (h : Some (Value e) ≡ cell_at kind q line) where
      value_stop : e ≡ stop
      value_stop = (is_value_lem stop e (is_empty (written kind line)) (is_value kind (written kind line)) h).0

      pub value_inside : Inside s q → Inside s e
      value_inside i = rw value_stop (stop-inside i)

      pub value_later : q.index ≤ e.index
      value_later = rw value_stop (omega arith)

      pub value_more : (Front kind) s e.index 3 → rest_at kind (m + 1) (over_at s e) (rest_of s (over_at s e)) ≡ rest_at kind m q line
      value_more f = rw value_stop (rest_value_more (rw value_stop at h) (rw value_stop at f))

      pub value_last : (ahead_of kind (drop e.index s) ≡ 3 → ⊥) → counted (m + 1) e ≡ rest_at kind m q line
      value_last z = rw value_stop (rest_value_last (rw value_stop at h) (rw value_stop at z))

  -- ## A leading divider

  beyond_space : (u : List ℕ) → beyond ok u ≡ beyond ok (unindented kind u)
  unfolding beyond unindented
  beyond_space [] = refl
  beyond_space (b ∷ u) = go (eqb (kind b) 1) refl (beyond_space u)
    where
      go : (t : Bool) → eqb (kind b) 1 ≡ t → beyond ok u ≡ beyond ok (unindented kind u) → beyond ok (b ∷ u) ≡ beyond ok (cond t (unindented kind u) (b ∷ u))
      go true e h = rw (eqb-true (kind b) 1 e) h
      go false e h = refl

  beyond-led : (u : List ℕ) (b : ℕ) (w : List ℕ) → unindented kind u ≡ b ∷ w → kind b ≡ 3 → beyond ok u ≡ b ∷ w
  unfolding beyond
  beyond-led u b w e k = beyond_space u ∙ ap (beyond ok) e ∙ rw k

  -- nothing before a pipe: the first cell is dropped
  pub values-led : (u : List ℕ) (b : ℕ) (w : List ℕ) → unindented kind u ≡ b ∷ w → kind b ≡ 3 → values kind u ≡ untrailed (cells kind w)
  unfolding stretch
  values-led u b w e k = rw (cells-more ok u b w (beyond-led u b w e k), written_none kind u (rw (e, k)), cells-split ok w)

unled-solid : (b : ℕ) (y : List ℕ) (cs : List (List ℕ)) → unled ((b ∷ y) ∷ cs) ≡ (b ∷ y) ∷ cs
unled-solid b y [] = refl
unled-solid b y (c ∷ cs) = refl

module _ {kind : ℕ → ℕ} (ok : Reads kind) where
  pub values-plain : (u : List ℕ) → pipe_first kind (unindented kind u) ≡ false → values kind u ≡ untrailed (cells kind u)
  unfolding beyond
  values-plain u h = ap untrailed (go (unindented kind u) refl h)
    where
      go : (v : List ℕ) → unindented kind u ≡ v → pipe_first kind v ≡ false → unled (cells kind u) ≡ cells kind u
      go [] e h = rw (cells-last ok u (beyond_space ok u ∙ ap (beyond ok) e))
      go (c ∷ x) e h = rw (cells-split ok u, written_on kind u c x e (eqb-false (kind c) 3 h), unled-solid)

  -- nothing but whitespace
  pub cells-blank : (u : List ℕ) → unindented kind u ≡ [] → cells kind u ≡ [] ∷ []
  unfolding beyond stretch
  cells-blank u e = cells-last ok u (beyond_space ok u ∙ ap (beyond ok) e) ∙ ap (λ (c : List ℕ). c ∷ []) (written_none kind u (rw e))

  -- something in front that is no value
  pub cells_bad : (u : List ℕ) (b : ℕ) (w : List ℕ) → unindented kind u ≡ b ∷ w → is_value kind (written kind u) ≡ false → all_values kind (untrailed (cells kind u)) ≡ false
  unfolding all_values
  cells_bad u b w e v = go (eqb (kind b) 3) refl
    where
      go : (t : Bool) → eqb (kind b) 3 ≡ t → all_values kind (untrailed (cells kind u)) ≡ false
      go true k = rw (cells-more ok u b w (beyond-led ok u b w e (eqb-true (kind b) 3 k)), untrailed-more ok (written kind u) w, v)
      go false k = rw (cells-split ok u) (all_bad ok (written kind u) (trimmed kind (others kind (beyond ok u))) (ap is_empty (written_on kind u b w e (eqb-false (kind b) 3 k))) v)

  module _ (s : List ℕ) (p : Point) where
    abbrev solid_at : Point
    solid_at = run_end (indent kind) s p

    pub values_led_at : (f : (Front kind) s solid_at.index 3) → rest_at kind 0 (over_at s solid_at) (rest_of s (over_at s solid_at)) ≡ values_at kind p (rest_of s p)
    values_led_at f =
        let r = rest_end (indent kind) (unindented kind) (space_split kind) s p in
        let e : past (over_at s solid_at) (rest_of s (over_at s solid_at)) ≡ past p (rest_of s p)
        = end_over s solid_at 3 f (λ u. u) (λ u. u) (λ b u e. refl) ∙ end-end (indent kind) (unindented kind) (space_split kind) s p (λ u. u) (λ u. u) (λ u. sym (space_split kind u)) in
        rw (values-led ok (rest_of s p) _ _ (sym r ∙ f.line) f.is, e)

    pub values_plain_at : (ahead_of kind (drop solid_at.index s) ≡ 3 → ⊥) → rest_at kind 0 p (rest_of s p) ≡ values_at kind p (rest_of s p)
    values_plain_at h = rw (values-plain (rest_of s p) (led_ahead ok s p ∙ ne_eqb _ 3 h))

  -- ## Marks

  pub unmarked : (u : List ℕ) → ahead_of kind u ≡ 2 → false ≡ marked kind (line_body u)
  unfolding marked
  unmarked u e = rw (ends ok u e)

  pub marked-at : (s : List ℕ) (i k : ℕ) → Front kind s i k → marked kind (line_body (drop i s)) ≡ (eqb k 3 || (eqb k 6 || marked kind (line_body (drop (i + 1) s))))
  unfolding marked
  marked-at s i k f = rw (f.line, f.is)

-- ## The whole row

pub is-count : (c : Bool) (n m : ℕ) (x e : Point) → counted n e ≡ cond c (counted m x) None → (n ≡ m) × (e ≡ x) × (c ≡ true)
is-count true n m x e h =
    let v : ◌≡◌ {A = Values} (record { count = n; end = e }) (record { count = m; end = x }) = cc in
    (ap (λ (u : Values). u.count) v, ap (λ (u : Values). u.end) v, refl)
is-count false n m x e h = absurd (let z : ◌≡◌ {A = ℕ} 0 1 = cc in omega arith)

pub is_none : (c : Bool) (v : ℕ) (x : Point) → None ≡ cond c (counted v x) None → c ≡ false
is_none true v x h = absurd (let z : ◌≡◌ {A = ℕ} 0 1 = cc in omega arith)
is_none false v x h = refl

module _ {kind : ℕ → ℕ} (ok : Reads kind) (on : Bool) (p : Point) (u : List ℕ) where
  pub row_unpermitted : permitted kind on u ≡ false → None ≡ delimiter_at kind on p u
  row_unpermitted e = rw e

  pub row_unmarked : marked kind u ≡ false → None ≡ delimiter_at kind on p u
  row_unmarked e = rw e (go (permitted kind on u))
    where
      go : (t : Bool) → None ≡ cond (t && false) (counted (length (values kind u)) (past p u)) None
      go true = refl
      go false = refl

  module _ (a : permitted kind on u ≡ true) (b : marked kind u ≡ true) where
    pub row_bad : None ≡ values_at kind p u → None ≡ delimiter_at kind on p u
    row_bad h = rw (a, b, is_none (all_values kind (values kind u)) (0 + length (values kind u)) (past p u) h) (go (ltb 0 (length (values kind u))))
      where
        go : (t : Bool) → None ≡ cond (t && false) (counted (length (values kind u)) (past p u)) None
        go true = refl
        go false = refl

    module _ (n : ℕ) (e : Point) (h : counted n e ≡ values_at kind p u) where
      row-values : (n ≡ 0 + length (values kind u)) × (e ≡ past p u) × (all_values kind (values kind u) ≡ true)
      row-values = is-count (all_values kind (values kind u)) n (0 + length (values kind u)) (past p u) e h

      pub row_count_lem : 0 < n → counted n e ≡ delimiter_at kind on p u
      row_count_lem z =
          let v = row-values in
          let l : n ≡ length (values kind u) = omega (arith, v.0) in
          rw (a, b, v.2, lt-ltb 0 (length (values kind u)) (rw (← l) z), l, v.1)

      pub row-none : n ≤ 0 → None ≡ delimiter_at kind on p u
      row-none z = let v = row-values in rw (a, b, le-ltb 0 (length (values kind u)) (omega (arith, v.0)))

-- The values of a delimiter row by the places of their bytes: where a value ends, and what one value more makes of their number.
-- Assumes nothing.
use Prim.Native.Nat.{ℕ, suc, ◌+◌, ◌≤◌, ◌<◌}
use mathlib.Core.Path.{◌≡◌, refl, ap, sym, ◌∙◌}
use mathlib.Core.Bool.{Bool, true, false, cond, ◌&&◌, and-true, and-false, true≢false}
use mathlib.Core.List.{List, [], ◌∷◌, ◌++◌}
use native.Mathlib.Nat.{add-zero}
use native.Mathlib.Omega.{arith}
use borrow.Author.Tests.{eqb-true, eqb-false, eq-eqb, ne_eqb}
use lib.Dec.{eqb, ltb}
use lib.ListN.{length, drop, get_or, length-append}
use Rattle.tokenizer.specs.declared.event.Point.{Point}
use Rattle.std.specs.Prelude.{Some, None}
use Rattle.tokenizer.specs.Bytes.{Reads}
use Rattle.tokenizer.specs.Lines.{line_body, is_empty, indent, unindented, blank}
use Rattle.tokenizer.specs.Moves.{ahead_of, run_of, after_run}
use Rattle.tokenizer.proofs.Ahead.{Front, goes, ends, line_case}
use Rattle.tokenizer.proofs.Runs.{space_split, run_split}
use Rattle.gfm_table.specs.Heads.{untailed, hyphens, is_value, untrailed, all_values, values, marked, permitted, is_delimiter_row}
use Rattle.gfm_table.specs.Delimiters.{stretch, closes, colon, written, value_end, rest_count, values_start, value_count, delimiter_at, positive}
use Rattle.gfm_table.specs.Machine.{pipe_first}
use Rattle.gfm_table.proofs.Stops.{led_ahead}
use Rattle.gfm_table.proofs.Delimiters.{View, view, space, pipe, hyphen, other, stretch_on, stretch-indent, stretch_space, stretch-hyphens, hyphens_on, hyphens_off, hyphens-none, written_on, ends_two, ends-front}
use Rattle.gfm_table.proofs.Delimiters as D
use Rattle.gfm_table.proofs.Passing.{line_from, point_of, line-past}
use Rattle.gfm_table.proofs.Stretches.{cells, cells-last, untrailed-more, cells-blank, cells_bad, last-stretch, more-stretch, values-led, values-plain, unmarked}

-- ## Parts of a stretch

module _ (kind : ℕ → ℕ) where
  -- what stands behind a colon in front
  abbrev pub uncoloned : List ℕ → List ℕ
  uncoloned [] = []
  uncoloned (b ∷ u) = cond (eqb (kind b) 6) u (b ∷ u)

module _ {kind : ℕ → ℕ} (ok : Reads kind) where
  colon-split : (u : List ℕ) → colon kind u ++ uncoloned kind u ≡ u
  colon-split [] = refl
  colon-split (b ∷ u) = go (eqb (kind b) 6)
    where
      go : (t : Bool) → cond t (b ∷ []) [] ++ cond t u (b ∷ u) ≡ b ∷ u
      go true = refl
      go false = refl

  stretch-colon : (u : List ℕ) → stretch kind u ≡ colon kind u ++ stretch kind (uncoloned kind u)
  unfolding stretch
  stretch-colon [] = refl
  stretch-colon (b ∷ u) = go (eqb (kind b) 6) refl
    where
      go : (t : Bool) → eqb (kind b) 6 ≡ t → stretch kind (b ∷ u) ≡ cond t (b ∷ []) [] ++ stretch kind (cond t u (b ∷ u))
      go true e = let f = eqb-true (kind b) 6 e in stretch_on kind b u (λ z. omega arith)
      go false e = refl

module _ (kind : ℕ → ℕ) where
  -- where the stretch at a place ends
  abbrev pub stop_from : List ℕ → ℕ → ℕ
  stop_from s i = i + length (stretch kind (line_from s i))

  -- a part of a stretch is passed, from i to j, where v is left of the line
  record PastRun (s : List ℕ) (i j : ℕ) (v : List ℕ) : Type 0 where
    rest : line_from s j ≡ v
    stop : stop_from s j ≡ stop_from s i

module _ {kind : ℕ → ℕ} (ok : Reads kind) where
  passes : (run rest : List ℕ → List ℕ) → ((u : List ℕ) → run u ++ rest u ≡ u) → ((u : List ℕ) → stretch kind u ≡ run u ++ stretch kind (rest u)) → (s : List ℕ) (i j : ℕ) → j ≡ i + length (run (line_from s i)) → PastRun kind s i j (rest (line_from s i))
  passes run rest split within s i j d =
      let u = line_from s i in
      let r = ap (line_from s) d ∙ line-past s i (run u) (rest u) (sym (split u)) in
      record { rest = r; stop = omega (arith, d, ap (λ (l : List ℕ). length (stretch kind l)) r, ap length (within u), length-append (run u) (stretch kind (rest u))) }

  module _ (s : List ℕ) (i j : ℕ) where
    passes_space : j ≡ i + length (indent kind (line_from s i)) → PastRun kind s i j (unindented kind (line_from s i))
    passes_space = passes (indent kind) (unindented kind) (space_split kind) (stretch_space kind) s i j

    passes-colon : j ≡ i + length (colon kind (line_from s i)) → PastRun kind s i j (uncoloned kind (line_from s i))
    passes-colon = passes (colon kind) (uncoloned kind) (colon-split ok) (stretch-colon ok) s i j

    passes-hyphens : j ≡ i + length (run_of kind 5 (line_from s i)) → PastRun kind s i j (after_run kind 5 (line_from s i))
    passes-hyphens = passes (run_of kind 5) (after_run kind 5) (run_split kind 5) (stretch-hyphens kind) s i j

  -- ## Where its parts end

  module _ (s : List ℕ) (i : ℕ) where
    pub colon-one : (Front kind) s i 6 → length (colon kind (line_from s i)) ≡ 1
    colon-one f = rw (f.line, f.is)

    pub colon-none : (ahead_of kind (drop i s) ≡ 6 → ⊥) → length (colon kind (line_from s i)) ≡ 0
    unfolding line_body
    colon-none = go (drop i s)
      where
        go : (v : List ℕ) → (ahead_of kind v ≡ 6 → ⊥) → length (colon kind (line_body v)) ≡ 0
        go [] h = refl
        go (b ∷ v) h = line_case ok b v (λ l. length (colon kind l) ≡ 0) refl (λ z. rw (ne_eqb (kind b) 6 h))

    -- at a divider or the end of the line
    pub stretch_over : (k : ℕ) → k ≡ ahead_of kind (drop i s) → 2 ≤ k → k < 4 → true ≡ is_empty (stretch kind (line_from s i))
    stretch_over k e g l = go (eqb k 2) refl
      where
        go : (t : Bool) → eqb k 2 ≡ t → true ≡ is_empty (stretch kind (line_from s i))
        go true h = ends_two ok (drop i s) (sym e ∙ eqb-true k 2 h)
        go false h = let z = eqb-false k 2 h in sym (eq-eqb k 3 (omega arith)) ∙ ends-front ok s i k (goes ok s i k e z)

    pub stretch-more : (k : ℕ) → k ≡ ahead_of kind (drop i s) → (k ≡ 2 → ⊥) → (k ≡ 3 → ⊥) → false ≡ is_empty (stretch kind (line_from s i))
    stretch-more k e g l = sym (ne_eqb k 3 l) ∙ ends-front ok s i k (goes ok s i k e g)

  -- ## A value

  -- behind whitespace and a colon, a value has its hyphens
  value_hyphens : (u : List ℕ) → is_value kind (written kind u) ≡ hyphens kind (untailed kind (stretch kind (uncoloned kind (unindented kind u))))
  unfolding stretch untailed hyphens
  value_hyphens u = rw (stretch-indent kind u) (go (unindented kind u))
    where
      spaces : (b : ℕ) (w : List ℕ) (t : Bool) → kind b ≡ 1 → is_value kind (cond t [] (b ∷ w)) ≡ hyphens kind (cond t [] (b ∷ w))
      spaces b w true e = refl
      spaces b w false e = rw e

      by : (b : ℕ) (w : List ℕ) → View (kind b) → is_value kind (untailed kind (stretch kind (b ∷ w))) ≡ hyphens kind (untailed kind (stretch kind (uncoloned kind (b ∷ w))))
      by b w (space e) = simp e (spaces b (untailed kind (stretch kind w)) (blank kind (stretch kind w)) e)
      by b w (pipe e) = simp e
      by b w (hyphen e) = simp e
      by b w (D.colon e) = simp e
      by b w (other e f g h) = simp (e, f, h)

      go : (v : List ℕ) → is_value kind (untailed kind (stretch kind v)) ≡ hyphens kind (untailed kind (stretch kind (uncoloned kind v)))
      go [] = refl
      go (b ∷ w) = by b w (view (kind b))

  -- behind its hyphens a stretch ends after a colon and whitespace
  closes-tail : (u : List ℕ) → closes kind u ≡ is_empty (stretch kind (unindented kind (uncoloned kind u)))
  unfolding stretch unindented
  closes-tail [] = refl
  closes-tail (b ∷ u) = go (eqb (kind b) 6)
    where
      go : (t : Bool) → cond t (blank kind (stretch kind u)) (blank kind (stretch kind (b ∷ u))) ≡ is_empty (stretch kind (unindented kind (cond t u (b ∷ u))))
      go true = ap is_empty (stretch-indent kind u)
      go false = ap is_empty (stretch-indent kind (b ∷ u))

  hyphens-led : (u : List ℕ) → (length (run_of kind 5 u) ≡ 0 → ⊥) → hyphens kind (untailed kind (stretch kind u)) ≡ is_empty (stretch kind (unindented kind (uncoloned kind (after_run kind 5 u))))
  unfolding run_of
  hyphens-led [] h = absurd (h refl)
  hyphens-led (b ∷ u) h = go (eqb (kind b) 5) refl h
    where
      go : (t : Bool) → eqb (kind b) 5 ≡ t → (length (cond t (b ∷ run_of kind 5 u) []) ≡ 0 → ⊥) → hyphens kind (untailed kind (stretch kind (b ∷ u))) ≡ is_empty (stretch kind (unindented kind (uncoloned kind (after_run kind 5 (b ∷ u)))))
      go true e h = hyphens_on kind b u (eqb-true (kind b) 5 e) ∙ closes-tail (after_run kind 5 (b ∷ u))
      go false e h = absurd (h refl)

  hyphens_missing : (u : List ℕ) → length (run_of kind 5 u) ≡ 0 → hyphens kind (untailed kind (stretch kind u)) ≡ false
  unfolding run_of stretch untailed hyphens
  hyphens_missing [] h = refl
  hyphens_missing (b ∷ u) h = go (eqb (kind b) 5) refl h
    where
      go : (t : Bool) → eqb (kind b) 5 ≡ t → length (cond t (b ∷ run_of kind 5 u) []) ≡ 0 → hyphens kind (untailed kind (stretch kind (b ∷ u))) ≡ false
      go true e h = absurd (omega (arith, h))
      go false e h = hyphens-none kind b u e

  -- x is behind the whitespace at i, a behind a colon there, b behind its hyphens
  module _ (s : List ℕ) (i x a b : ℕ) (d : x ≡ i + length (indent kind (line_from s i))) (f : a ≡ x + length (colon kind (line_from s x))) (g : b ≡ a + length (run_of kind 5 (line_from s a))) where
    at-hyphens : is_value kind (written kind (line_from s i)) ≡ hyphens kind (untailed kind (stretch kind (line_from s a)))
    at-hyphens = value_hyphens (line_from s i) ∙ ap (λ (l : List ℕ). hyphens kind (untailed kind (stretch kind l))) (sym ((passes-colon s x a f).rest ∙ ap (uncoloned kind) (passes_space s i x d).rest))

    pub no-hyphens : a ≡ b → None ≡ value_end kind i (line_from s i)
    no-hyphens h = rw (at-hyphens ∙ hyphens_missing (line_from s a) (omega (arith, g, h)))

    -- y is behind a colon at b, e behind the whitespace there
    module _ (y e : ℕ) (k : y ≡ b + length (colon kind (line_from s b))) (l : e ≡ y + length (indent kind (line_from s y))) (h : a ≡ b → ⊥) where
      at-end : is_value kind (written kind (line_from s i)) ≡ is_empty (stretch kind (line_from s e))
      at-end =
          let r : line_from s e ≡ unindented kind (uncoloned kind (after_run kind 5 (line_from s a)))
          = (passes_space s y e l).rest ∙ ap (unindented kind) ((passes-colon s b y k).rest ∙ ap (uncoloned kind) (passes-hyphens s a b g).rest) in
          at-hyphens ∙ hyphens-led (line_from s a) (λ z. h (omega (arith, g, z))) ∙ ap (λ (w : List ℕ). is_empty (stretch kind w)) (sym r)

      same_stop : (stop_from kind) s e ≡ stop_from kind s i
      same_stop = (passes_space s y e l).stop ∙ (passes-colon s b y k).stop ∙ (passes-hyphens s a b g).stop ∙ (passes-colon s x a f).stop ∙ (passes_space s i x d).stop

      pub value_ends : true ≡ is_empty (stretch kind (line_from s e)) → Some e ≡ value_end kind i (line_from s i)
      value_ends z = rw (at-end ∙ sym z) (none_left (stretch kind (line_from s e)) refl (sym z))
        where
          none_left : (w : List ℕ) → stretch kind (line_from s e) ≡ w → is_empty w ≡ true → Some e ≡ Some (stop_from kind s i)
          none_left [] q z = ap Some (omega (arith, same_stop, ap length q))
          none_left (b ∷ w) q z = absurd (true≢false (sym z))

      pub value_goes_on : false ≡ is_empty (stretch kind (line_from s e)) → None ≡ value_end kind i (line_from s i)
      value_goes_on z = rw (at-end ∙ sym z)

  -- what the end of a stretch tells
  module _ (s : List ℕ) (i : ℕ) where
    pub end_none : None ≡ value_end kind i (line_from s i) → is_value kind (written kind (line_from s i)) ≡ false
    end_none = go (is_value kind (written kind (line_from s i)))
      where
        go : (t : Bool) → None ≡ cond t (Some (stop_from kind s i)) None → t ≡ false
        go true h = cc
        go false h = refl

    pub end-some : (e : ℕ) → Some e ≡ value_end kind i (line_from s i) → (is_value kind (written kind (line_from s i)) ≡ true) × (e ≡ stop_from kind s i)
    end-some e = go (is_value kind (written kind (line_from s i)))
      where
        go : (t : Bool) → Some e ≡ cond t (Some (stop_from kind s i)) None → (t ≡ true) × (e ≡ stop_from kind s i)
        go true h = (refl, cc)
        go false h = absurd (cc)

  -- ## The number of values

  -- the values of a line, the outer dividers taken off, or 0 where a stretch is none
  abbrev pub row_count : List ℕ → ℕ
  row_count u = cond (all_values kind (values kind u)) (length (values kind u)) 0

  from-none : (cs : List (List ℕ)) → cond (all_values kind cs) (0 + length cs) 0 ≡ cond (all_values kind cs) (length cs) 0
  from-none cs = ap (λ (k : ℕ). cond (all_values kind cs) k 0) (omega arith)

  solid_value : (c : List ℕ) → is_value kind c ≡ true → is_empty c ≡ false
  solid_value [] v = sym v
  solid_value (b ∷ c) v = refl

  module _ (s : List ℕ) (i n : ℕ) where
    abbrev left : List ℕ
    left = line_from s i

    -- a value that ends at e
    module _ (e : ℕ) (h : (is_value kind (written kind left) ≡ true) × (e ≡ stop_from kind s i)) where
      pub count-more : (Front kind) s e 3 → rest_count kind (n + 1) (line_from s (e + 1)) ≡ rest_count kind n left
      unfolding all_values
      count-more f =
          let w = line_from s (e + 1) in
          let l : n + suc (length (untrailed (cells kind w))) ≡ n + 1 + length (untrailed (cells kind w)) = omega arith in
          let m : (cells kind) left ≡ written kind left ∷ cells kind w = rw h.1 (more-stretch ok s (point_of i) 0 (rw h.1 at f)) in
          rw (m, untrailed-more ok (written kind left) w, h.0, l)

      pub count-last : (ahead_of kind (drop e s) ≡ 3 → ⊥) → n + 1 ≡ rest_count kind n left
      unfolding all_values untrailed
      count-last z = rw (cells-last ok left (last-stretch ok s (point_of i) 0 (rw h.1 at z)), solid_value (written kind left) h.0, h.0)

    -- x is behind the whitespace
    module _ (x : ℕ) (d : x ≡ i + length (indent kind left)) where
      solid-rest : line_from s x ≡ unindented kind left
      solid-rest = (passes_space s i x d).rest

      pub count-empty : ahead_of kind (drop x s) ≡ 2 → n ≡ rest_count kind n left
      unfolding all_values untrailed
      count-empty z = rw (cells-blank ok left (sym solid-rest ∙ ends ok (drop x s) z), add-zero)

      pub count_bad : is_value kind (written kind left) ≡ false → (ahead_of kind (drop x s) ≡ 2 → ⊥) → 0 ≡ rest_count kind n left
      count_bad v z = let f = goes ok s x (ahead_of kind (drop x s)) refl z in rw (cells_bad ok left _ _ (sym solid-rest ∙ f.line) v)

      -- no value at all
      pub count_zero : is_value kind (written kind left) ≡ false → n ≡ 0 → 0 ≡ rest_count kind n left
      count_zero v z = go (eqb (ahead_of kind (drop x s)) 2) refl
        where
          go : (t : Bool) → eqb (ahead_of kind (drop x s)) 2 ≡ t → 0 ≡ rest_count kind n left
          go true e = sym z ∙ count-empty (eqb-true (ahead_of kind (drop x s)) 2 e)
          go false e = count_bad v (eqb-false (ahead_of kind (drop x s)) 2 e)

      -- a leading divider is passed, or there is none
      pub start-led : (Front kind) s x 3 → x + 1 ≡ values_start kind i left
      start-led f = rw (ap (pipe_first kind) (sym solid-rest ∙ f.line) ∙ eq-eqb _ 3 f.is) (ap (λ (k : ℕ). k + 1) d)

      pub start_plain : (ahead_of kind (drop x s) ≡ 3 → ⊥) → i ≡ values_start kind i left
      start_plain z = rw (led_ahead ok s (point_of i) ∙ ne_eqb _ 3 (rw d at z))

  -- the values of a line stand in the stretches from their start on
  module _ (s : List ℕ) (i : ℕ) where
    abbrev solid_place : ℕ
    solid_place = i + length (indent kind (line_from s i))

    abbrev place : ℕ
    place = values_start kind i (line_from s i)

    led_front : eqb (ahead_of kind (drop solid_place s)) 3 ≡ true → Front kind s solid_place 3
    led_front e = goes ok s solid_place 3 (sym (eqb-true (ahead_of kind (drop solid_place s)) 3 e)) (λ z. omega arith)

    pub start-within : i ≤ length s → place ≤ length s
    start-within h = go (eqb (ahead_of kind (drop solid_place s)) 3) refl
      where
        go : (t : Bool) → eqb (ahead_of kind (drop solid_place s)) 3 ≡ t → place ≤ length s
        go true e = let f = led_front e in rw (← start-led s i 0 solid_place refl f) (omega (arith, f.below))
        go false e = rw (← start_plain s i 0 solid_place refl (eqb-false (ahead_of kind (drop solid_place s)) 3 e)) h

    pub start_values : untrailed (cells kind (line_from s place)) ≡ values kind (line_from s i)
    start_values = go (eqb (ahead_of kind (drop solid_place s)) 3) refl
      where
        go : (t : Bool) → eqb (ahead_of kind (drop solid_place s)) 3 ≡ t → untrailed (cells kind (line_from s place)) ≡ values kind (line_from s i)
        go true e =
            let f = led_front e in
            ap (λ (k : ℕ). untrailed (cells kind (line_from s k))) (sym (start-led s i 0 solid_place refl f))
            ∙ sym (values-led ok (line_from s i) _ _ (sym (solid-rest s i 0 solid_place refl) ∙ f.line) f.is)
        go false e =
            let z = eqb-false (ahead_of kind (drop solid_place s)) 3 e in
            ap (λ (k : ℕ). untrailed (cells kind (line_from s k))) (sym (start_plain s i 0 solid_place refl z))
            ∙ sym (values-plain ok (line_from s i) (led_ahead ok s (point_of i) ∙ ne_eqb _ 3 z))

    -- and are as many
    pub start-count : rest_count kind 0 (line_from s place) ≡ row_count (line_from s i)
    start-count = rw start_values (from-none (values kind (line_from s i)))

  -- ## The row

  -- no number is given where it is 0
  not_given : (n : ℕ) → None ≡ positive n → 0 ≡ n
  not_given n e = go (eqb n 0) refl e
    where
      go : (t : Bool) → eqb n 0 ≡ t → None ≡ cond t None (Some n) → 0 ≡ n
      go true h k = sym (eqb-true n 0 h)
      go false h k = cc

  module _ (u : List ℕ) where
    abbrev every : Bool
    every = all_values kind (values kind u)

    abbrev count : ℕ
    count = length (values kind u)

    pub count-few : 0 ≡ row_count u → 0 ≡ value_count kind u
    count-few = go (marked kind u) every
      where
        go : (m t : Bool) → 0 ≡ cond t count 0 → 0 ≡ cond (m && t) count 0
        go true t h = h
        go false t h = refl

    pub count-marked : true ≡ marked kind u → row_count u ≡ value_count kind u
    count-marked m = rw (← m)

    pub count_unmarked : false ≡ marked kind u → 0 ≡ value_count kind u
    count_unmarked m = rw (← m)

    -- a line with permitted indent is a delimiter row where it has values
    pub row-counted : (on : Bool) → is_delimiter_row kind on u ≡ (permitted kind on u && ltb 0 (value_count kind u))
    row-counted on = ap (λ (t : Bool). permitted kind on u && t) (go (marked kind u) every)
      where
        go : (m t : Bool) → (m && (ltb 0 count && t)) ≡ ltb 0 (cond (m && t) count 0)
        go true true = and-true (ltb 0 count)
        go true false = and-false (ltb 0 count)
        go false t = refl

    pub count-values : 0 < value_count kind u → value_count kind u ≡ length (values kind u)
    count-values = go (marked kind u && every)
      where
        go : (t : Bool) → 0 < cond t count 0 → cond t count 0 ≡ count
        go true h = refl
        go false h = absurd (omega arith)

  -- no values stand behind the start of the stretches
  pub none_counted : (s : List ℕ) (i : ℕ) → None ≡ positive (rest_count kind 0 (line_from s (values_start kind i (line_from s i)))) → None ≡ positive (value_count kind (line_from s i))
  none_counted s i h = ap positive (count-few (line_from s i) (not_given _ (rw (start-count s i) at h)))

  -- no delimiter row
  pub no_row : (on : Bool) (p : Point) (u : List ℕ) → 0 ≡ value_count kind u → None ≡ delimiter_at kind on p u
  no_row on p u h = rw (row-counted u on, ← h, and-false (permitted kind on u))

  -- the first solid byte is neither a divider nor a hyphen nor a colon
  first_bad : (u : List ℕ) (b : ℕ) (w : List ℕ) → unindented kind u ≡ b ∷ w → (kind b ≡ 3 → ⊥) → (kind b ≡ 5 → ⊥) → (kind b ≡ 6 → ⊥) → all_values kind (values kind u) ≡ false
  first_bad u b w e x y z =
      let j : is_value kind (written kind u) ≡ false = ap (is_value kind) (written_on kind u b w e x) ∙ rw (ne_eqb (kind b) 6 z) (hyphens_off kind b (untailed kind (stretch kind w)) (ne_eqb (kind b) 5 y)) in
      rw (values-plain ok u (ap (pipe_first kind) e ∙ ne_eqb (kind b) 3 x)) (cells_bad ok u b w e j)

  -- the first byte is none of these, and no whitespace
  pub count_other : (s : List ℕ) (i k : ℕ) → k ≡ ahead_of kind (drop i s) → (k ≡ 1 → ⊥) → (k ≡ 3 → ⊥) → (k ≡ 5 → ⊥) → (k ≡ 6 → ⊥) → 0 ≡ value_count kind (line_from s i)
  unfolding unindented
  count_other s i k e x y z t = go (eqb k 2) refl
    where
      bad : (Front kind) s i k → 0 ≡ value_count kind (line_from s i)
      bad f =
          let b = get_or s i 0 in
          let u : unindented kind (line_from s i) ≡ b ∷ line_from s (i + 1) = ap (unindented kind) f.line ∙ rw (ne_eqb (kind b) 1 (λ q. x (sym f.is ∙ q))) in
          rw (first_bad (line_from s i) b (line_from s (i + 1)) u (λ q. y (sym f.is ∙ q)) (λ q. z (sym f.is ∙ q)) (λ q. t (sym f.is ∙ q)), and-false (marked kind (line_from s i)))

      go : (r : Bool) → eqb k 2 ≡ r → 0 ≡ value_count kind (line_from s i)
      go true j = count_unmarked (line_from s i) (unmarked ok (drop i s) (sym e ∙ eqb-true k 2 j))
      go false j = bad (goes ok s i k e (eqb-false k 2 j))

-- a number above 0 is one
pub some_number : (n : ℕ) → (n ≡ 0 → ⊥) → Some n ≡ positive n
some_number n h = rw (ne_eqb n 0 h)

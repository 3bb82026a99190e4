-- How many records the result has: those of the list, without what is removed, and what is added.
-- Assumes nothing.
use Prim.Native.Nat.{ℕ, zero, suc, ◌+◌, ◌-◌, ◌≤◌, ◌<◌}
use mathlib.Core.Path.{◌≡◌, refl, ap, sym, ◌∙◌, subst}
use mathlib.Core.List.{List, [], ◌∷◌, ◌++◌}
use mathlib.Core.Bool.{Bool, true, false, cond}
use mathlib.Core.Logic.{⊎_elim}
use native.Mathlib.Omega.{arith}
use native.Mathlib.Nat.{le_of_suc-le-suc, le_refl}
use lib.Dec.{eqb, leb}
use borrow.Author.Tests.{eqb-true, eqb-false, leb-true, leb-false, lt-ltb, le-leb}
use lib.ListN.{length, drop, replicate, length-append, length-take, length-drop, length-replicate}
use Rattle.tokenizer.specs.Events.{blank_event}
use Rattle.tokenizer.specs.declared.event.Event.{Event}
use Rattle.edit_order.specs.declared.edit_slots.Edit.{Edit}
use Rattle.edit_order.specs.Edits.{here, removed, added, addition, removed_at, every, clear, dropped, stretch, fine, edits_fit, edited, edited_list}
use Rattle.edit_order.specs.EditCount.{adding, result_count}
use Rattle.edit_order.proofs.EditFitting.{fit-removed, fit-stretch, fine-stretch, fine_pool, stretch_in}
use Rattle.std.proofs.lemmas.Bool.{and_parts}

-- ## A sum over the edits, by position

unfoldable sum : (Edit → ℕ) → List Edit → ℕ
sum w [] = 0
sum w (e ∷ es) = w e + sum w es

-- the edits from a position on
unfoldable from : ℕ → List Edit → List Edit
from p [] = []
from p (e ∷ es) = cond (leb p e.at) (e ∷ from p es) (from p es)

sum-split : (w : Edit → ℕ) (p : ℕ) (es : List Edit) → sum w (from p es) ≡ sum w (here p es) + sum w (from (p + 1) es)
unfolding sum from here
sum-split w p [] = refl
sum-split w p (e ∷ es) = go (leb p e.at) (eqb e.at p) (leb (p + 1) e.at) refl refl refl (sum-split w p es)
  where
    go : (a b c : Bool) → leb p e.at ≡ a → eqb e.at p ≡ b → leb (p + 1) e.at ≡ c → sum w (from p es) ≡ sum w (here p es) + sum w (from (p + 1) es)
        → sum w (cond a (e ∷ from p es) (from p es)) ≡ sum w (cond b (e ∷ here p es) (here p es)) + sum w (cond c (e ∷ from (p + 1) es) (from (p + 1) es))
    go true true false x y z ih = omega arith
    go true false true x y z ih = omega arith
    go false false false x y z ih = ih
    go true true true x y z ih = absurd (omega (arith, eqb-true e.at p y, leb-true (p + 1) e.at z))
    go true false false x y z ih = absurd (omega (arith, eqb-false e.at p y, leb-true p e.at x, leb-false (p + 1) e.at z))
    go false true true x y z ih = absurd (omega (arith, eqb-true e.at p y, leb-false p e.at x))
    go false true false x y z ih = absurd (omega (arith, eqb-true e.at p y, leb-false p e.at x))
    go false false true x y z ih = absurd (omega (arith, leb-false p e.at x, leb-true (p + 1) e.at z))

sum_from_zero : (w : Edit → ℕ) (es : List Edit) → sum w (from 0 es) ≡ sum w es
unfolding sum from
sum_from_zero w [] = refl
sum_from_zero w (e ∷ es) = rw (le-leb 0 e.at (omega arith)) (ap (λ (x : ℕ). w e + x) (sum_from_zero w es))

removed-sum : (es : List Edit) → removed es ≡ sum (λ e. e.removes) es
unfolding removed sum
removed-sum [] = refl
removed-sum (e ∷ es) = ap (λ (x : ℕ). e.removes + x) (removed-sum es)

true_false : (b : Bool) → b ≡ true → b ≡ false → ⊥
true_false b t f = let z : lib.Dec.T false = subst lib.Dec.T (sym t ∙ f) tt in z

-- ## Where no edit counts

-- a weight that dropped edits do not have
Light : (Edit → ℕ) → Type 0
Light w = (e : Edit) → dropped e ≡ true → w e ≡ 0

light_removes : Light (λ e. e.removes)
unfolding Light
light_removes e t = eqb-true e.removes 0 (and_parts (eqb e.removes 0) (eqb e.adds 0) t).0

light_adds : (pool : List Event) → Light (λ e. length (addition pool e))
unfolding Light
light_adds pool e t = rw (length-take, eqb-true e.adds 0 (and_parts (eqb e.removes 0) (eqb e.adds 0) t).1) (omega arith)

module _ (w : Edit → ℕ) (light : Light w) where
  -- strictly inside what is removed
  bare-inside : (p m q : ℕ) (es : List Edit) → every (clear p m) es ≡ true → p < q → q < p + m → sum w (here q es) ≡ 0
  unfolding sum here every Light
  bare-inside p m q [] t a b = refl
  bare-inside p m q (e ∷ es) t a b =
      go (eqb e.at q) (dropped e) refl refl (bare-inside p m q es (and_parts (clear p m e) (every (clear p m) es) t).1 a b)
    where
      go : (x y : Bool) → eqb e.at q ≡ x → dropped e ≡ y → sum w (here q es) ≡ 0 → sum w (cond x (e ∷ here q es) (here q es)) ≡ 0
      go false y u v ih = ih
      go true true u v ih = omega (arith, light e v)
      go true false u v ih =
          absurd
          (true_false (clear p m e) (and_parts (clear p m e) (every (clear p m) es) t).0
          (rw (v, lt-ltb p e.at (omega (arith, eqb-true e.at q u)), lt-ltb e.at (p + m) (omega (arith, eqb-true e.at q u)))))

  -- behind the list
  bare-behind : (len n : ℕ) (es xs : List Edit) → every (fine len n es) xs ≡ true → sum w (from (len + 1) xs) ≡ 0
  unfolding sum from every Light
  bare-behind len n es [] t = refl
  bare-behind len n es (e ∷ xs) t = go (leb (len + 1) e.at) (dropped e) refl refl (bare-behind len n es xs (and_parts (fine len n es e) (every (fine len n es) xs) t).1)
    where
      go : (x y : Bool) → leb (len + 1) e.at ≡ x → dropped e ≡ y → sum w (from (len + 1) xs) ≡ 0 → sum w (cond x (e ∷ from (len + 1) xs) (from (len + 1) xs)) ≡ 0
      go false y u v ih = ih
      go true true u v ih = omega (arith, light e v)
      go true false u v ih =
          absurd
          (omega (arith, stretch_in len n es e.at (fine-stretch len n es e v (and_parts (fine len n es e) (every (fine len n es) xs) t).0), leb-true (len + 1) e.at u))

-- ## The result, position by position

length-added : (pool so : List Event) (g : List Edit) → length (added pool so g) ≡ length so + sum (λ e. length (addition pool e)) g
unfolding added sum
length-added pool so [] = omega arith
length-added pool so (e ∷ g) = go (eqb e.before 0) (λ x. length-added pool x g)
  where
    go : (b : Bool) → ((x : List Event) → length (added pool x g) ≡ length x + sum (λ e. length (addition pool e)) g)
        → length (added pool (cond b (so ++ addition pool e) (addition pool e ++ so)) g) ≡ length so + (length (addition pool e) + sum (λ e. length (addition pool e)) g)
    go true ih = omega (arith, ih (so ++ addition pool e), length-append so (addition pool e))
    go false ih = omega (arith, ih (addition pool e ++ so), length-append (addition pool e) so)

module _ (len n : ℕ) (es : List Edit) (fit : edits_fit len n es ≡ true) (pool : List Event) where
  removes_from : ℕ → ℕ
  removes_from p = sum (λ e. e.removes) (from p es)

  adds-from : ℕ → ℕ
  adds-from p = sum (λ e. length (addition pool e)) (from p es)

  adds-here : ℕ → ℕ
  adds-here p = sum (λ e. length (addition pool e)) (here p es)

  -- no edit counts at q
  Bare : ℕ → Type 0
  Bare q = (removed_at es q ≡ 0) × (adds-here q ≡ 0)

  removes_split : (p : ℕ) → removes_from p ≡ removed_at es p + removes_from (p + 1)
  unfolding removes_from
  removes_split p = sum-split (λ e. e.removes) p es ∙ rw (← (removed-sum (here p es)))

  adds-split : (p : ℕ) → adds-from p ≡ adds-here p + adds-from (p + 1)
  unfolding adds-from adds-here
  adds-split p = sum-split (λ e. length (addition pool e)) p es

  length-here : (p : ℕ) → length (added pool [] (here p es)) ≡ adds-here p
  unfolding adds-here
  length-here p = length-added pool [] (here p es) ∙ omega arith

  bare-stretch : (p q : ℕ) → stretch len es p ≡ true → p < q → q < p + removed_at es p → Bare q
  unfolding Bare adds-here
  bare-stretch p q s a b =
      let t = (and_parts (leb (p + removed_at es p) len) (every (clear p (removed_at es p)) es) s).1 in (
        removed-sum (here q es) ∙ bare-inside (λ e. e.removes) light_removes p (removed_at es p) q es t a b,
        bare-inside (λ e. length (addition pool e)) (light_adds pool) p (removed_at es p) q es t a b,
      )

  none-behind : (removes_from (len + 1) ≡ 0) × (adds-from (len + 1) ≡ 0)
  unfolding removes_from adds-from
  none-behind = (bare-behind (λ e. e.removes) light_removes len n es es fit, bare-behind (λ e. length (addition pool e)) (light_adds pool) len n es es fit)

  -- what is counted of the positions from p on
  Counts : ℕ → ℕ → List Event → Type 0
  Counts p g zs = length (edited pool es p g zs) + (g + removes_from p) ≡ length zs + adds-from p

  counted : (zs : List Event) (p g : ℕ) → p + length zs ≡ len → g ≤ length zs → ((q : ℕ) → p ≤ q → q < p + g → Bare q) → Counts p g zs
  unfolding edited Counts Bare
  counted [] p g e h bare =
      let z = fit-removed len n es fit p (omega arith) in
      let b = none-behind in
      let at : p + 1 ≡ len + 1 = omega arith in
      omega (arith, length-here p, removes_split p, adds-split p, ap removes_from at, ap adds-from at)
  counted (z ∷ zs) p zero e h bare = go (eqb (removed_at es p) 0) refl (λ m l b. counted zs (p + 1) m (omega arith) l b)
    where
      go : (b : Bool) → eqb (removed_at es p) 0 ≡ b
          → ((m : ℕ) → m ≤ length zs → ((q : ℕ) → p + 1 ≤ q → q < p + 1 + m → Bare q) → Counts (p + 1) m zs)
          → length (added pool [] (here p es) ++ cond b (z ∷ edited pool es (p + 1) 0 zs) (edited pool es (p + 1) (removed_at es p - 1) zs)) + (0 + removes_from p) ≡ suc (length zs) + adds-from p
      go true t ih =
          omega (
            arith,
            length-append (added pool [] (here p es)) (z ∷ edited pool es (p + 1) 0 zs),
            length-here p,
            removes_split p,
            adds-split p,
            eqb-true (removed_at es p) 0 t,
            ih 0 (omega arith) (λ q x y. absurd (omega arith)),
          )
      go false t ih =
          let some = eqb-false (removed_at es p) 0 t in
          let s : stretch len es p ≡ true = ⊎_elim (λ x. absurd (some x)) (λ x. x) (fit-stretch len n es fit p) in
          omega (
            arith,
            length-append (added pool [] (here p es)) (edited pool es (p + 1) (removed_at es p - 1) zs),
            length-here p,
            removes_split p,
            adds-split p,
            ih (removed_at es p - 1) (omega (arith, stretch_in len n es p s)) (λ q x y. bare-stretch p q s (omega arith) (omega arith)),
          )
  counted (z ∷ zs) p (suc g) e h bare =
      let b = bare p (le_refl p) (omega arith) in
      omega
      (arith, removes_split p, adds-split p, counted zs (p + 1) g (omega arith) (le_of_suc-le-suc h) (λ q x y. bare q (omega arith) (omega arith)))

  counted-all : (list : List Event) → length list ≡ len → length (edited_list list pool es) + removed es ≡ len + sum (λ e. length (addition pool e)) es
  unfolding Counts removes_from adds-from
  counted-all list e =
      omega (
        arith,
        counted list 0 0 (omega arith) (omega arith) (λ q x y. absurd (omega arith)),
        sum_from_zero (λ e. e.removes) es,
        removed-sum es,
        sum_from_zero (λ e. length (addition pool e)) es,
      )

-- ## Question 12

sum-empty : (es : List Edit) → sum (λ e. length (addition [] e)) es ≡ 0
unfolding sum
sum-empty [] = refl
sum-empty (e ∷ es) = omega (arith, sum-empty es, length-take {A = Event} e.adds (drop e.from []), length-drop {A = Event} e.from [])

length-addition : (pool : List Event) (e : Edit) → (0 < e.adds → e.from + e.adds ≤ length pool) → length (addition pool e) ≡ e.adds
length-addition pool e h = go (eqb e.adds 0) refl
  where
    go : (b : Bool) → eqb e.adds 0 ≡ b → length (addition pool e) ≡ e.adds
    go true t = omega (arith, eqb-true e.adds 0 t, length-take e.adds (drop e.from pool))
    go false t =
        let z = eqb-false e.adds 0 t in
        omega (arith, h (omega arith), length-take e.adds (drop e.from pool), length-drop e.from pool)

sum-adds : (len n : ℕ) (es xs : List Edit) (pool : List Event) → length pool ≡ n → every (fine len n es) xs ≡ true → sum (λ e. length (addition pool e)) xs ≡ adding xs
unfolding sum adding every
sum-adds len n es [] pool l t = refl
sum-adds len n es (e ∷ xs) pool l t =
    let f = (and_parts (fine len n es e) (every (fine len n es) xs) t).0 in
    omega
    (arith, sum-adds len n es xs pool l (and_parts (fine len n es e) (every (fine len n es) xs) t).1, length-addition pool e (λ h. rw l (fine_pool len n es e h f)))

module _ (len n : ℕ) (es : List Edit) (fit : edits_fit len n es ≡ true) where
  -- what is removed was there
  pub removed-fits : removed es ≤ len
  removed-fits = omega (arith, counted-all len n es fit [] (replicate len blank_event) (length-replicate len blank_event), sum-empty es)

  pub result_count_lem : (list pool : List Event) → length list ≡ len → length pool ≡ n → length (edited_list list pool es) ≡ result_count len es
  result_count_lem list pool e l = omega (arith, counted-all len n es fit pool list e, sum-adds len n es es pool l fit, removed-fits)

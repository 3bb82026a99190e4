-- Among edits that rise, question 11 needs to look at each edit only once.
-- Assumes nothing.
use Prim.Native.Nat.{ℕ, zero, suc, ◌+◌, ◌≤◌, ◌<◌}
use mathlib.Core.Path.{◌≡◌, refl, ap, ap₂, sym, ◌∙◌, subst}
use mathlib.Core.List.{List, [], ◌∷◌, map, map-map}
use mathlib.Core.Bool.{Bool, true, false, true≢false, cond, ◌&&◌, not}
use Rattle.std.specs.Prelude.{Option, Some, None}
use native.Mathlib.Omega.{arith}
use native.Mathlib.Nat.{le_refl, le_trans, zero-add}
use lib.Dec.{eqb, leb, ltb}
use borrow.Author.Tests.{tests, eqb-true, eqb-false, leb-true, leb-false, eq-eqb, ne_eqb, le-leb, lt-leb, lt-ltb, le-ltb}
use lib.ListN.{length, get_or}
use Rattle.std.specs.List.{IsAllAdjacentAnswer}
use Rattle.std.specs.Ordering.{is_le, nat_cmp}
use Rattle.std.specs.Option.{is_some}
use Rattle.std.proofs.lemmas.Map.Keys.{le_from_is_le}
use Rattle.edit_order.specs.declared.edit_slots.Edit.{Edit}
use Rattle.edit_order.specs.declared.edit_fits.Extent.{Extent}
use Rattle.edit_order.specs.Edits.{here, removed, removed_at, every, clear, in_pool, stretch, dropped, fine, edits_fit}
use Rattle.edit_order.specs.EditOrder.{Rises}
use Rattle.edit_order.specs.EditFives.{edit_of}
use Rattle.edit_order.specs.EditReach.{to, within, reached}
use Rattle.edit_order.proofs.EditOrder.{here-below, rises-from}
use Rattle.edit_order.proofs.EditSorted.{every_ext}
use Rattle.edit_order.proofs.EditFolding.{through}
use Rattle.edit_order.proofs.EditPassing.{own, own-cons}
use Rattle.std.proofs.lemmas.Bool.{and_parts}
use Rattle.std.proofs.Math.Bool.{and-false, and-true, or-true, and_self_left}

-- ## Clear of a stretch

module _ (e : Edit) (p n : ℕ) where
  clear-low : e.at ≤ p → clear p n e ≡ true
  clear-low h = rw (le-ltb p e.at h) (or-true (dropped e))

  clear-high : dropped e ≡ false → p < e.at → leb (p + n) e.at ≡ clear p n e
  clear-high d h = rw (d, lt-ltb p e.at h) (go (leb (p + n) e.at) refl)
    where
      go : (t : Bool) → leb (p + n) e.at ≡ t → t ≡ not (ltb e.at (p + n))
      go true x = sym (rw (le-ltb e.at (p + n) (leb-true (p + n) e.at x)))
      go false x = sym (rw (lt-ltb e.at (p + n) (leb-false (p + n) e.at x)))

-- ## Edit by edit

-- the edits behind: whether all of them fit
unfoldable pub onward : ℕ → ℕ → List Edit → Option Extent → Bool
onward len n [] None = false
onward len n [] (Some r) = true
onward len n (e ∷ es) None = false
onward len n (e ∷ es) (Some r) = onward len n es (reached len n r e)

refused : (len n : ℕ) (es : List Edit) → onward len n es None ≡ false
unfolding onward
refused len n [] = refl
refused len n (e ∷ es) = refl

-- ## What an edit in front changes

removed-cons : (q : ℕ) (e : Edit) (es : List Edit) → removed_at (e ∷ es) q ≡ own q e + removed_at es q
removed-cons q e es = own-cons q e es

own-here : (q : ℕ) (e : Edit) → e.at ≡ q → own q e ≡ e.removes
own-here q e h = rw (eq-eqb e.at q h)

own_else : (q : ℕ) (e : Edit) → (e.at ≡ q → ⊥) → own q e ≡ 0
own_else q e h = rw (ne_eqb e.at q h)

own-dropped : (q : ℕ) (e : Edit) → dropped e ≡ true → own q e ≡ 0
own-dropped q e d = go (eqb e.at q)
  where
    go : (b : Bool) → cond b e.removes 0 ≡ 0
    go true = eqb-true e.removes 0 (and_parts (eqb e.removes 0) (eqb e.adds 0) d).0
    go false = refl

-- two lists of edits with the same stretches ask the same of every edit
module _ (len n : ℕ) (ys zs : List Edit) where
  fine-same : (f : Edit) → stretch len ys f.at ≡ stretch len zs f.at → fine len n ys f ≡ fine len n zs f
  fine-same f s = rw s

  every-same : (xs : List Edit) → ((q : ℕ) → stretch len ys q ≡ stretch len zs q) → every (fine len n ys) xs ≡ every (fine len n zs) xs
  every-same xs s = every_ext xs (λ f. fine-same f (s f.at))

  -- and of edits from position r on, where the stretches from there on are the same
  every-above : (r : ℕ) (xs : List Edit) → Rises r xs → ((q : ℕ) → r ≤ q → stretch len ys q ≡ stretch len zs q) → every (fine len n ys) xs ≡ every (fine len n zs) xs
  unfolding every
  every-above r [] a s = refl
  every-above r (x ∷ xs) a s =
      ap₂ ◌&&◌ (fine-same x (s x.at a.0)) (every-above x.at xs a.1 (λ q h. s q (le_trans a.0 h)))

-- lists of edits that remove the same at q, and are clear alike
stretch-same : (len q : ℕ) (ys zs : List Edit) → removed_at ys q ≡ removed_at zs q → ((k : ℕ) → every (clear q k) ys ≡ every (clear q k) zs) → stretch len ys q ≡ stretch len zs q
stretch-same len q ys zs a b = rw (a, b (removed_at zs q))

-- a dropped edit changes nothing
stretch-dropped : (len q : ℕ) (e : Edit) (es : List Edit) → dropped e ≡ true → stretch len (e ∷ es) q ≡ stretch len es q
unfolding every
stretch-dropped len q e es d =
    stretch-same len q (e ∷ es) es (removed-cons q e es ∙ rw (own-dropped q e d) (zero-add (removed_at es q))) (λ k. rw d)

stretch_under : (len q : ℕ) (v : Edit) (ys zs : List Edit) → ((k : ℕ) → every (clear q k) ys ≡ every (clear q k) zs) → removed_at ys q ≡ removed_at zs q
    → stretch len (v ∷ ys) q ≡ stretch len (v ∷ zs) q
unfolding every
stretch_under len q v ys zs a b =
    stretch-same len q (v ∷ ys) (v ∷ zs) (removed-cons q v ys ∙ rw b (sym (removed-cons q v zs))) (λ k. ap (λ (x : Bool). clear q k v && x) (a k))

-- an edit of an earlier position changes nothing at q
stretch_earlier : (len q : ℕ) (v : Edit) (es : List Edit) → v.at < q → stretch len (v ∷ es) q ≡ stretch len es q
unfolding every
stretch_earlier len q v es h =
    stretch-same len q (v ∷ es) es (removed-cons q v es ∙ rw (own_else q v (omega arith)) (zero-add (removed_at es q))) (λ k. rw (clear-low v q k (omega arith)))

-- ## One edit more

-- edits behind the stretch are clear of it
clear_behind : (p m r : ℕ) (es : List Edit) → p + m ≤ r → Rises r es → every (clear p m) es ≡ true
unfolding every
clear_behind p m r [] h a = refl
clear_behind p m r (e ∷ es) h a = rw (own-clear, clear_behind p m e.at es (omega (arith, a.0)) a.1)
  where
    own-clear : clear p m e ≡ true
    own-clear = rw (le-ltb e.at (p + m) (omega (arith, a.0)), and-false (ltb p e.at)) (or-true (dropped e))

removed-none : (p : ℕ) (es : List Edit) → here p es ≡ [] → removed_at es p ≡ 0
unfolding removed
removed-none p es h = rw h

every-cons : (f : Edit → Bool) (e : Edit) (es : List Edit) → every f (e ∷ es) ≡ f e && every f es
unfolding every
every-cons f e es = refl

every_skip : (f : Edit → Bool) (e : Edit) (es : List Edit) → f e ≡ true → every f (e ∷ es) ≡ every f es
unfolding every
every_skip f e es h = rw h

every-no : (f : Edit → Bool) (e : Edit) (es : List Edit) → f e ≡ false → every f (e ∷ es) ≡ false
unfolding every
every-no f e es h = rw h

module _ (len n : ℕ) where
  fine_unpooled : (all : List Edit) (e : Edit) → dropped e ≡ false → in_pool n e ≡ false → fine len n all e ≡ false
  fine_unpooled all e d x = rw (d, x) (and-false (stretch len all e.at))

  fine-past : (all : List Edit) (e : Edit) → dropped e ≡ false → len < e.at + removed_at all e.at → fine len n all e ≡ false
  fine-past all e d h = rw (d, lt-leb (e.at + removed_at all e.at) len h)

  fine_pooled : (all : List Edit) (e : Edit) → dropped e ≡ false → in_pool n e ≡ true → fine len n all e ≡ stretch len all e.at
  fine_pooled all e d x = rw (d, x) (and-true (stretch len all e.at))

  fine-dropped : (all : List Edit) (e : Edit) → dropped e ≡ true → fine len n all e ≡ true
  fine-dropped all e d = rw d

  pub reached-dropped : (p stop : ℕ) (e : Edit) → dropped e ≡ true → reached len n (to p stop) e ≡ Some (to p stop)
  reached-dropped p stop e d = rw d

  reached-same : (p stop : ℕ) (e : Edit) → dropped e ≡ false → e.at ≡ p → reached len n (to p stop) e ≡ cond (in_pool n e) (within len p (stop + e.removes)) None
  reached-same p stop e d h = rw (d, eq-eqb e.at p h)

  reached-later : (p stop : ℕ) (e : Edit) → dropped e ≡ false → (e.at ≡ p → ⊥)
      → reached len n (to p stop) e ≡ cond (in_pool n e) (cond (leb stop e.at) (within len e.at (e.at + e.removes)) None) None
  reached-later p stop e d h = rw (d, ne_eqb e.at p h)

  cond_onward : (b : Bool) (es : List Edit) (x : Option Extent) → cond b (onward len n es x) false ≡ onward len n es (cond b x None)
  cond_onward true es x = refl
  cond_onward false es x = sym (refused len n es)

  stretch-past : (all : List Edit) (p : ℕ) → len < p + removed_at all p → stretch len all p ≡ false
  stretch-past all p h = rw (lt-leb (p + removed_at all p) len h)

  -- what is shown of an edit w and of the edits es behind it
  Meets : Edit → List Edit → Type 0
  Meets w es = every (fine len n (w ∷ es)) (w ∷ es) ≡ onward len n es (Some (to w.at (w.at + w.removes)))

  -- an edit that is not dropped begins a group
  begins : (e : Edit) (es : List Edit) → dropped e ≡ false → (in_pool n e ≡ true → e.at + e.removes ≤ len → Meets e es)
      → every (fine len n (e ∷ es)) (e ∷ es) ≡ cond (in_pool n e) (onward len n es (within len e.at (e.at + e.removes))) false
  unfolding Meets
  begins e es d ih = go (in_pool n e) (leb (e.at + e.removes) len) refl refl
    where
      past : e.at + e.removes ≤ e.at + removed_at (e ∷ es) e.at
      past = omega (arith, removed-cons e.at e es, own-here e.at e refl)

      go : (a b : Bool) → in_pool n e ≡ a → leb (e.at + e.removes) len ≡ b
          → every (fine len n (e ∷ es)) (e ∷ es) ≡ cond a (onward len n es (cond b (Some (to e.at (e.at + e.removes))) None)) false
      go false b x y = every-no (fine len n (e ∷ es)) e es (fine_unpooled (e ∷ es) e d x)
      go true true x y = ih x (leb-true (e.at + e.removes) len y)
      go true false x y =
          every-no (fine len n (e ∷ es)) e es (fine-past (e ∷ es) e d (omega (arith, past, leb-false (e.at + e.removes) len y))) ∙ sym (refused len n es)

  -- an edit of a later position
  first-stretch : (v e : Edit) (es : List Edit) → dropped e ≡ false → v.at + v.removes ≤ len → v.at < e.at → Rises e.at es
      → stretch len (v ∷ e ∷ es) v.at ≡ leb (v.at + v.removes) e.at
  unfolding every
  first-stretch v e es d h l r =
      ap (λ (m : ℕ). leb (v.at + m) len && every (clear v.at m) (v ∷ e ∷ es)) all-removed
      ∙ rw (le-leb (v.at + v.removes) len h, clear-low v v.at v.removes (le_refl v.at), ← (clear-high e v.at v.removes d l))
      (go (leb (v.at + v.removes) e.at) refl)
    where
      all-removed : removed_at (v ∷ e ∷ es) v.at ≡ v.removes
      all-removed =
          omega
          (arith, removed-cons v.at v (e ∷ es), own-here v.at v refl, removed-none v.at (e ∷ es) (here-below {q = e.at} (e ∷ es) l (le_refl e.at, r)))

      go : (b : Bool) → leb (v.at + v.removes) e.at ≡ b → b && every (clear v.at v.removes) es ≡ b
      go true x = clear_behind v.at v.removes e.at es (leb-true (v.at + v.removes) e.at x) r
      go false x = refl

  goes_later : (v e : Edit) (es : List Edit) → dropped v ≡ false → in_pool n v ≡ true → v.at + v.removes ≤ len → dropped e ≡ false → v.at < e.at → Rises e.at es
      → (in_pool n e ≡ true → e.at + e.removes ≤ len → Meets e es)
      → every (fine len n (v ∷ e ∷ es)) (v ∷ e ∷ es) ≡ onward len n es (reached len n (to v.at (v.at + v.removes)) e)
  goes_later v e es dv pv h d l r ih =
      every-cons (fine len n (v ∷ e ∷ es)) v (e ∷ es)
      ∙ ap₂ ◌&&◌
      (fine_pooled (v ∷ e ∷ es) v dv pv ∙ first-stretch v e es d h l r)
      (every-above len n (v ∷ e ∷ es) (e ∷ es) e.at (e ∷ es) (le_refl e.at, r) (λ q m. stretch_earlier len q v (e ∷ es) (omega arith)) ∙ begins e es d ih)
      ∙ go (leb (v.at + v.removes) e.at) (in_pool n e)
      ∙ ap (onward len n es) (sym (reached-later v.at (v.at + v.removes) e d (omega arith)))
    where
      go : (a b : Bool) → a && cond b (onward len n es (within len e.at (e.at + e.removes))) false
          ≡ onward len n es (cond b (cond a (within len e.at (e.at + e.removes)) None) None)
      go true true = refl
      go true false = sym (refused len n es)
      go false true = sym (refused len n es)
      go false false = sym (refused len n es)

  -- an edit of the same position: the two are one
  merged : Edit → Edit → Edit
  merged v e = record { at = v.at; removes = v.removes + e.removes; from = v.from; adds = v.adds; before = v.before }

  merged_live : (v e : Edit) → dropped v ≡ false → dropped (merged v e) ≡ false
  unfolding merged
  merged_live v e d = go (eqb v.adds 0) (eqb v.removes 0) refl refl d
    where
      go : (a b : Bool) → eqb v.adds 0 ≡ a → eqb v.removes 0 ≡ b → b && a ≡ false → eqb (v.removes + e.removes) 0 && a ≡ false
      go false b x y z = and-false (eqb (v.removes + e.removes) 0)
      go true false x y z = let some = eqb-false v.removes 0 y in rw (ne_eqb (v.removes + e.removes) 0 (omega arith))
      go true true x y z = let w : lib.Dec.T false = subst lib.Dec.T z tt in absurd w

  merged_stretch : (v e : Edit) (es : List Edit) → dropped v ≡ false → dropped e ≡ false → e.at ≡ v.at → (q : ℕ) → stretch len (v ∷ e ∷ es) q ≡ stretch len (merged v e ∷ es) q
  unfolding every merged
  merged_stretch v e es dv d s q = stretch-same len q (v ∷ e ∷ es) (merged v e ∷ es) sums clears
    where
      sums : removed_at (v ∷ e ∷ es) q ≡ removed_at (merged v e ∷ es) q
      sums = go (eqb v.at q) refl
        where
          go : (b : Bool) → eqb v.at q ≡ b → removed_at (v ∷ e ∷ es) q ≡ removed_at (merged v e ∷ es) q
          go true x =
              let o = eqb-true v.at q x in
              omega
              (arith, removed-cons q v (e ∷ es), removed-cons q e es, removed-cons q (merged v e) es, own-here q v o, own-here q e (s ∙ o), own-here q (merged v e) o)
          go false x =
              let o = eqb-false v.at q x in
              omega
              (arith, removed-cons q v (e ∷ es), removed-cons q e es, removed-cons q (merged v e) es, own_else q v o, own_else q e (λ y. o (sym s ∙ y)), own_else q (merged v e) o)

      clears : (k : ℕ) → every (clear q k) (v ∷ e ∷ es) ≡ every (clear q k) (merged v e ∷ es)
      clears k = rw (dv, d, merged_live v e dv, s) (and_self_left (not (ltb q v.at && ltb v.at (q + k))) (every (clear q k) es))

  goes_same : (v e : Edit) (es : List Edit) → dropped v ≡ false → in_pool n v ≡ true → dropped e ≡ false → e.at ≡ v.at
      → (v.at + (v.removes + e.removes) ≤ len → Meets (merged v e) es)
      → every (fine len n (v ∷ e ∷ es)) (v ∷ e ∷ es) ≡ onward len n es (reached len n (to v.at (v.at + v.removes)) e)
  unfolding Meets merged
  goes_same v e es dv pv d s ih =
      every-same len n (v ∷ e ∷ es) (w ∷ es) (v ∷ e ∷ es) (merged_stretch v e es dv d s)
      ∙ every-cons (fine len n (w ∷ es)) v (e ∷ es)
      ∙ ap₂ ◌&&◌ (fine_pooled (w ∷ es) v dv pv) (every-cons (fine len n (w ∷ es)) e es)
      ∙ go (in_pool n e) (leb (v.at + v.removes + e.removes) len) refl refl
      ∙ ap (onward len n es) (sym (reached-same v.at (v.at + v.removes) e d s))
    where
      w : Edit
      w = merged v e

      both : stretch len (w ∷ es) v.at && every (fine len n (w ∷ es)) es ≡ every (fine len n (w ∷ es)) (w ∷ es)
      both = sym (every-cons (fine len n (w ∷ es)) w es ∙ ap (λ (t : Bool). t && every (fine len n (w ∷ es)) es) (fine_pooled (w ∷ es) w (merged_live v e dv) pv))

      far : v.at + v.removes + e.removes ≡ v.at + (v.removes + e.removes)
      far = omega arith

      go : (a b : Bool) → in_pool n e ≡ a → leb (v.at + v.removes + e.removes) len ≡ b
          → stretch len (w ∷ es) v.at && (fine len n (w ∷ es) e && every (fine len n (w ∷ es)) es)
          ≡ onward len n es (cond a (cond b (Some (to v.at (v.at + v.removes + e.removes))) None) None)
      go false b x y = rw (fine_unpooled (w ∷ es) e d x) (and-false (stretch len (w ∷ es) v.at) ∙ sym (refused len n es))
      go true b x y =
          rw (fine_pooled (w ∷ es) e d x, s)
          (and_self_left (stretch len (w ∷ es) v.at) (every (fine len n (w ∷ es)) es) ∙ on b y)
        where
          on : (b : Bool) → leb (v.at + v.removes + e.removes) len ≡ b
              → stretch len (w ∷ es) v.at && every (fine len n (w ∷ es)) es ≡ onward len n es (cond b (Some (to v.at (v.at + v.removes + e.removes))) None)
          on true z = both ∙ ih (rw far at (leb-true (v.at + v.removes + e.removes) len z)) ∙ rw far
          on false z =
              rw (stretch-past (w ∷ es) v.at (omega (arith, leb-false (v.at + v.removes + e.removes) len z, removed-cons v.at w es, own-here v.at w refl)))
              (sym (refused len n es))

  -- a dropped edit
  goes_dropped : (v e : Edit) (es : List Edit) → dropped e ≡ true → Meets v es → every (fine len n (v ∷ e ∷ es)) (v ∷ e ∷ es) ≡ onward len n es (reached len n (to v.at (v.at + v.removes)) e)
  unfolding Meets
  goes_dropped v e es d ih =
      every-same len n (v ∷ e ∷ es) (v ∷ es) (v ∷ e ∷ es) under
      ∙ every-cons (fine len n (v ∷ es)) v (e ∷ es)
      ∙ ap (λ (t : Bool). fine len n (v ∷ es) v && t) (every_skip (fine len n (v ∷ es)) e es (fine-dropped (v ∷ es) e d))
      ∙ sym (every-cons (fine len n (v ∷ es)) v es)
      ∙ ih
      ∙ ap (onward len n es) (sym (reached-dropped v.at (v.at + v.removes) e d))
    where
      under : (q : ℕ) → stretch len (v ∷ e ∷ es) q ≡ stretch len (v ∷ es) q
      under q =
          stretch_under len q v (e ∷ es) es (λ k. every_skip (clear q k) e es (rw d)) (removed-cons q e es ∙ rw (own-dropped q e d) (zero-add (removed_at es q)))

  alone : (v : Edit) → dropped v ≡ false → in_pool n v ≡ true → v.at + v.removes ≤ len → Meets v []
  unfolding Meets every onward here removed
  alone v dv pv h =
      rw (dv, pv, eq-eqb v.at v.at refl, le-leb (v.at + (v.removes + 0)) len (omega arith), le-ltb v.at v.at (le_refl v.at))

  -- ## Edit by edit

  onward_live : (es : List Edit) (v : Edit) → dropped v ≡ false → in_pool n v ≡ true → v.at + v.removes ≤ len → Rises v.at es → Meets v es
  unfolding Meets onward merged
  onward_live [] v dv pv h r = alone v dv pv h
  onward_live (e ∷ es) v dv pv h r = go (dropped e) (eqb e.at v.at) refl refl (onward_live es)
    where
      go : (a b : Bool) → dropped e ≡ a → eqb e.at v.at ≡ b
          → ((w : Edit) → dropped w ≡ false → in_pool n w ≡ true → w.at + w.removes ≤ len → Rises w.at es → Meets w es) → Meets v (e ∷ es)
      go true b d x ih = goes_dropped v e es d (ih v dv pv h (rises-from es r.0 r.1))
      go false true d x ih =
          let s = eqb-true e.at v.at x in
          goes_same v e es dv pv d s (λ l. ih (merged v e) (merged_live v e dv) pv l (rw s at r).1)
      go false false d x ih =
          let s = eqb-false e.at v.at x in
          goes_later v e es dv pv h d (omega (arith, r.0)) r.1 (λ p l. ih e d p l r.1)

  first : (e : Edit) (es : List Edit) → Rises e.at es → edits_fit len n es ≡ onward len n es (Some (to 0 0)) → edits_fit len n (e ∷ es) ≡ onward len n es (reached len n (to 0 0) e)
  first e es r ih = go (dropped e) (eqb e.at 0) refl refl
    where
      begun : dropped e ≡ false → edits_fit len n (e ∷ es) ≡ onward len n es (cond (in_pool n e) (within len e.at (e.at + e.removes)) None)
      begun d = begins e es d (λ p l. onward_live es e d p l r) ∙ cond_onward (in_pool n e) es (within len e.at (e.at + e.removes))

      go : (a b : Bool) → dropped e ≡ a → eqb e.at 0 ≡ b → edits_fit len n (e ∷ es) ≡ onward len n es (reached len n (to 0 0) e)
      go true b d x =
          every-same len n (e ∷ es) es (e ∷ es) (λ q. stretch-dropped len q e es d)
          ∙ every_skip (fine len n es) e es (fine-dropped es e d)
          ∙ ih
          ∙ ap (onward len n es) (sym (reached-dropped 0 0 e d))
      go false true d x = let s = eqb-true e.at 0 x in begun d ∙ ap (onward len n es) (sym (reached-same 0 0 e d s ∙ rw s))
      go false false d x =
          begun d ∙ ap (onward len n es) (sym (reached-later 0 0 e d (eqb-false e.at 0 x) ∙ rw (le-leb 0 e.at (omega arith))))

  pub rising_fits : (es : List Edit) → Rises 0 es → edits_fit len n es ≡ onward len n es (Some (to 0 0))
  unfolding every onward
  rising_fits [] r = refl
  rising_fits (e ∷ es) r = first e es r.1 (rising_fits es (rises-from es (omega arith) r.1))

-- edits made anew where they stand rise as before
pub rises-map : (f : Edit → Edit) → ((e : Edit) → (f e).at ≡ e.at) → (p : ℕ) (es : List Edit) → Rises p es → Rises p (map f es)
rises-map f k p [] r = tt
rises-map f k p (e ∷ es) r = rw (k e) (r.0, rises-map f k e.at es r.1)

-- ## The fold of `in_order`

onward-through : (len n : ℕ) (made : List ℕ → Edit) (gs : List (List ℕ)) (o : Option Extent) → is_some (through (λ r x. reached len n r (made x)) gs o) ≡ onward len n (map made gs) o
unfolding through onward
onward-through len n made [] None = refl
onward-through len n made [] (Some r) = refl
onward-through len n made (x ∷ gs) None = refl
onward-through len n made (x ∷ gs) (Some r) = onward-through len n made gs (reached len n r (made x))

-- over groups that are edits which rise, each made anew
pub fits_anew : (f : Edit → Edit) → ((e : Edit) → (f e).at ≡ e.at) → (len n : ℕ) (gs : List (List ℕ)) (es : List Edit) → map edit_of gs ≡ es → Rises 0 es
    → is_some (through (λ r x. reached len n r (f (edit_of x))) gs (Some (to 0 0))) ≡ edits_fit len n (map f es)
fits_anew f same len n gs es h r =
    onward-through len n (λ x. f (edit_of x)) gs (Some (to 0 0))
    ∙ ap (λ (l : List Edit). onward len n l (Some (to 0 0))) (sym (map-map f edit_of gs) ∙ ap (map f) h)
    ∙ sym (rising_fits len n (map f es) (rises-map f same 0 es r))

-- ## The test of `rising`

-- a group's position
abbrev pub position : List ℕ → ℕ
position g = (edit_of g).at

-- each position is at most the next
abbrev Tested : List (List ℕ) → Bool → Type 0
Tested gs r = IsAllAdjacentAnswer (λ x y b. b ≡ is_le (nat_cmp (position x) (position y))) gs r

le-is_le : (a b : ℕ) → a ≤ b → is_le (nat_cmp a b) ≡ true
le-is_le a b h = grind (arith, tests)

rises-on : (g : List ℕ) (gs : List (List ℕ)) → Tested (g ∷ gs) true → Rises (position g) (map edit_of gs)
rises-on g [] a = tt
rises-on g (x ∷ gs) a =
    (le_from_is_le (position g) (position x) (sym (a 0 [] (omega arith))), rises-on x gs (λ k d h. let next : suc k + 1 ≡ suc (k + 1) = omega arith in rw next at (a (suc k) d (omega (arith, h)))))

falls : (k : ℕ) (g : List ℕ) (gs : List (List ℕ)) → k + 1 < length (g ∷ gs)
    → ((d : List ℕ) → false ≡ is_le (nat_cmp (position (get_or (g ∷ gs) k d)) (position (get_or (g ∷ gs) (k + 1) d)))) → Rises (position g) (map edit_of gs) → ⊥
falls k g [] h a r = omega (arith, h)
falls zero g (x ∷ gs) h a r = true≢false (sym (le-is_le (position g) (position x) r.0) ∙ sym (a []))
falls (suc k) g (x ∷ gs) h a r =
    let next : suc k + 1 ≡ suc (k + 1) = omega arith in
    falls k x gs (omega (arith, h)) (λ d. rw next at (a d)) r.1

tested : (gs : List (List ℕ)) (r : Bool) → Tested gs r → (r ≡ true → Rises 0 (map edit_of gs)) × (Rises 0 (map edit_of gs) → r ≡ true)
tested [] true a = (λ t. tt, λ x. refl)
tested [] false a = absurd (omega (arith, a.1))
tested (g ∷ gs) true a = (λ t. (omega arith, rises-on g gs a), λ x. refl)
tested (g ∷ gs) false a = (λ t. absurd (true≢false (sym t)), λ x. absurd (falls a.0 g gs a.1 a.2 x.1))

pub rising_is : (gs : List (List ℕ)) (es : List Edit) (r : Bool) → map edit_of gs ≡ es → Tested gs r → (r ≡ true → Rises 0 es) × (Rises 0 es → r ≡ true)
rising_is gs es r h a = rw h at (tested gs r a)

-- The state of a loop that fills a list from the left. The list is ys on entry; `gives m s` is what m more turns make of what is left, from the state s; `goal` is what the list is to be.
--     Turn             i elements are written and m are to come, from the state s, of which OK i s holds; the list is now zs, and past i it is ys
--     starts, goes_on_lem, is_done     before the first turn; after one more; where none is to come
-- Assumes nothing.
use mathlib.Core.Path.{◌≡◌, refl, sym, ◌∙◌, ap, subst}
use Prim.Native.Nat.{ℕ, suc, ◌+◌, ◌-◌, ◌≤◌, ◌<◌}
use native.Mathlib.Numerals.{add-one}
use native.Mathlib.Omega.{arith}
use mathlib.Core.WellFounded.InvImage
use mathlib.Core.WellFounded.{WellFounded}
use mathlib.Core.List.{List, [], ◌∷◌, ◌++◌, append-nil}
use lib.ListN.{length, take, drop, set, length-set}
use lib.Seq.{take_all, take-suc-set, append_snoc, drop-set-lt, drop-drop}
use lib.WfN.{lt-wf_rel}

module _ {X : Type 0} where
  -- an element is stored at i: the first i + 1 are the first i, and it
  pub take-set : (l : List X) (i : ℕ) (e : X) (r : List X) → i < length l → take i l ++ (e ∷ r) ≡ take (i + 1) (set l i e) ++ r
  take-set l i e r h = sym (rw (add-one, take-suc-set l i e h, append_snoc))

  -- two lists that agree from i on still do past an element that is stored at i
  pub kept_set : (l r : List X) (i : ℕ) (e : X) → drop i l ≡ drop i r → drop (i + 1) (set l i e) ≡ drop (i + 1) r
  kept_set l r i e same = drop-set-lt (i + 1) l i e (omega arith) ∙ sym (drop-drop 1 i l) ∙ ap (drop 1) same ∙ drop-drop 1 i r

module _ {X S : Type 0} (OK : ℕ → S → Type 0) (gives : ℕ → S → List X) (ys goal : List X) where
  pub record Turn : Type 0 where
    pub i : ℕ
    pub m : ℕ
    pub s : S
    pub zs : List X
    pub fits : OK i s
    pub len : length zs ≡ length ys
    pub left : i + m ≡ length ys
    pub kept : drop i zs ≡ drop i ys
    pub inv : goal ≡ take i zs ++ gives m s

  abbrev pub Fewer : Turn → Turn → Type 0
  Fewer a b = a.m < b.m

  pub Fewer_wf : WellFounded Fewer
  Fewer_wf = InvImage.wf (λ (t : Turn). t.m) lt-wf_rel.wf

  abbrev pub starts : (s : S) → OK 0 s → goal ≡ gives (length ys) s → Turn
  starts s ok g = record { i = 0; m = length ys; s = s; zs = ys; fits = ok; len = refl; left = omega arith; kept = refl; inv = g }

  pub some_left : (t : Turn) → t.i < length ys → t.m ≡ suc (t.m - 1)
  some_left t l = omega (arith, l, t.left)

  -- what is to come, in a turn that writes
  pub to_write : (t : Turn) → t.i < length ys → goal ≡ take t.i t.zs ++ gives (suc (t.m - 1)) t.s
  to_write t l = t.inv ∙ ap (λ (k : ℕ). take t.i t.zs ++ gives k t.s) (some_left t l)

  abbrev pub goes_on_lem : (t : Turn) → t.i < length ys → (e : X) (s' : S) → OK (t.i + 1) s' → gives (suc (t.m - 1)) t.s ≡ e ∷ gives (t.m - 1) s' → Turn
  goes_on_lem t l e s' ok g = record {
    i = t.i + 1;
    m = t.m - 1;
    s = s';
    zs = set t.zs t.i e;
    fits = ok;
    len = length-set t.zs t.i e ∙ t.len;
    left = omega (arith, l, t.left);
    kept = kept_set t.zs ys t.i e t.kept;
    inv = to_write t l ∙ ap {B = List X} (λ r. take t.i t.zs ++ r) g ∙ take-set t.zs t.i e (gives (t.m - 1) s') (subst (λ (k : ℕ). t.i < k) (sym t.len) l);
  }

  pub goes_on_less : (t : Turn) → t.i < length ys → t.m - 1 < t.m
  goes_on_less t l = omega (arith, l, t.left)

  pub is_done : (t : Turn) → length ys ≤ t.i → gives 0 t.s ≡ [] → t.zs ≡ goal
  is_done t over g = sym (t.inv ∙ ap (λ (k : ℕ). take t.i t.zs ++ gives k t.s) none_left ∙ ap {B = List X} (λ r. take t.i t.zs ++ r) g ∙ append-nil (take t.i t.zs) ∙ take_all t.i t.zs all_done)
    where
      none_left : t.m ≡ 0
      none_left = omega (arith, over, t.left)

      all_done : length t.zs ≤ t.i
      all_done = omega (arith, over, t.len)

-- A look ahead by a fold that breaks off is the look that the definition gives.
-- Assumes nothing.
use mathlib.Core.Path.{◌≡◌, refl, sym, ap, ◌∙◌}
use mathlib.Core.List.{List, [], ◌∷◌}
use denote.Ref.{Bor}
use denote.Param.Members.{Mut, Called}
use Rattle.std.proofs.Common.{Iter}
use Rattle.std.proofs.lemmas.Fn.{fronts}
use Rattle.std.proofs.lemmas.List.{nil_from_length}
use Rattle.std.specs.Prelude.{Option, Some, None, MatchOption}
use Rattle.std.specs.declared.ops.ControlFlow.{ControlFlow}
use Rattle.std.specs.declared.ops.ControlFlow.TheVariants.{Continue, Break}
use Rattle.std.specs.Iterator.{Yields, TryFoldTurn, TryFoldsItems}
use Rattle.std.specs.List.{FoldsTo}
use Rattle.tokenizer.specs.declared.event.Event.{Event}
use Rattle.edit_map.specs.declared.resolve_look.Look.{Look}
use Rattle.edit_map.specs.Base.{plus_of}
use Rattle.edit_map.specs.Cursors.{look_on, look_all}

abbrev Looks : Type 0
Looks = ControlFlow Look Look

-- a look, whether it goes on or not
abbrev pub either : Looks → Look
either (Continue l) = l
either (Break l) = l

-- one more record
abbrev pub looked : Look → Event → Looks
looked l e = look_on (plus_of l.count 1) l e

look_over : (l : Look) (e : Event) (es : List Event) {o : Looks} → looked l e ≡ o → look_all (Continue l) (e ∷ es) ≡ look_all o es
unfolding look_all
look_over l e es q = ap (λ (o : Looks). look_all o es) q

look_end : (l : Look) → l ≡ look_all (Continue l) []
unfolding look_all
look_end l = refl

look_off : (l : Look) (es : List Event) → l ≡ look_all (Break l) es
unfolding look_all
look_off l es = refl

-- `from` gives what goes on or breaks off, as a fold tells it
module _ {B F : Type 0} (from : ControlFlow B Look → Looks) (goes : (l : Look) → from (Continue l) ≡ Continue l) (breaks : (b : B) → from (Break b) ≡ Break (either (from (Break b))))
    (g : Mut F (Look × (Bor Event × Unit {0})) Looks) (looks : (f : F) (l : Look) (x : Bor Event) (v : Looks) (h : F) → Called g f (l, (x, tt)) v h → v ≡ looked l x.now) where
  -- the records that are looked at before it breaks off
  some-looks : (xs : List (Bor Event)) (s t : Iter Event) (f h : F) (l q : Look) → Yields fronts s xs t
      → FoldsTo {P = F × Look} (TryFoldTurn {E = B} g (λ v c. v ≡ from c)) (f, l) xs (h, q) → look_all (Continue l) s.rest.now ≡ look_all (Continue q) t.rest.now
  some-looks [] s t f h l q y c = λ i. look_all (Continue (c i).1) (y i).rest.now
  some-looks (x ∷ xs) s t f h l q y c =
      ap (look_all (Continue l)) y.1
      ∙ look_over l x.now y.0.rest.now (sym (looks f l x c.1.0 c.0.0 c.1.1) ∙ c.1.2 ∙ goes c.0.1)
      ∙ some-looks xs y.0 t c.0.0 h c.0.1 q y.2 c.2

  -- all of them, or up to one where it breaks off
  pub looked_all : (s t : Iter Event) (f : F) (l : Look) (v : Looks) → TryFoldsItems fronts g (λ u c. u ≡ from c) (λ (e : B) u. u ≡ Break (either (from (Break e)))) s f l v t → either v ≡ look_all (Continue l) s.rest.now
  looked_all s t f l v d = last d.1 d.4.2 d.6 ∙ sym (some-looks d.0 s d.4.0 f d.2 l d.3 d.4.1 d.5)
    where
      last : (o : Option (Bor Event)) → fronts d.4.0 o t → MatchOption o (v ≡ from (Continue d.3)) (λ x. (u : Looks) × (h : F) × (e : B) × Called g d.2 (d.3, (x, tt)) u h × (u ≡ from (Break e)) × (v ≡ Break (either (from (Break e))))) → either v ≡ look_all (Continue d.3) d.4.0.rest.now
      last None y m = ap either (m ∙ goes d.3) ∙ look_end d.3 ∙ ap (look_all (Continue d.3)) (sym (nil_from_length d.4.0.rest.now y.0))
      last (Some x) y m =
          ap either m.5
          ∙ look_off (either (from (Break m.2))) t.rest.now
          ∙ sym (look_over d.3 x.now t.rest.now (sym (looks d.2 d.3 x m.0 m.1 m.3) ∙ m.4 ∙ breaks m.2))
          ∙ ap (look_all (Continue d.3)) (sym y)

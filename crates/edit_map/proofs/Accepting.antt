-- A list that is read by a fold which stops is read as the definition says.
-- Assumes nothing.
use mathlib.Core.Path.{◌≡◌, sym, ap, ◌∙◌}
use mathlib.Core.List.{List, [], ◌∷◌}
use denote.Ref.{Bor}
use denote.Param.Members.{Mut, Called}
use Rattle.std.proofs.Common.{Iter}
use Rattle.std.proofs.lemmas.Fn.{fronts}
use Rattle.std.proofs.lemmas.List.{nil_from_length}
use Rattle.std.specs.Prelude.{Option, Some, None, MatchOption, option_and_then}
use Rattle.std.specs.ControlFlow.{continue_value}
use Rattle.std.specs.Iterator.{Yields, TryFoldTurn, TryFoldsItems}
use Rattle.std.specs.List.{FoldsTo}
use Rattle.tokenizer.specs.declared.event.Event.{Event}
use Rattle.edit_map.specs.declared.resolve_accept.Reading.{Reading}
use Rattle.edit_map.specs.Accept.{read_step, read_all}
use Rattle.edit_map.proofs.Parse.{read_on}

module _ {F : Type 0} (E : Type 0) (g : Mut F (Reading × (Bor Event × Unit {0})) (Option Reading))
    (reads : (f : F) (r : Reading) (x : Bor Event) (v : Option Reading) (h : F) → Called g f (r, (x, tt)) v h → v ≡ read_step r x.now) where
  -- the records that are read before it stops
  some-read : (xs : List (Bor Event)) (s t : Iter Event) (f h : F) (r q : Reading) → Yields fronts s xs t
      → FoldsTo {P = F × Reading} (TryFoldTurn {E = E} g (λ v c. v ≡ continue_value c)) (f, r) xs (h, q) → read_all r s.rest.now ≡ read_all q t.rest.now
  some-read [] s t f h r q y c = λ i. read_all (c i).1 (y i).rest.now
  some-read (x ∷ xs) s t f h r q y c =
      ap (read_all r) y.1
      ∙ read_on r x.now y.0.rest.now (sym (reads f r x c.1.0 c.0.0 c.1.1) ∙ c.1.2)
      ∙ some-read xs y.0 t c.0.0 h c.0.1 q y.2 c.2

  -- all of them, or up to one that is not read
  pub folded : (s t : Iter Event) (f : F) (r : Reading) (v : Option Reading) → TryFoldsItems fronts g (λ u c. u ≡ continue_value c) (λ (e : E) u. u ≡ None) s f r v t → v ≡ read_all r s.rest.now
  unfolding read_all
  folded s t f r v d = last d.1 d.4.2 d.6 ∙ sym (some-read d.0 s d.4.0 f d.2 r d.3 d.4.1 d.5)
    where
      last : (o : Option (Bor Event)) → fronts d.4.0 o t → MatchOption o (v ≡ Some d.3) (λ x. (u : Option Reading) × (h : F) × (e : E) × Called g d.2 (d.3, (x, tt)) u h × (u ≡ None) × (v ≡ None)) → v ≡ read_all d.3 d.4.0.rest.now
      last None y m = m ∙ ap (read_all d.3) (sym (nil_from_length d.4.0.rest.now y.0))
      last (Some x) y m = m.5 ∙ ap (option_and_then (λ q. read_all q t.rest.now)) (sym m.4 ∙ reads d.2 d.3 x m.0 m.1 m.3) ∙ ap (read_all d.3) (sym y)

-- The alignments read record by record are those that question 13 asks for.
-- Assumes nothing.
use Prim.Native.Nat.{ℕ, zero, suc, ◌+◌, ◌-◌, ◌≤◌}
use mathlib.Core.Path.{◌≡◌, refl, sym, ap, ◌∙◌}
use mathlib.Core.List.{List, [], ◌∷◌}
use mathlib.Core.Bool.{Bool, true, false, cond, ◌||◌}
use mathlib.Core.Option.{Option, none, some}
use Rattle.std.specs.Prelude.{Option as Maybe, Some, None, is_some}
use lib.ListN.{drop, length, length-drop}
use lib.Seq.{drop-drop}
use native.Mathlib.Omega.{arith}
use Rattle.tokenizer.specs.declared.event.Event.{Event}
use Rattle.tokenizer.specs.Events.{GfmTable, GfmTableDelimiterCellValue, GfmTableDelimiterRow}
use Rattle.edit_map.specs.declared.infer_step.Stage.{Stage}
use Rattle.edit_map.specs.declared.infer_step.Stage.TheVariants.{Opening, Seeking, Outside, Entered, Inside, Found, Failed}
use Rattle.edit_map.specs.declared.infer_step.Aligning.{Aligning}
use Rattle.edit_map.specs.declared.infer_step.Alignment.{Alignment}
use Rattle.edit_map.specs.Base.{plus_of, most}
use Rattle.edit_map.specs.Align.{is_entry, is_exit, is_marker, front, more, outside, inside, aligned, row_alignments, after_entry, table_alignments}
use Rattle.edit_map.specs.AlignSteps.{alignment_of, number_of, slot_of, still, gives, value_step, outside_step, align_in, align_step, start_at, fresh, is_found, settled, done, pauses, scan_all, scan_of, aligns_from}
use Rattle.edit_map.proofs.Steps.{plus_fits}

-- an alignment that a record gives, before others
abbrev pub also : Maybe Alignment → List ℕ → List ℕ
also None l = l
also (Some a) l = number_of a ∷ l

-- the alignments that the records give, in order
unfoldable pub align_given : Aligning → List Event → List ℕ
align_given s [] = []
align_given s (e ∷ es) = cond (settled s.stage) [] (also (align_step s e).given (align_given (align_step s e) es))

-- the answer that reading from a state gives
abbrev pub answer : Aligning → List Event → Option (List ℕ)
answer s es = cond (is_found (scan_all done s es).stage) (some (align_given s es)) none

-- ## What is read is what the definition says

abbrev at : Stage → Bool → Bool → Maybe Alignment → ℕ → ℕ → Aligning
at g f l a n p = record { stage = g; front = f; last = l; given = a; count = n; at = p }

more-is : (a : ℕ) (b : Bool) (l : List ℕ) → more a (cond b (some l) none) ≡ cond b (some (a ∷ l)) none
more-is a true l = refl
more-is a false l = refl

failed : (es : List Event) (l : Bool) (a : Maybe Alignment) (n p : ℕ) → answer (at Failed false l a n p) es ≡ none
unfolding scan_all align_given
failed [] l a n p = refl
failed (e ∷ es) l a n p = refl

found : (es : List Event) (l : Bool) (a : Maybe Alignment) (n p : ℕ) → answer (at Found false l a n p) es ≡ some []
unfolding scan_all align_given
found [] l a n p = refl
found (e ∷ es) l a n p = refl

-- an alignment by its number
aligned-is : (f g : Bool) → number_of (alignment_of f g) ≡ aligned f g
aligned-is true true = refl
aligned-is true false = refl
aligned-is false true = refl
aligned-is false false = refl

-- the answer after a step
abbrev next : Aligning → List Event → Option (List ℕ)
next t es = cond (is_found (scan_all done t es).stage) (some (also t.given (align_given t es))) none

abbrev Outsides : List Event → Type 0
Outsides es = (k f l : Bool) (a : Maybe Alignment) (n p : ℕ) → row_alignments outside k es ≡ answer (at Outside f l a n p) es

abbrev Insides : List Event → Type 0
Insides es = (f l : Bool) (a : Maybe Alignment) (n p : ℕ) → row_alignments (inside f) l es ≡ answer (at Inside f l a n p) es

abbrev Entries : List Event → Type 0
Entries es = (f l : Bool) (a : Maybe Alignment) (n p : ℕ) → row_alignments (inside (front es)) l es ≡ answer (at Entered f l a n p) es

-- a record of a value, whatever the state says besides
value : (s : Aligning) (f : Bool) (e : Event) (es : List Event) → Outsides es → Insides es → row_alignments (inside f) s.last (e ∷ es) ≡ next (value_step f s e) es
unfolding row_alignments
value s f e es out ins = go (is_exit GfmTableDelimiterRow e) (is_entry GfmTableDelimiterCellValue e) (is_exit GfmTableDelimiterCellValue e)
  where
    p : ℕ
    p = plus_of s.at 1

    go : (a b c : Bool) → cond a none (cond b none (cond c (more (aligned f s.last) (row_alignments outside (is_marker e) es)) (row_alignments (inside f) (is_marker e) es)))
        ≡ next (cond a (still Failed false s e) (cond b (still Failed false s e) (cond c (gives f s e) (still Inside f s e)))) es
    go true b c = sym (failed es (is_marker e) None s.count p)
    go false true c = sym (failed es (is_marker e) None s.count p)
    go false false true = ap (more (aligned f s.last)) (out (is_marker e) false (is_marker e) (Some (alignment_of f s.last)) (plus_of s.count 1) p)
        ∙ more-is (aligned f s.last) (is_found (scan_all done (gives f s e) es).stage) (align_given (gives f s e) es)
        ∙ ap (λ (k : ℕ). cond (is_found (scan_all done (gives f s e) es).stage) (some (k ∷ align_given (gives f s e) es)) none) (sym (aligned-is f s.last))
    go false false false = ins f (is_marker e) None s.count p

rows : (es : List Event) → Outsides es × Insides es × Entries es
unfolding row_alignments scan_all align_given
rows [] = (λ k f l a n p. refl, λ f l a n p. refl, λ f l a n p. refl)
rows (e ∷ es) = go (rows es)
  where
    outs : (s : Aligning) → Outsides es → Entries es → (a b c : Bool) → cond a (some []) (cond b (row_alignments (inside (front es)) (is_marker e) es) (cond c none (row_alignments outside (is_marker e) es)))
        ≡ next (cond a (still Found false s e) (cond b (still Entered false s e) (cond c (still Failed false s e) (still Outside false s e)))) es
    outs s out ent true b c = sym (found es (is_marker e) None s.count (plus_of s.at 1))
    outs s out ent false true c = ent false (is_marker e) None s.count (plus_of s.at 1)
    outs s out ent false false true = sym (failed es (is_marker e) None s.count (plus_of s.at 1))
    outs s out ent false false false = out (is_marker e) false (is_marker e) None s.count (plus_of s.at 1)

    go : Outsides es × Insides es × Entries es → Outsides (e ∷ es) × Insides (e ∷ es) × Entries (e ∷ es)
    go h = (
      λ k f l a n p. outs (at Outside f l a n p) h.0 h.2 (is_exit GfmTableDelimiterRow e) (is_entry GfmTableDelimiterCellValue e) (is_exit GfmTableDelimiterCellValue e),
      λ f l a n p. value (at Inside f l a n p) f e es h.0 h.1,
      λ f l a n p. value (at Entered f l a n p) (is_marker e) e es h.0 h.1,
    )

seeks : (es : List Event) (f l : Bool) (a : Maybe Alignment) (n p : ℕ) → after_entry es ≡ answer (at Seeking f l a n p) es
unfolding after_entry scan_all align_given
seeks [] f l a n p = refl
seeks (e ∷ es) f l a n p = go (is_entry GfmTableDelimiterRow e) (seeks es false (is_marker e) None n (plus_of p 1))
  where
    s : Aligning
    s = at Seeking f l a n p

    go : (b : Bool) → after_entry es ≡ answer (at Seeking false (is_marker e) None n (plus_of p 1)) es → cond b (row_alignments outside false es) (after_entry es) ≡ next (cond b (still Outside false s e) (still Seeking false s e)) es
    go true ih = (rows es).0 false false (is_marker e) None n (plus_of p 1)
    go false ih = ih

-- question 13 and the alignments
pub aligns : (es : List Event) (p : ℕ) → table_alignments es ≡ answer (start_at Opening p) es
unfolding scan_all align_given
aligns [] p = refl
aligns (e ∷ es) p = go (is_entry GfmTable e)
  where
    go : (b : Bool) → cond b (after_entry es) none ≡ next (cond b (still Seeking false (start_at Opening p) e) (still Failed false (start_at Opening p) e)) es
    go true = seeks es false (is_marker e) None 0 (plus_of p 1)
    go false = sym (failed es (is_marker e) None 0 (plus_of p 1))

-- ## What a step leaves

-- a step that gives an alignment counts it
abbrev grown : ℕ → Maybe Alignment → ℕ
grown n None = n
grown n (Some a) = plus_of n 1

-- a step counts what it gives, and goes to the next place
abbrev Steps : Aligning → Aligning → Type 0
Steps s t = (t.count ≡ grown s.count t.given) × (t.at ≡ plus_of s.at 1)

sought_steps : (b : Bool) (g h : Stage) (s : Aligning) (e : Event) → Steps s (cond b (still g false s e) (still h false s e))
sought_steps true g h s e = (refl, refl)
sought_steps false g h s e = (refl, refl)

outside-steps : (s : Aligning) (e : Event) → Steps s (outside_step s e)
outside-steps s e = go (is_exit GfmTableDelimiterRow e) (is_entry GfmTableDelimiterCellValue e) (is_exit GfmTableDelimiterCellValue e)
  where
    go : (a b c : Bool) → Steps s (cond a (still Found false s e) (cond b (still Entered false s e) (cond c (still Failed false s e) (still Outside false s e))))
    go true b c = (refl, refl)
    go false true c = (refl, refl)
    go false false true = (refl, refl)
    go false false false = (refl, refl)

value_steps : (f : Bool) (s : Aligning) (e : Event) → Steps s (value_step f s e)
value_steps f s e = go (is_exit GfmTableDelimiterRow e) (is_entry GfmTableDelimiterCellValue e) (is_exit GfmTableDelimiterCellValue e)
  where
    go : (a b c : Bool) → Steps s (cond a (still Failed false s e) (cond b (still Failed false s e) (cond c (gives f s e) (still Inside f s e))))
    go true b c = (refl, refl)
    go false true c = (refl, refl)
    go false false true = (refl, refl)
    go false false false = (refl, refl)

pub steps : (g : Stage) (s : Aligning) (e : Event) → Steps s (align_in g s e)
steps Opening s e = sought_steps (is_entry GfmTable e) Seeking Failed s e
steps Seeking s e = sought_steps (is_entry GfmTableDelimiterRow e) Outside Seeking s e
steps Outside s e = outside-steps s e
steps Entered s e = value_steps (is_marker e) s e
steps Inside s e = value_steps s.front s e
steps Found s e = (refl, refl)
steps Failed s e = (refl, refl)

-- what is given is counted
pub counted : (es : List Event) (s : Aligning) → s.count + length es ≤ most → (scan_all done s es).count ≡ s.count + length (align_given s es)
unfolding scan_all align_given
counted [] s h = omega arith
counted (e ∷ es) s h = off (settled s.stage) (on (align_step s e).given refl (λ q. counted es (align_step s e) q))
  where
    t : Aligning
    t = align_step s e

    on : (g : Maybe Alignment) → t.given ≡ g → (t.count + length es ≤ most → (scan_all done t es).count ≡ t.count + length (align_given t es)) → (scan_all done t es).count ≡ s.count + length (also g (align_given t es))
    on None q ih =
        let c : t.count ≡ s.count = (steps s.stage s e).0 ∙ ap (grown s.count) q in
        ih (omega arith) ∙ omega arith
    on (Some a) q ih =
        let c : t.count ≡ s.count + 1 = (steps s.stage s e).0 ∙ ap (grown s.count) q ∙ plus_fits s.count 1 (omega arith) in
        ih (omega arith) ∙ omega arith

    off : (b : Bool) → (scan_all done t es).count ≡ s.count + length (also t.given (align_given t es))
        → (cond b s (scan_all done t es)).count ≡ s.count + length (cond b [] (also t.given (align_given t es)))
    off true h = omega arith
    off false h = h

-- ## Up to the next alignment

-- what a state gave last does not matter
fresh_step : (g : Stage) (s : Aligning) (e : Event) → align_in g (fresh s) e ≡ align_in g s e
fresh_step Opening s e = refl
fresh_step Seeking s e = refl
fresh_step Outside s e = refl
fresh_step Entered s e = refl
fresh_step Inside s e = refl
fresh_step Found s e = refl
fresh_step Failed s e = refl

fresh-given : (s : Aligning) (es : List Event) → align_given (fresh s) es ≡ align_given s es
unfolding align_given
fresh-given s [] = refl
fresh-given s (e ∷ es) = ap (λ (t : Aligning). cond (settled s.stage) [] (also t.given (align_given t es))) (fresh_step s.stage s e)

-- reading stops at an alignment
stays : (t : Aligning) (es : List Event) (a : Alignment) → t.given ≡ Some a → scan_all pauses t es ≡ t
unfolding scan_all
stays t [] a q = refl
stays t (e ∷ es) a q = go (settled t.stage) (is_some t.given) (ap is_some q)
  where
    go : (b c : Bool) → c ≡ true → cond (b || c) t (scan_all pauses (align_step t e) es) ≡ t
    go true c w = refl
    go false c w = rw w

-- t is reached from s by k records; what it gave comes first, and where it gave nothing, nothing comes
record Reached (s : Aligning) (es : List Event) (t : Aligning) : Type 0 where
  by : ℕ
  place : t.at ≡ s.at + by
  first : align_given s es ≡ also t.given (align_given t (drop by es))
  none : t.given ≡ None → align_given t (drop by es) ≡ []

nothing : (s : Aligning) (es : List Event) → s.given ≡ None → align_given s es ≡ [] → Reached s es s
nothing s es h g = record { by = 0; place = omega arith; first = sym (ap (λ (g : Maybe Alignment). also g (align_given s es)) h); none = λ z. g }

further : (s : Aligning) (e : Event) (es : List Event) (t : Aligning) → s.at + 1 ≤ most → settled s.stage ≡ false → (align_step s e).given ≡ None → Reached (align_step s e) es t → Reached s (e ∷ es) t
unfolding align_given
further s e es t fits on g r = record {
  by = suc r.by;
  place = r.place ∙ (let p : (align_step s e).at ≡ s.at + 1 = (steps s.stage s e).1 ∙ plus_fits s.at 1 fits in omega arith);
  first = rw (on, g) r.first;
  none = r.none;
}

here : (s : Aligning) (e : Event) (es : List Event) (a : Alignment) → s.at + 1 ≤ most → settled s.stage ≡ false → (align_step s e).given ≡ Some a → Reached s (e ∷ es) (align_step s e)
unfolding align_given
here s e es a fits on g = record {
  by = 1;
  place = (steps s.stage s e).1 ∙ plus_fits s.at 1 fits;
  first = rw on;
  none = λ z. cc (sym g ∙ z);
}

reaches : (es : List Event) (s : Aligning) → s.given ≡ None → ((length es ≡ 0 → ⊥) → s.at + length es ≤ most) → Reached s es (scan_all pauses s es)
unfolding scan_all align_given
reaches [] s h fits = nothing s [] h refl
reaches (e ∷ es) s h fits = go (settled s.stage) refl (align_step s e).given refl (λ q k. reaches es (align_step s e) q k)
  where
    room : s.at + suc (length es) ≤ most
    room = fits (λ z. omega arith)

    one : s.at + 1 ≤ most
    one = omega (arith, room)

    place : (align_step s e).at ≡ s.at + 1
    place = (steps s.stage s e).1 ∙ plus_fits s.at 1 one

    u : Aligning
    u = align_step s e

    off : (b : Bool) → settled s.stage ≡ b → b ≡ true → Reached s (e ∷ es) s
    off b q r = nothing s (e ∷ es) h (rw (q ∙ r))

    go : (b : Bool) → settled s.stage ≡ b → (g : Maybe Alignment) → u.given ≡ g → (u.given ≡ None → ((length es ≡ 0 → ⊥) → u.at + length es ≤ most) → Reached u es (scan_all pauses u es))
        → Reached s (e ∷ es) (cond (b || is_some s.given) s (scan_all pauses u es))
    go true q g v ih = off true q refl
    go false q None v ih = rw (ap is_some h) (further s e es (scan_all pauses u es) one q v (ih v (λ z. omega (arith, room, place))))
    go false q (Some a) v ih = rw (ap is_some h, stays u es a v) (here s e es a one q v)

-- ## The slots

-- n slots that take some alignments, 0 past the last
unfoldable pub zeroed : ℕ → List ℕ → List ℕ
zeroed zero l = []
zeroed (suc n) [] = 0 ∷ zeroed n []
zeroed (suc n) (x ∷ l) = x ∷ zeroed n l

pub fills : (es : List Event) → length es ≤ most → (n : ℕ) (s : Aligning) → aligns_from es n s ≡ zeroed n (align_given s (drop s.at es))
unfolding aligns_from zeroed
fills es fits zero s = refl
fills es fits (suc n) s = go t.given refl (fills es fits n t)
  where
    t : Aligning
    t = scan_of es pauses s

    r : Reached (fresh s) (drop s.at es) t
    r = reaches (drop s.at es) (fresh s) refl (λ z. rw (length-drop s.at es) (omega (arith, more_left z)))
      where
        more_left : (length (drop s.at es) ≡ 0 → ⊥) → (length es - s.at ≡ 0 → ⊥)
        more_left z = λ w. z (length-drop s.at es ∙ w)

    left : List ℕ
    left = align_given t (drop t.at es)

    left_is : align_given t (drop r.by (drop s.at es)) ≡ left
    left_is = ap (align_given t) (drop-drop r.by s.at es ∙ ap (λ (k : ℕ). drop k es) (sym r.place))

    all-is : align_given s (drop s.at es) ≡ also t.given left
    all-is = sym (fresh-given s (drop s.at es)) ∙ r.first ∙ ap (also t.given) left_is

    go : (g : Maybe Alignment) → t.given ≡ g → aligns_from es n t ≡ zeroed n left → slot_of t.given ∷ aligns_from es n t ≡ zeroed (suc n) (align_given s (drop s.at es))
    go None q ih =
        let none : left ≡ [] = sym left_is ∙ r.none q in
        (λ i. slot_of (q i) ∷ (ih ∙ ap (zeroed n) none) i) ∙ ap (zeroed (suc n)) (sym (all-is ∙ (λ i. also (q i) (none i))))
    go (Some a) q ih = (λ i. slot_of (q i) ∷ ih i) ∙ ap (zeroed (suc n)) (sym (all-is ∙ (λ i. also (q i) left)))

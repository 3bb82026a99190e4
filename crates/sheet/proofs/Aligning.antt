-- The stretches of a delimiter line, and the alignments of its values.
-- Assumes nothing.
use Prim.Native.Nat.{ℕ, suc, ◌+◌}
use mathlib.Core.Path.{◌≡◌, refl, ap, sym, ◌∙◌}
use mathlib.Core.Bool.{Bool, true, false, cond, false≢true, true≢false}
use mathlib.Core.List.{List, [], ◌∷◌}
use native.Mathlib.Omega.{arith}
use borrow.Author.Tests.{ne_eqb, eqb-true, eqb-false}
use lib.Dec.{eqb}
use lib.ListN.{length, drop}
use denote.Enum.Bare.{sameb}
use Rattle.std.specs.Prelude.{Option, Some, None, is_some, unwrap_or, not, IfSome, IsSomeAnd, MatchOption}
use Rattle.std.specs.Option.{option_or, option_eq}
use Rattle.tokenizer.specs.contracts.kinds.Kind.{the_type}
use Rattle.tokenizer.specs.declared.kinds.Kind.{Kind}
use Rattle.tokenizer.specs.declared.kinds.Kind.TheVariants.{Other, Space, End, Pipe, Backslash, Hyphen, Colon}
use Rattle.tokenizer.specs.declared.event.Point.{Point}
use Rattle.tokenizer.specs.Bytes.{kind_number, Reads}
use Rattle.tokenizer.specs.Moves.{ahead_of}
use Rattle.tokenizer.specs.Lines.{is_empty, blank, unindented}
use Rattle.tokenizer.proofs.Ahead.{Front, ends}
use Rattle.tokenizer.proofs.SameKinds.{same-numbers}
use Rattle.gfm_table.specs.Heads.{untailed, last_byte, untrailed, values, alignment, alignments}
use Rattle.gfm_table.specs.Delimiters.{stretch, written, values_start}
use Rattle.gfm_table.proofs.Stretches.{cells, cells-last, untrailed-more, last-stretch, more-stretch}
use Rattle.gfm_table.proofs.ValuePlaces.{start_values}
use Rattle.edit_map.specs.AlignSteps.{alignment_of, number_of}
use Rattle.edit_map.specs.declared.infer_step.Alignment.{Alignment}
use Rattle.sheet.specs.declared.align.Ends.{Ends}
use Rattle.sheet.specs.declared.align.Mark.{Mark}
use Rattle.sheet.specs.Aligning.{EndNumbers, end_number, end_numbers, line_from, aligns_from, ends_over, ends_past, scanned, Marked}
use Rattle.sheet.proofs.Tests.{test}

-- ## The ends of a stretch

-- the number of the alignment that the ends of a value tell, by whether each is a colon
abbrev align_by : Bool → Bool → ℕ
align_by f l = cond f (cond l 4 2) (cond l 3 1)

numbered : (f l : Bool) → number_of (alignment_of f l) ≡ align_by f l
numbered true true = refl
numbered true false = refl
numbered false true = refl
numbered false false = refl

-- a kind other than whitespace
solid_kind : (k : Kind) → (k ≡ Space → ⊥) → eqb (kind_number k) 1 ≡ false
solid_kind Other z = refl
solid_kind Space z = absurd (z refl)
solid_kind End z = refl
solid_kind Pipe z = refl
solid_kind Backslash z = refl
solid_kind Hyphen z = refl
solid_kind Colon z = refl

-- whether the last is a colon
colon-last : (l : Option Kind) → option_eq (sameb the_type) l (Some Colon) ≡ eqb (end_number l) 6
colon-last None = refl
colon-last (Some k) = same-numbers k Colon

-- the ends d are e with one more byte of the kind k
pub record Over (e d : Ends) (k : Kind) : Type 0 where
  pub end : d.end ≡ e.end + 1
  pub numbers : end_numbers d ≡ ends_over (end_numbers e) (kind_number k)
  pub solid : d.first ≡ Some Space → ⊥

module _ (e : Ends) (z : e.first ≡ Some Space → ⊥) (k : Kind) where
  -- whitespace is passed over
  pub space_over : k ≡ Space → Over e (record { first = e.first; last = e.last; end = e.end + 1 }) k
  space_over s = rw s (record { end = refl; numbers = λ i. record { first = same (end_number e.first) i; last = end_number e.last; end = e.end + 1 }; solid = z })
    where
      same : (f : ℕ) → f ≡ cond (eqb f 1) 1 f
      same f = test (eqb f 1) (λ t. rw t (eqb-true f 1 t)) (λ t. rw t)

  -- any other kind is the last, and the first if there is none
  pub solid_over : (k ≡ Space → ⊥) → Over e (record { first = option_or e.first (Some k); last = Some k; end = e.end + 1 }) k
  solid_over s = record { end = refl; numbers = λ i. record { first = first e.first z i; last = last i; end = e.end + 1 }; solid = stays e.first z }
    where
      first : (f : Option Kind) → (f ≡ Some Space → ⊥) → end_number (option_or f (Some k)) ≡ cond (eqb (end_number f) 1) (kind_number k) (end_number f)
      first None x = refl
      first (Some j) x = rw (solid_kind j (λ y. x (ap Some y)))

      last : kind_number k ≡ cond (eqb (kind_number k) 1) (end_number e.last) (kind_number k)
      last = rw (solid_kind k s)

      stays : (f : Option Kind) → (f ≡ Some Space → ⊥) → option_or f (Some k) ≡ Some Space → ⊥
      stays None x y = s cc
      stays (Some j) x y = x y

module _ (kind : ℕ → ℕ) where
  -- an empty stretch has the number of no markers
  none_written : (w : List ℕ) → false ≡ not (is_empty w) → number_of Alignment.None ≡ alignment kind w
  none_written [] h = refl
  none_written (b ∷ w) h = absurd (false≢true h)

  unfoldable first_of : ℕ → List ℕ → ℕ
  first_of f [] = f
  first_of f (b ∷ t) = first_of (cond (eqb f 1) (kind b) f) t

  unfoldable last_of : ℕ → List ℕ → ℕ
  last_of l [] = l
  last_of l (b ∷ t) = last_of (cond (eqb (kind b) 1) l (kind b)) t

  ends-past : (f l i : ℕ) (t : List ℕ) → ends_past kind (record { first = f; last = l; end = i }) t ≡ record { first = first_of f t; last = last_of l t; end = i + length t }
  unfolding ends_past first_of last_of
  ends-past f l i [] = ap {B = EndNumbers} (λ n. record { first = f; last = l; end = n }) (let e : i ≡ i + 0 = omega arith in e)
  ends-past f l i (b ∷ t) =
      let f' = cond (eqb f 1) (kind b) f in
      let l' = cond (eqb (kind b) 1) l (kind b) in
      ends-past f' l' (i + 1) t ∙ ap {B = EndNumbers} (λ n. record { first = first_of f' t; last = last_of l' t; end = n }) (let e : (i + 1) + length t ≡ i + suc (length t) = omega arith in e)

  -- the first byte that is no whitespace stays
  first-stays : (f : ℕ) (t : List ℕ) → (f ≡ 1 → ⊥) → first_of f t ≡ f
  unfolding first_of
  first-stays f [] h = refl
  first-stays f (b ∷ t) h = rw (ne_eqb f 1 h) (first-stays f t h)

  abbrev head_kind : List ℕ → ℕ
  head_kind [] = 1
  head_kind (b ∷ x) = kind b

  first_kind : (t : List ℕ) → first_of 1 t ≡ head_kind (unindented kind t)
  unfolding first_of unindented
  first_kind [] = refl
  first_kind (b ∷ t) = test (eqb (kind b) 1) (λ e. rw (e, eqb-true (kind b) 1 e) (first_kind t)) (λ e. rw e (first-stays (kind b) t (eqb-false (kind b) 1 e)))

  first-solid : (t : List ℕ) (b : ℕ) (x : List ℕ) → unindented kind t ≡ b ∷ x → eqb (kind b) 1 ≡ false
  unfolding unindented
  first-solid [] b x e = absurd (let z : ◌≡◌ {A = ℕ} 0 1 = cc in omega arith)
  first-solid (c ∷ t) b x e = test (eqb (kind c) 1) (λ i. first-solid t b x (rw i at e)) (λ i. let j : c ∷ t ≡ b ∷ x = rw i at e in let k : c ≡ b = cc in rw (← k) i)

  -- the last one, where there is none, and where there is one
  last-blank : (l : ℕ) (t : List ℕ) → blank kind t ≡ true → last_of l t ≡ l
  unfolding last_of unindented
  last-blank l [] h = refl
  last-blank l (b ∷ t) h = test (eqb (kind b) 1) (λ e. rw e (last-blank l t (rw e at h))) (λ e. absurd (false≢true (rw e at h)))

  last_any : (l m : ℕ) (t : List ℕ) → blank kind t ≡ false → last_of l t ≡ last_of m t
  unfolding last_of unindented
  last_any l m [] h = absurd (true≢false h)
  last_any l m (b ∷ t) h = test (eqb (kind b) 1) (λ e. rw e (last_any l m t (rw e at h))) (λ e. rw e)

  last-kind : (b : ℕ) (x : List ℕ) → last_of (kind b) x ≡ kind (last_byte b (untailed kind x))
  unfolding last_of untailed
  last-kind b [] = refl
  last-kind b (c ∷ x) =
      test (eqb (kind c) 1)
      (λ e. test (blank kind x) (λ f. rw (e, f) (last-blank (kind b) x f)) (λ f. rw (e, f) (last_any (kind b) (kind c) x f ∙ last-kind c x)))
      (λ e. rw e (last-kind c x))

  last-led : (l : ℕ) (t : List ℕ) (b : ℕ) (x : List ℕ) → unindented kind t ≡ b ∷ x → last_of l t ≡ kind (last_byte b (untailed kind x))
  unfolding last_of unindented
  last-led l [] b x e = absurd (let z : ◌≡◌ {A = ℕ} 0 1 = cc in omega arith)
  last-led l (c ∷ t) b x e =
      test (eqb (kind c) 1) (λ i. rw i (last-led l t b x (rw i at e)))
      (λ i. let j : c ∷ t ≡ b ∷ x = rw i at e in let k : c ≡ b = cc in let m : t ≡ x = cc in rw (i, k, m) (last-kind b x))

  module _ (u : List ℕ) where
    abbrev front : List ℕ
    front = unindented kind (stretch kind u)

    -- what the ends tell of the stretch
    told-empty : (v : List ℕ) → front ≡ v → eqb (head_kind v) 1 ≡ is_empty (untailed kind v)
    unfolding untailed
    told-empty [] e = refl
    told-empty (b ∷ x) e = rw (first-solid (stretch kind u) b x e)

    told-align : (v : List ℕ) → front ≡ v → align_by (eqb (head_kind v) 6) (eqb (last_of 1 (stretch kind u)) 6) ≡ alignment kind (untailed kind v)
    unfolding untailed
    told-align [] e = rw (last-blank 1 (stretch kind u) (ap is_empty e))
    told-align (b ∷ x) e = rw (first-solid (stretch kind u) b x e, last-led 1 (stretch kind u) b x e)

    module _ (i : ℕ) (e : EndNumbers) (h : e ≡ scanned kind i u) where
      told : e ≡ record { first = head_kind front; last = last_of 1 (stretch kind u); end = i + length (stretch kind u) }
      told = h ∙ ends-past 1 1 i (stretch kind u) ∙ ap {B = EndNumbers} (λ n. record { first = n; last = last_of 1 (stretch kind u); end = i + length (stretch kind u) }) (first_kind (stretch kind u))

      marked-end : e.end ≡ i + length (stretch kind u)
      marked-end = ap (λ (n : EndNumbers). n.end) told

      marked-empty : eqb e.first 1 ≡ is_empty (written kind u)
      marked-empty = ap (λ (n : EndNumbers). eqb n.first 1) told ∙ told-empty front refl

      marked-align : number_of (alignment_of (eqb e.first 6) (eqb e.last 6)) ≡ alignment kind (written kind u)
      marked-align = ap (λ (n : EndNumbers). number_of (alignment_of (eqb n.first 6) (eqb n.last 6))) told ∙ numbered _ _ ∙ told-align front refl

    -- and by the tests of kinds
    pub marked_by : (i : ℕ) (e : Ends) (m : Mark) → end_numbers e ≡ scanned kind i u → (e.first ≡ Some Space → ⊥) → m.end ≡ e.end
        → MatchOption e.first (m.align ≡ None) (λ k. IsSomeAnd m.align (λ a. a ≡ alignment_of (sameb the_type k Colon) (option_eq (sameb the_type) e.last (Some Colon)))) → Marked kind u i m
    marked_by i e m h z d x = record { end = d ∙ marked-end i (end_numbers e) h; empty = empty e.first m.align z x (marked-empty i (end_numbers e) h); align = align e.first m.align x (marked-align i (end_numbers e) h) }
      where
        empty : (f : Option Kind) (a : Option Alignment) → (f ≡ Some Space → ⊥) → MatchOption f (a ≡ None) (λ k. IsSomeAnd a (λ b. b ≡ alignment_of (sameb the_type k Colon) (option_eq (sameb the_type) e.last (Some Colon)))) → eqb (end_number f) 1 ≡ is_empty (written kind u) → is_some a ≡ not (is_empty (written kind u))
        empty None None z x q = ap not q
        empty None (Some a) z x q = absurd (let y : Some a ≡ None = x in cc)
        empty (Some k) None z x q = absurd x
        empty (Some k) (Some a) z x q = ap not (sym (solid_kind k (λ y. z (ap Some y))) ∙ q)

        align : (f : Option Kind) (a : Option Alignment) → MatchOption f (a ≡ None) (λ k. IsSomeAnd a (λ b. b ≡ alignment_of (sameb the_type k Colon) (option_eq (sameb the_type) e.last (Some Colon)))) → number_of (alignment_of (eqb (end_number f) 6) (eqb (end_number e.last) 6)) ≡ alignment kind (written kind u) → IfSome a (λ b. number_of b ≡ alignment kind (written kind u))
        align f None x q = tt
        align None (Some a) x q = absurd (let y : Some a ≡ None = x in cc)
        align (Some k) (Some a) x q = ap number_of (x ∙ ap (λ (t : Bool). alignment_of t (option_eq (sameb the_type) e.last (Some Colon))) (same-numbers k Colon) ∙ ap (alignment_of (eqb (kind_number k) 6)) (colon-last e.last)) ∙ q

    module _ (i : ℕ) (m : Mark) (h : Marked kind u i m) where
      -- a stretch with no alignment is empty
      pub mark_empty : {t : Bool} → is_some m.align ≡ not t → is_empty (written kind u) ≡ t
      mark_empty {t} n = go (is_empty (written kind u)) t (sym h.empty ∙ n)
        where
          go : (a b : Bool) → not a ≡ not b → a ≡ b
          go true true e = refl
          go true false e = sym e
          go false true e = sym e
          go false false e = refl

      -- it is written as one of no markers
      pub mark_number : number_of (unwrap_or m.align Alignment.None) ≡ alignment kind (written kind u)
      mark_number = go m.align h.empty h.align
        where
          go : (a : Option Alignment) → is_some a ≡ not (is_empty (written kind u)) → IfSome a (λ b. number_of b ≡ alignment kind (written kind u)) → number_of (unwrap_or a Alignment.None) ≡ alignment kind (written kind u)
          go (Some a) e x = x
          go None e x = none_written (written kind u) e

-- ## Scanning

module _ {kind : ℕ → ℕ} (ok : Reads kind) (s : List ℕ) (e : EndNumbers) where
  pub scan_end : ahead_of kind (drop e.end s) ≡ 2 → ends_past kind e (stretch kind (line_from s e.end)) ≡ e
  unfolding ends_past stretch
  scan_end h = rw (ends ok (drop e.end s) h)

  pub scan_pipe : (Front kind) s e.end 3 → ends_past kind e (stretch kind (line_from s e.end)) ≡ e
  unfolding ends_past stretch
  scan_pipe f = rw (f.line, f.is)

  pub scan_on : (k : ℕ) → Front kind s e.end k → (k ≡ 3 → ⊥) → ends_past kind e (stretch kind (line_from s e.end)) ≡ ends_past kind (ends_over e k) (stretch kind (line_from s (e.end + 1)))
  unfolding ends_past stretch
  scan_on k f z = rw (f.line, f.is, ne_eqb k 3 z) (ap (λ (n : ℕ). ends_past kind (ends_over e n) (stretch kind (line_from s (e.end + 1)))) f.is)

-- ## Stretch by stretch

abbrev dot : ℕ → Point
dot i = record { line = 0; column = 0; index = i; vs = 0 }

module _ {kind : ℕ → ℕ} (ok : Reads kind) (s : List ℕ) (i : ℕ) where
  abbrev here : List ℕ
  here = line_from s i

  abbrev end : ℕ
  end = i + length (stretch kind here)

  module _ (f : (Front kind) s end 3) where
    pub aligns_more : (aligns_from kind) s i ≡ alignment kind (written kind here) ∷ aligns_from kind s (end + 1)
    unfolding alignments
    aligns_more = ap (λ (c : List (List ℕ)). alignments kind (untrailed c)) (more-stretch ok s (dot i) 0 f) ∙ ap (alignments kind) (untrailed-more ok (written kind here) (line_from s (end + 1)))

  module _ (z : ahead_of kind (drop end s) ≡ 3 → ⊥) where
    last-cell : (cells kind) here ≡ written kind here ∷ []
    last-cell = cells-last ok here (last-stretch ok s (dot i) 0 z)

    pub aligns_last : is_empty (written kind here) ≡ false → aligns_from kind s i ≡ alignment kind (written kind here) ∷ []
    unfolding alignments untrailed
    aligns_last e = ap (λ (c : List (List ℕ)). alignments kind (untrailed c)) last-cell ∙ rw e

    pub aligns_none : is_empty (written kind here) ≡ true → aligns_from kind s i ≡ []
    unfolding alignments untrailed
    aligns_none e = ap (λ (c : List (List ℕ)). alignments kind (untrailed c)) last-cell ∙ rw e

  -- the values of a line are read from their start on
  pub aligns_start : (aligns_from kind) s (values_start kind i here) ≡ alignments kind (values kind here)
  aligns_start = ap (alignments kind) (start_values ok s i)

-- The alignments of a delimiter row, told by its cells, by the runs of pieces between its dividers, and by the values that its line writes.
-- Assumes nothing.
use Prim.Native.Nat.{ℕ, ◌<◌}
use mathlib.Core.Path.{◌≡◌, refl, ap, sym, ◌∙◌}
use mathlib.Core.List.{List, [], ◌∷◌}
use mathlib.Core.Bool.{Bool, true, false, cond, ◌||◌, ◌&&◌, not, true≢false, false≢true, and-false}
use native.Mathlib.Omega.{arith}
use native.Mathlib.Nat.{zero-lt-suc}
use lib.Dec.{eqb}
use lib.ListN.{length}
use borrow.Author.Tests.{eqb-true}
use Rattle.tokenizer.specs.declared.event.Point.{Point}
use Rattle.tokenizer.specs.Points.{past}
use Rattle.tokenizer.specs.Events.{SpaceOrTab, Data, GfmTableCellDivider, GfmTableDelimiterMarker, GfmTableDelimiterFiller}
use Rattle.tokenizer.specs.Lines.{blank, is_empty, is_space, unindented}
use Rattle.gfm_table.specs.Rows.{Piece, Passed, passed, joins, on_pieces, delimiter_name, delimiter_pieces}
use Rattle.gfm_table.specs.Heads.{all_values, values, alignments, is_divider, on_stretch, stretches, untailed, trimmed, unled, untrailed, last_byte, hyphens, is_value, alignment}
use Rattle.edit_map.specs.Tables.{named, is_text, is_solid, any_solid, before, cells}
use Rattle.edit_map.specs.Align.{is_marker, aligned}
use Rattle.sheet.proofs.Tests.{test, by_cases, both_true}
use Rattle.sheet.proofs.Tally.{cells-some}

-- a run of pieces or bytes between dividers: without text so far, or whether its first and its latest text are markers
pub data Run : Type 0 where
  idle : Run
  run : Bool → Bool → Run

abbrev pub busy : Run → Bool
busy idle = false
busy (run f l) = true

-- one more piece: whether it is text, and whether it is a marker
abbrev pub fed : Bool → Bool → Run → Run
fed false m r = r
fed true m idle = run m m
fed true m (run f l) = run f m

-- the alignment of a run, before those of others
abbrev pub told : Run → List ℕ → List ℕ
told idle rest = rest
told (run f l) rest = aligned f l ∷ rest

-- ## Cells, and runs between dividers

abbrev pub feed : Run → Passed → Run
feed r x = fed (is_text x) (is_marker x.entry) r

unfoldable pub feeds : Run → List Passed → Run
feeds r [] = r
feeds r (x ∷ xs) = feeds (feed r x) xs

unfoldable pub cells_tell : Run → List (List Passed) → List ℕ
cells_tell r [] = []
cells_tell r (c ∷ cs) = told (feeds r c) (cells_tell idle cs)

unfoldable runs_tell : Run → List Passed → List ℕ
runs_tell r [] = told r []
runs_tell r (x ∷ xs) = cond (named GfmTableCellDivider x) (told r (runs_tell idle xs)) (runs_tell (feed r x) xs)

before_tells : (r : Run) (x : Passed) (cs : List (List Passed)) → 0 < length cs → cells_tell r (before x cs) ≡ cells_tell (feed r x) cs
unfolding cells_tell feeds
before_tells r x [] h = absurd (omega arith)
before_tells r x (c ∷ cs) h = refl

-- whitespace alone tells nothing
runs_blank : (r : Run) (xs : List Passed) → any_solid xs ≡ false → runs_tell r xs ≡ told r []
unfolding runs_tell any_solid
runs_blank r [] h = refl
runs_blank r (x ∷ xs) h =
    test (named SpaceOrTab x) (λ e. rw (eqb-true x.entry.name 1 e) (runs_blank r xs (rw e at h))) (λ e. absurd (true≢false (rw e at h)))

-- text is no whitespace
text-solid : (x : Passed) → is_text x ≡ true → is_solid x ≡ true
text-solid x h = test (named SpaceOrTab x) (λ e. absurd (false≢true (rw (eqb-true x.entry.name 1 e) at h))) (λ e. rw e)

busy-solid : (r : Run) (seen : Bool) (x : Passed) → (busy r ≡ true → seen ≡ true) → busy (feed r x) ≡ true → seen || is_solid x ≡ true
busy-solid r true x f h = refl
busy-solid (run a b) false x f h = absurd (false≢true (f refl))
busy-solid idle false x f h = test (is_text x) (λ e. text-solid x e) (λ e. absurd (false≢true (rw e at h)))

divider_feed : (r : Run) (x : Passed) → named GfmTableCellDivider x ≡ true → feed r x ≡ r
divider_feed r x d = rw (eqb-true x.entry.name 10 d)

-- a run that ends at a divider behind which stands only whitespace
closing : (r : Run) (seen : Bool) (xs : List Passed) → (busy r ≡ true → seen ≡ true) → seen && any_solid xs ≡ false → runs_tell r xs ≡ told r (runs_tell idle xs)
closing idle seen xs h e = refl
closing (run f l) seen xs h e =
    let k : any_solid xs ≡ false = rw (h refl) at e in
    rw (runs_blank (run f l) xs k, runs_blank idle xs k)

-- a divider that opens no cell does not stand between two runs with text
cells_runs : (r : Run) (seen : Bool) (xs : List Passed) → (busy r ≡ true → seen ≡ true) → cells_tell r (cells seen xs) ≡ runs_tell r xs
unfolding cells_tell feeds cells runs_tell
cells_runs r seen [] h = refl
cells_runs r seen (x ∷ xs) h =
    let on = seen || is_solid x in
    let joined = before_tells r x (cells on xs) (cells-some on xs) in
    test (named GfmTableCellDivider x)
    (λ d.
    test (seen && any_solid xs)
    (λ e.
    rw (d, e)
    (ap (told r) (before_tells idle x (cells true xs) (cells-some true xs) ∙ ap (λ z. cells_tell z (cells true xs)) (divider_feed idle x d) ∙ cells_runs idle true xs (λ k. refl))))
    (λ e. rw (d, e) (joined ∙ ap (λ z. cells_tell z (cells on xs)) (divider_feed r x d) ∙ cells_runs r on xs (λ k. rw (h k)) ∙ closing r seen xs h e)))
    (λ d. rw (d, and-false seen) (joined ∙ cells_runs (feed r x) on xs (busy-solid r seen x h)))

-- ## The same runs among a line's bytes

abbrev pub text_name : ℕ → Bool
text_name n = eqb n Data || eqb n GfmTableDelimiterMarker || eqb n GfmTableDelimiterFiller

abbrev feed_name : Run → ℕ → Run
feed_name r n = fed (text_name n) (eqb n GfmTableDelimiterMarker) r

unfoldable pieces_tell : Run → List Piece → List ℕ
pieces_tell r [] = told r []
pieces_tell r (q ∷ ps) = cond (is_divider q) (told r (pieces_tell idle ps)) (pieces_tell (feed_name r q.name) ps)

runs_pieces : (r : Run) (p : Point) (ps : List Piece) → runs_tell r (passed p ps) ≡ pieces_tell r ps
unfolding runs_tell passed pieces_tell
runs_pieces r p [] = refl
runs_pieces r p (q ∷ ps) = rw (runs_pieces idle (past p q.text) ps, runs_pieces (feed_name r q.name) (past p q.text) ps)

fed_again : (t m : Bool) (r : Run) → fed t m (fed t m r) ≡ fed t m r
fed_again false m r = refl
fed_again true m idle = refl
fed_again true m (run f l) = refl

joins_divider : (n : ℕ) → joins n ≡ true → eqb n GfmTableCellDivider ≡ false
joins_divider n h = test (eqb n GfmTableCellDivider) (λ e. absurd (false≢true (rw e at h))) (λ e. e)

-- a byte that joins a piece tells no more than the piece
on_pieces_lem : (r : Run) (n b : ℕ) (ps : List Piece) → pieces_tell r (on_pieces n b ps) ≡ cond (eqb n GfmTableCellDivider) (told r (pieces_tell idle ps)) (pieces_tell (feed_name r n) ps)
unfolding pieces_tell
on_pieces_lem r n b [] = refl
on_pieces_lem r n b (q ∷ ps) =
    test (joins n)
    (λ e.
    test (eqb n q.name)
    (λ f. rw (e, f, ← eqb-true n q.name f, joins_divider n e, fed_again (text_name n) (eqb n GfmTableDelimiterMarker) r)) (λ f. rw (e, f)))
    (λ e. rw e)

-- what a byte's three tests tell of its name
name-told : (r : Run) (x y z : Bool) → y ≡ false → let n = cond x SpaceOrTab (cond y GfmTableCellDivider (cond z GfmTableDelimiterMarker GfmTableDelimiterFiller)) in
    (eqb n GfmTableCellDivider ≡ false) × (feed_name r n ≡ fed (not x) z r)
name-told r true true z h = absurd (true≢false h)
name-told r true false true h = (refl, refl)
name-told r true false false h = (refl, refl)
name-told r false true z h = absurd (true≢false h)
name-told r false false true h = (refl, refl)
name-told r false false false h = (refl, refl)

module _ (kind : ℕ → ℕ) where
  abbrev feed_byte : Run → ℕ → Run
  feed_byte r b = fed (not (is_space kind b)) (eqb (kind b) 6) r

  unfoldable feed_bytes : Run → List ℕ → Run
  feed_bytes r [] = r
  feed_bytes r (b ∷ s) = feed_bytes (feed_byte r b) s

  unfoldable stretches_tell : Run → List (List ℕ) → List ℕ
  stretches_tell r [] = []
  stretches_tell r (c ∷ cs) = told (feed_bytes r c) (stretches_tell idle cs)

  on_stretch_tells : (r : Run) (b : ℕ) (cs : List (List ℕ)) → 0 < length cs → stretches_tell r (on_stretch b cs) ≡ stretches_tell (feed_byte r b) cs
  unfolding stretches_tell feed_bytes
  on_stretch_tells r b [] h = absurd (omega arith)
  on_stretch_tells r b (c ∷ cs) h = refl

  on_stretch-some : (b : ℕ) (cs : List (List ℕ)) → 0 < length (on_stretch b cs)
  on_stretch-some b [] = omega arith
  on_stretch-some b (c ∷ cs) = omega arith

  stretches-some : (s : List ℕ) → 0 < length (stretches kind s)
  unfolding stretches
  stretches-some [] = omega arith
  stretches-some (b ∷ s) = by_cases (λ (z : List (List ℕ)). 0 < length z) (eqb (kind b) 3) (λ e. zero-lt-suc _) (λ e. on_stretch-some b (stretches kind s))

  -- a byte that is no pipe is text unless it is whitespace, and a marker if it is a colon
  byte-name : (r : Run) (b : ℕ) → eqb (kind b) 3 ≡ false → (eqb (delimiter_name kind b) GfmTableCellDivider ≡ false) × (feed_name r (delimiter_name kind b) ≡ feed_byte r b)
  byte-name r b h = name-told r (eqb (kind b) 1) (eqb (kind b) 3) (eqb (kind b) 6) h

  pieces-stretches : (r : Run) (s : List ℕ) → pieces_tell r (delimiter_pieces kind s) ≡ stretches_tell r (stretches kind s)
  unfolding delimiter_pieces stretches pieces_tell stretches_tell feed_bytes
  pieces-stretches r [] = refl
  pieces-stretches r (b ∷ s) =
      rw (on_pieces_lem r (delimiter_name kind b) b (delimiter_pieces kind s))
      (test (eqb (kind b) 3) (λ e. rw (eqb-true (kind b) 3 e, pieces-stretches idle s))
      (λ e.
      let n = byte-name r b e in
      rw (n.0, n.1, e, pieces-stretches (feed_byte r b) s) (sym (on_stretch_tells r b (stretches kind s) (stretches-some s)))))

  -- ## The values that a line writes are its stretches that are not blank

  -- a stretch tells what its bytes without the outer whitespace tell
  blank-feeds : (r : Run) (c : List ℕ) → blank kind c ≡ true → feed_bytes r c ≡ r
  unfolding feed_bytes unindented
  blank-feeds r [] h = refl
  blank-feeds r (b ∷ c) h = test (is_space kind b) (λ e. rw e (blank-feeds r c (rw e at h))) (λ e. absurd (false≢true (rw e at h)))

  untailed-feeds : (r : Run) (c : List ℕ) → feed_bytes r (untailed kind c) ≡ feed_bytes r c
  unfolding feed_bytes untailed
  untailed-feeds r [] = refl
  untailed-feeds r (b ∷ c) =
      test (is_space kind b && blank kind c) (λ e. let k = both_true (is_space kind b) (blank kind c) e in rw (e, k.0) (sym (blank-feeds r c k.1)))
      (λ e. rw e (untailed-feeds (feed_byte r b) c))

  unindented-feeds : (c : List ℕ) → feed_bytes idle (unindented kind c) ≡ feed_bytes idle c
  unfolding feed_bytes unindented
  unindented-feeds [] = refl
  unindented-feeds (b ∷ c) = by_cases (λ z. feed_bytes idle z ≡ feed_bytes idle (b ∷ c)) (is_space kind b) (λ e. rw e (unindented-feeds c)) (λ e. refl)

  trimmed_tells : (cs : List (List ℕ)) → stretches_tell idle (trimmed kind cs) ≡ stretches_tell idle cs
  unfolding stretches_tell trimmed
  trimmed_tells [] = refl
  trimmed_tells (c ∷ cs) = rw (untailed-feeds idle (unindented kind c), unindented-feeds c, trimmed_tells cs)

  unled_tells : (cs : List (List ℕ)) → stretches_tell idle (unled cs) ≡ stretches_tell idle cs
  unfolding stretches_tell feed_bytes
  unled_tells [] = refl
  unled_tells (c ∷ []) = refl
  unled_tells ([] ∷ d ∷ cs) = refl
  unled_tells ((b ∷ c) ∷ d ∷ cs) = refl

  untrailed_tells : (cs : List (List ℕ)) → stretches_tell idle (untrailed cs) ≡ stretches_tell idle cs
  unfolding stretches_tell feed_bytes untrailed
  untrailed_tells [] = refl
  untrailed_tells ([] ∷ []) = refl
  untrailed_tells ((b ∷ c) ∷ []) = refl
  untrailed_tells (c ∷ d ∷ cs) = ap (told (feed_bytes idle c)) (untrailed_tells (d ∷ cs))

  unfoldable unspaced : List ℕ → Bool
  unspaced [] = true
  unspaced (b ∷ s) = not (is_space kind b) && unspaced s

  behind-unspaced : (c : ℕ) (s : List ℕ) → is_empty s && eqb (kind c) 6 || hyphens kind (c ∷ s) ≡ true → (hyphens kind (c ∷ s) ≡ true → unspaced (c ∷ s) ≡ true) → unspaced (c ∷ s) ≡ true
  unfolding unspaced
  behind-unspaced c [] h f = test (eqb (kind c) 6) (λ e. rw (eqb-true (kind c) 6 e)) (λ e. f (rw e at h))
  behind-unspaced c (d ∷ s) h f = f h

  hyphens-unspaced : (s : List ℕ) → hyphens kind s ≡ true → unspaced s ≡ true
  unfolding hyphens unspaced
  hyphens-unspaced [] h = absurd (false≢true h)
  hyphens-unspaced (b ∷ []) h = rw (eqb-true (kind b) 5 h)
  hyphens-unspaced (b ∷ c ∷ s) h =
      let k = both_true (eqb (kind b) 5) _ h in
      rw (eqb-true (kind b) 5 k.0) (behind-unspaced c s k.1 (λ e. hyphens-unspaced (c ∷ s) e))

  value_unspaced : (v : List ℕ) → is_value kind v ≡ true → unspaced v ≡ true
  unfolding unspaced
  value_unspaced [] h = absurd (false≢true h)
  value_unspaced (b ∷ s) h =
      test (eqb (kind b) 6) (λ e. rw (eqb-true (kind b) 6 e) (hyphens-unspaced s (rw e at h))) (λ e. hyphens-unspaced (b ∷ s) (rw e at h))

  -- the last byte of a value is the latest
  unspaced-feeds : (f : Bool) (d : ℕ) (s : List ℕ) → unspaced s ≡ true → feed_bytes (run f (eqb (kind d) 6)) s ≡ run f (eqb (kind (last_byte d s)) 6)
  unfolding feed_bytes unspaced
  unspaced-feeds f d [] h = refl
  unspaced-feeds f d (b ∷ s) h = let k = both_true (not (is_space kind b)) (unspaced s) h in rw k.0 (unspaced-feeds f b s k.1)

  value_tells : (v : List ℕ) → is_value kind v ≡ true → (rest : List ℕ) → told (feed_bytes idle v) rest ≡ alignment kind v ∷ rest
  unfolding feed_bytes unspaced
  value_tells [] h rest = absurd (false≢true h)
  value_tells (b ∷ s) h rest =
      let k = both_true (not (is_space kind b)) (unspaced s) (value_unspaced (b ∷ s) h) in
      rw (k.0, unspaced-feeds (eqb (kind b) 6) b s k.1) (go (eqb (kind b) 6) (eqb (kind (last_byte b s)) 6))
    where
      go : (f l : Bool) → aligned f l ∷ rest ≡ cond f (cond l 4 2) (cond l 3 1) ∷ rest
      go true true = refl
      go true false = refl
      go false true = refl
      go false false = refl

  all_tell : (cs : List (List ℕ)) → all_values kind cs ≡ true → stretches_tell idle cs ≡ alignments kind cs
  unfolding stretches_tell all_values alignments
  all_tell [] h = refl
  all_tell (c ∷ cs) h = let k = both_true (is_value kind c) (all_values kind cs) h in rw (all_tell cs k.1) (value_tells c k.0 (alignments kind cs))

  -- a delimiter row's cells tell the alignments of the values that its line writes
  pub cells_tell_lem : (p : Point) (s : List ℕ) → all_values kind (values kind s) ≡ true → cells_tell idle (cells false (passed p (delimiter_pieces kind s))) ≡ alignments kind (values kind s)
  cells_tell_lem p s h =
      cells_runs idle false (passed p (delimiter_pieces kind s)) (λ k. k)
      ∙ runs_pieces idle p (delimiter_pieces kind s)
      ∙ pieces-stretches idle s
      ∙ sym (trimmed_tells (stretches kind s))
      ∙ sym (unled_tells (trimmed kind (stretches kind s)))
      ∙ sym (untrailed_tells (unled (trimmed kind (stretches kind s))))
      ∙ all_tell (values kind s) h

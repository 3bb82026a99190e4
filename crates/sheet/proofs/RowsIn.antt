-- The rows among a table's events are its head row, its delimiter row and its body rows.
-- Assumes nothing.
use Prim.Native.Nat.{ℕ}
use mathlib.Core.Path.{◌≡◌, refl, ap, ap₂, sym, ◌∙◌}
use mathlib.Core.List.{List, [], ◌∷◌, ◌++◌, append_assoc, append-nil}
use mathlib.Core.Bool.{true, false}
use Rattle.tokenizer.specs.declared.event.Point.{Point}
use Rattle.tokenizer.specs.declared.event.Event.{Event}
use Rattle.tokenizer.specs.Points.{past}
use Rattle.tokenizer.specs.Events.{GfmTableDelimiterRow, GfmTableDelimiterCell, enter, leave}
use Rattle.tokenizer.specs.Places.{Placed}
use Rattle.gfm_table.specs.Rows.{Row, raw_row}
use Rattle.gfm_table.specs.Raw.{text_row, delimiter_row}
use Rattle.edit_map.specs.Tables.{BodyRow, raw_body, raw_table, delimiter_inner, resolved_row, resolved_text, resolved_rows, resolved_body, resolved_table}
use Rattle.sheet.specs.Walk.{closes, body_rows, table_of}
use Rattle.sheet.specs.Demands.{is_row, enters_row, leaves_row, through_row, rows_in}
use Rattle.sheet.proofs.Lists.{All, empty, also}
use Rattle.sheet.proofs.Tests.{by_cases}
use Rattle.sheet.proofs.Every.{Good, Both, passed-all, all_both-all, delimiter_inner-all, cell_events-all, text_cells_all, cells-all, row_pieces_names, delimiter_pieces_names}

-- these events are whole rows, and others between them
record Whole (es : List Event) (rs : List (List Event)) : Type 0 where
  then : (zs : List Event) → rows_in (es ++ zs) ≡ rs ++ rows_in zs

whole_append : {es fs : List Event} {rs ss : List (List Event)} → Whole es rs → Whole fs ss → Whole (es ++ fs) (rs ++ ss)
whole_append {es} {fs} {rs} {ss} h k =
    record { then = λ zs. ap rows_in (append_assoc es fs zs) ∙ h.then (fs ++ zs) ∙ ap (λ z. rs ++ z) (k.then zs) ∙ sym (append_assoc rs ss (rows_in zs)) }

-- no row behind them
whole-end : {es fs : List Event} {rs : List (List Event)} → Whole es rs → Whole fs [] → Whole (es ++ fs) rs
whole-end {es} {fs} {rs} h k = record { then = λ zs. ap rows_in (append_assoc es fs zs) ∙ h.then (fs ++ zs) ∙ ap (λ z. rs ++ z) (k.then zs) }

whole-rows : {es : List Event} {rs : List (List Event)} → Whole es rs → rows_in es ≡ rs
unfolding rows_in
whole-rows {es} {rs} h = ap rows_in (sym (append-nil es)) ∙ h.then [] ∙ append-nil rs

nothing : Whole [] []
nothing = record { then = λ zs. refl }

other : {e : Event} {es : List Event} {rs : List (List Event)} → enters_row e ≡ false → Whole es rs → Whole (e ∷ es) rs
unfolding rows_in
other c h = record { then = λ zs. rw c (h.then zs) }

-- an event inside a row
record Calm (e : Event) : Type 0 where
  enters : enters_row e ≡ false
  leaves : leaves_row e ≡ false

calm : (n : ℕ) → is_row n ≡ false → Good Calm n
calm n h = record { enters = λ p. record { enters = h; leaves = refl }; leaves = λ p. record { enters = refl; leaves = h } }

through : {xs : List Event} (f : Event) (zs : List Event) → All Calm xs → leaves_row f ≡ true → through_row (xs ++ f ∷ zs) ≡ xs ++ (f ∷ [])
unfolding through_row
through f zs empty h = rw h
through f zs (also {a = x} k ks) h = rw k.leaves (ap (λ (z : List Event). x ∷ z) (through f zs ks h))

past_calm : {xs : List Event} (zs : List Event) → All Calm xs → rows_in (xs ++ zs) ≡ rows_in zs
unfolding rows_in
past_calm zs empty = refl
past_calm zs (also k ks) = rw k.enters (past_calm zs ks)

-- one row
one : (n : ℕ) → is_row n ≡ true → (p q : Point) {xs : List Event} → All Calm xs
    → Whole (enter n p ∷ xs ++ (leave n q ∷ [])) ((enter n p ∷ xs ++ (leave n q ∷ [])) ∷ [])
unfolding rows_in
one n r p q {xs} ks =
    let f = leave n q in
    record {
      then = λ zs.
          rw r
          (ap₂ (λ (y : List Event) (ys : List (List Event)). (enter n p ∷ y) ∷ ys)
          (ap through_row (append_assoc xs (f ∷ []) zs) ∙ through f zs ks r)
          (ap rows_in (append_assoc xs (f ∷ []) zs) ∙ past_calm (f ∷ zs) ks));
    }

-- ## The rows of a table

unfoldable pub body_events : (Row → List Event) → List BodyRow → List (List Event)
body_events f [] = []
body_events f (b ∷ bs) = f b.row ∷ body_events f bs

abbrev pub resolved_delimiter : Row → List Event
resolved_delimiter = resolved_row GfmTableDelimiterCell delimiter_inner

module _ (kind : ℕ → ℕ) (p : Point) (u : List ℕ) where
  text_calm : All (Both Calm) (text_row kind p u).pieces
  text_calm = passed-all Calm p (row_pieces_names kind (Good Calm) (calm _ refl) (calm _ refl) (calm _ refl) false u)

  raw-text : Whole (raw_row (text_row kind p u)) (raw_row (text_row kind p u) ∷ [])
  raw-text = one _ refl _ _ (all_both-all Calm text_calm)

  resolved-text : Whole (resolved_text (text_row kind p u)) (resolved_text (text_row kind p u) ∷ [])
  resolved-text = one _ refl _ _ (text_cells_all Calm (λ e h. record { enters = h.enters; leaves = h.leaves }) (calm _ refl) (calm _ refl) _ text_calm)

  delimiter_calm : All (Both Calm) (delimiter_row kind p u).pieces
  delimiter_calm = passed-all Calm p (delimiter_pieces_names kind (Good Calm) (calm _ refl) (calm _ refl) (calm _ refl) (calm _ refl) u)

  raw-delimiter : Whole (raw_row (delimiter_row kind p u)) (raw_row (delimiter_row kind p u) ∷ [])
  raw-delimiter = one _ refl _ _ (all_both-all Calm delimiter_calm)

  resolved-delimiter : Whole (resolved_delimiter (delimiter_row kind p u)) (resolved_delimiter (delimiter_row kind p u) ∷ [])
  resolved-delimiter =
      one _ refl _ _ (cell_events-all Calm GfmTableDelimiterCell (calm _ refl) delimiter_inner (λ xs. delimiter_inner-all Calm (calm _ refl)) _ (cells-all (Both Calm) false delimiter_calm))

module _ (kind : ℕ → ℕ) where
  raw_body-rows : (k : Placed) (ls : List Placed) → Whole (raw_body (body_rows kind k ls)) (body_events raw_row (body_rows kind k ls))
  unfolding raw_body body_rows body_events
  raw_body-rows k [] = nothing
  raw_body-rows k (l ∷ ls) =
      by_cases (λ z. Whole (raw_body z) (body_events raw_row z)) (closes kind l.line.body) (λ e. nothing)
      (λ e. other refl (other refl (whole_append (raw-text kind l.at l.line.body) (raw_body-rows l ls))))

  resolved_rows-rows : (k : Placed) (ls : List Placed) → Whole (resolved_rows (body_rows kind k ls)) (body_events resolved_text (body_rows kind k ls))
  unfolding resolved_rows body_rows body_events
  resolved_rows-rows k [] = nothing
  resolved_rows-rows k (l ∷ ls) =
      by_cases (λ z. Whole (resolved_rows z) (body_events resolved_text z)) (closes kind l.line.body) (λ e. nothing)
      (λ e. other refl (other refl (whole_append (resolved-text kind l.at l.line.body) (resolved_rows-rows l ls))))

  resolved_body-rows : (e : Event) (k : Placed) (ls : List Placed) → Whole (resolved_body e (body_rows kind k ls)) (body_events resolved_text (body_rows kind k ls))
  unfolding body_rows body_events
  resolved_body-rows e k [] = other refl nothing
  resolved_body-rows e k (l ∷ ls) =
      by_cases (λ z. Whole (resolved_body e z) (body_events resolved_text z)) (closes kind l.line.body) (λ f. other refl nothing)
      (λ f.
      other refl
      (other refl (other refl (whole_append (resolved-text kind l.at l.line.body) (whole-end (resolved_rows-rows l ls) (other refl (other refl nothing)))))))

  pub raw-rows : (l d : Placed) (ls : List Placed) → let t = table_of kind l d ls in rows_in (raw_table t) ≡ raw_row t.head ∷ raw_row t.delimiter ∷ body_events raw_row t.body
  raw-rows l d ls =
      whole-rows
      (other refl
      (whole_append (raw-text kind l.at l.line.body)
      (other refl (other refl (whole_append (raw-delimiter kind d.at d.line.body) (other refl (raw_body-rows d ls)))))))

  pub resolved-rows : (l d : Placed) (ls : List Placed)
      → let t = table_of kind l d ls in rows_in (resolved_table t) ≡ resolved_text t.head ∷ resolved_delimiter t.delimiter ∷ body_events resolved_text t.body
  resolved-rows l d ls =
      whole-rows
      (other refl
      (other refl
      (whole_append (resolved-text kind l.at l.line.body)
      (other refl (other refl (whole_append (resolved-delimiter kind d.at d.line.body) (other refl (resolved_body-rows (leave GfmTableDelimiterRow (past d.at d.line.body)) d ls))))))))

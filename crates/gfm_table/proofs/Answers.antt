-- The answers to the questions of a head.
-- Assumes nothing.
use Prim.Native.Nat.{ℕ}
use mathlib.Core.Path.{◌≡◌, refl}
use mathlib.Core.Bool.{Bool, true, false, cond, not}
use mathlib.Core.List.{List}
use native.Mathlib.Omega.{arith}
use borrow.Author.Tests.{eq-eqb, ne_eqb, eqb-true, eqb-false}
use lib.Dec.{eqb}
use lib.ListN.{length}
use Rattle.tokenizer.specs.declared.event.Point.{Point}
use Rattle.tokenizer.specs.Bytes.{Reads}
use Rattle.tokenizer.specs.Lines.{Line}
use Rattle.tokenizer.specs.Moves.{line_at, after}
use Rattle.gfm_table.specs.declared.heads.Opened.{Opened}
use Rattle.std.specs.Prelude.{Ok, Err}
use Rattle.tokenizer.specs.declared.refusal.Refusal.{Refusal}
use Rattle.tokenizer.specs.Refusals.{refusal_of}
use Rattle.gfm_table.specs.Rows.{row_pieces}
use Rattle.gfm_table.specs.Heads.{permitted, lone_divider, solid, head_cells, is_delimiter_row, values, head_refusal}
use Rattle.gfm_table.specs.Answers.{opened_at, head_at}

module _ {kind : ℕ → ℕ} (ok : Reads kind) (s : List ℕ) (p : Point) where
  abbrev body : List ℕ
  body = (line_at s p).body

  abbrev next : List ℕ
  next = (line_at s (after s p)).body

  module _ (on stray : Bool) where
    pub answer-3 : permitted kind on body ≡ false → Err Refusal.IndentTooWide ≡ head_at kind s p on stray
    answer-3 a = rw a

    module _ (a : permitted kind on body ≡ true) where
      pub answer-4_end : (line_at s p).end ≡ 0 → Err Refusal.NoHeadLine ≡ head_at kind s p on stray
      answer-4_end e = rw (a, eq-eqb (line_at s p).end 0 e)

      module _ (b : (line_at s p).end ≡ 0 → ⊥) where
        pub answer-4 : lone_divider (solid (row_pieces kind false body)) ≡ true → Err Refusal.NoHeadLine ≡ head_at kind s p on stray
        answer-4 e = rw (a, ne_eqb (line_at s p).end 0 b, e)

        module _ (l : lone_divider (solid (row_pieces kind false body)) ≡ false) where
          pub answer-5 : stray ≡ true → Err Refusal.LazyOrPierced ≡ head_at kind s p on stray
          answer-5 e = rw (a, ne_eqb (line_at s p).end 0 b, l, e)

          module _ (t : stray ≡ false) where
            pub answer-6 : is_delimiter_row kind on next ≡ false → Err Refusal.NoDelimiterRow ≡ head_at kind s p on stray
            answer-6 e = rw (a, ne_eqb (line_at s p).end 0 b, l, t, e)

            pub answer-7 : is_delimiter_row kind on next ≡ true → (length (values kind next) ≡ head_cells kind body → ⊥) → Err Refusal.ColumnsDiffer ≡ head_at kind s p on stray
            answer-7 e z = rw (a, ne_eqb (line_at s p).end 0 b, l, t, e, ne_eqb (length (values kind next)) (head_cells kind body) z)

            pub answer-0 : is_delimiter_row kind on next ≡ true → length (values kind next) ≡ head_cells kind body → Ok (opened_at kind s p) ≡ head_at kind s p on stray
            answer-0 e z = rw (a, ne_eqb (line_at s p).end 0 b, l, t, e, eq-eqb (length (values kind next)) (head_cells kind body) z)

-- the answers read backwards
refused_inv : (t : Bool) (m : ℕ) (r : Refusal) (o : Opened) → eqb m 0 ≡ t → Err r ≡ cond t (Ok o) (Err (refusal_of m)) → (r ≡ refusal_of m) × (m ≡ 0 → ⊥)
refused_inv true m r o e h = absurd (let z : ◌≡◌ {A = ℕ} 0 1 = cc in omega arith)
refused_inv false m r o e h = (cc, eqb-false m 0 e)

accepted_inv : (t : Bool) (m : ℕ) (o x : Opened) → eqb m 0 ≡ t → Ok x ≡ cond t (Ok o) (Err (refusal_of m)) → (x ≡ o) × (m ≡ 0)
accepted_inv true m o x e h = (cc, eqb-true m 0 e)
accepted_inv false m o x e h = absurd (let z : ◌≡◌ {A = ℕ} 0 1 = cc in omega arith)

module _ {kind : ℕ → ℕ} (ok : Reads kind) where
  module _ (s : List ℕ) (p : Point) (on stray : Bool) where
    abbrev no : ℕ
    no = head_refusal kind on stray (line_at s p) (line_at s (after s p))

    pub is-refused : (r : Refusal) → Err r ≡ head_at kind s p on stray → (r ≡ refusal_of no) × (no ≡ 0 → ⊥)
    is-refused r h = refused_inv (eqb no 0) no r (opened_at kind s p) refl h

    pub is-accepted : (o : Opened) → Ok o ≡ head_at kind s p on stray → (o ≡ opened_at kind s p) × (no ≡ 0)
    is-accepted o h = accepted_inv (eqb no 0) no (opened_at kind s p) o refl h

  -- a head that is accepted has a line end behind its line
  pub refused_end : (on stray : Bool) (l d : Line) → head_refusal kind on stray l d ≡ 0 → l.end ≡ 0 → ⊥
  refused_end on stray l d e z = go (permitted kind on l.body) (rw (eq-eqb l.end 0 z) at e)
    where
      go : (t : Bool) → ◌≡◌ {A = ℕ} (cond (not t) 3 4) 0 → ⊥
      go true f = omega arith
      go false f = omega arith

-- Tables by places.
use Rattle.std.specs.Prelude.{ℕ, ◌≡◌, List, [], ◌∷◌, Bool, length, Option, Some, None}
use Rattle.tokenizer.specs.declared.event.Point.{Point}
use Rattle.tokenizer.specs.Events.{GfmTableHead, leave, point_of}
use Rattle.tokenizer.specs.Places.{end_of, lines_from, lines_past}
use Rattle.tokenizer.specs.Moves.{line_at, after}
use Rattle.tokenizer.specs.Points.{start_of}
use Rattle.edit_map.specs.Tables.{last_exit}
use Rattle.sheet.specs.declared.spans.Tail.{Tail}
use Rattle.sheet.specs.declared.spans.Span.{Span}
use Rattle.sheet.specs.Walk.{Found, found as found_at, body_rows, heads, rows}
use Rattle.sheet.specs.From.{AtLine, here}

-- the first point of a table
abbrev pub head_of : Span → Point
head_of t = start_of t.head

module _ (kind : ℕ → ℕ) where
  -- where the last of the body rows after the line of a point is left; that line's end if there is none
  abbrev pub last_point : List ℕ → Point → Point
  last_point s p = point_of (last_exit (leave GfmTableHead (end_of (here s p))) (body_rows kind (here s p) (lines_past s p)))

  -- its index
  abbrev pub last_stop : List ℕ → Point → ℕ
  last_stop s p = (last_point s p).index

  -- the body rows after the line of a point are passed: where they end, and the line from which the tables behind them come
  pub record EndsBody (s : List ℕ) (p : Point) (r : Tail) : Type 0 where
    pub stop : r.stop ≡ last_stop s p
    pub at : AtLine s (start_of r.next)
    pub tables : (on : Bool) → rows kind on (lines_past s p) ≡ heads kind on (lines_from s (start_of r.next))

  -- the places of the table f, before the tables fs
  pub record Spanned (s : List ℕ) (on : Bool) (t : Span) (f : Found) (fs : List Found) : Type 0 where
    pub at : AtLine s (head_of t)
    pub ended : (line_at s (head_of t)).end ≡ 0 → ⊥
    pub table : f ≡ found_at kind on (here s (head_of t)) (here s (after s (head_of t))) (lines_past s (after s (head_of t)))
    pub delimiter : t.delimiter ≡ (after s (head_of t)).index
    pub cells : t.cells ≡ length f.aligned
    pub stop : t.stop ≡ last_stop s (after s (head_of t))
    pub next : AtLine s (start_of t.next)
    pub tables : fs ≡ heads kind on (lines_from s (start_of t.next))

  -- the first of some tables comes, with its places, or that there is none
  abbrev pub FirstTable : List ℕ → Bool → Option Span → List Found → Type 0
  FirstTable s on None fs = fs ≡ []
  FirstTable s on (Some t) [] = ⊥
  FirstTable s on (Some t) (f ∷ fs) = Spanned s on t f fs

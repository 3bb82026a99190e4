-- Heads with known readings: those that 01 stars, in one table that is checked by computing.
-- Assumes nothing.
use Prim.Native.Nat.{ℕ}
use mathlib.Core.Path.{◌≡◌, refl}
use mathlib.Core.List.{List, [], ◌∷◌}
use mathlib.Core.Bool.{Bool, true, false, ◌&&◌, ◌||◌, not}
use lib.Dec.{eqb}
use Rattle.tokenizer.specs.Bytes.{kind_of}
use Rattle.tokenizer.specs.Points as Points
use Rattle.tokenizer.specs.Lines as Lines
use Rattle.gfm_table.specs.Rows as Rows
use Rattle.gfm_table.specs.Heads as Heads
use Rattle.gfm_table.specs.Heads.{head_refusal, values, alignments}

-- the option, a head line, a delimiter line, and the reading: the number that refuses the head, or 0 and its alignments
pub record Reading : Type 0 where
  pub on : Bool
  pub head : List ℕ
  pub delimiter : List ℕ
  pub refusal : ℕ
  pub aligned : List ℕ

pub same : List ℕ → List ℕ → Bool
same [] [] = true
same [] (y ∷ ys) = false
same (x ∷ xs) [] = false
same (x ∷ xs) (y ∷ ys) = eqb x y && same xs ys

pub holds : Reading → Bool
holds c =
    let r = head_refusal kind_of c.on false (record { body = c.head; end = 1 }) (record { body = c.delimiter; end = 0 }) in
    eqb r c.refusal && (not (eqb r 0) || same (alignments kind_of (values kind_of c.delimiter)) c.aligned)

pub all : List Reading → Bool
all [] = true
all (c ∷ cs) = holds c && all cs

-- 32 is a space, 45 `-`, 58 `:`, 92 a backslash, 97 `a`, 98 `b`, 124 `|`
abbrev pub readings : List Reading
readings =
    record { on = true; head = 124 ∷ []; delimiter = 124 ∷ 45 ∷ 124 ∷ []; refusal = 4; aligned = [] }
    ∷ record { on = true; head = 124 ∷ 124 ∷ []; delimiter = 124 ∷ 45 ∷ 124 ∷ []; refusal = 0; aligned = 1 ∷ [] }
    ∷ record { on = true; head = 97 ∷ []; delimiter = 45 ∷ []; refusal = 6; aligned = [] }
    ∷ record { on = true; head = 97 ∷ []; delimiter = 58 ∷ 45 ∷ []; refusal = 0; aligned = 2 ∷ [] }
    ∷ record { on = true; head = 97 ∷ []; delimiter = 45 ∷ 124 ∷ []; refusal = 0; aligned = 1 ∷ [] }
    ∷ record { on = true; head = 97 ∷ 124 ∷ 98 ∷ []; delimiter = 58 ∷ 45 ∷ []; refusal = 7; aligned = [] }
    ∷ record { on = true; head = 97 ∷ 124 ∷ 98 ∷ []; delimiter = 45 ∷ 124 ∷ 45 ∷ 58 ∷ []; refusal = 0; aligned = 1 ∷ 3 ∷ [] }
    ∷ record { on = true; head = 97 ∷ []; delimiter = 58 ∷ []; refusal = 6; aligned = [] }
    ∷ record { on = true; head = 32 ∷ 32 ∷ 32 ∷ 97 ∷ []; delimiter = 58 ∷ 45 ∷ []; refusal = 0; aligned = 2 ∷ [] }
    ∷ record { on = true; head = 32 ∷ 32 ∷ 32 ∷ 32 ∷ 97 ∷ []; delimiter = 58 ∷ 45 ∷ []; refusal = 3; aligned = [] }
    ∷ record { on = false; head = 32 ∷ 32 ∷ 32 ∷ 32 ∷ 97 ∷ []; delimiter = 58 ∷ 45 ∷ []; refusal = 0; aligned = 2 ∷ [] }
    ∷ record { on = true; head = 97 ∷ 92 ∷ 124 ∷ 98 ∷ []; delimiter = 58 ∷ 45 ∷ 58 ∷ []; refusal = 0; aligned = 4 ∷ [] }
    ∷ record { on = true; head = 97 ∷ 92 ∷ 92 ∷ 124 ∷ 98 ∷ []; delimiter = 45 ∷ 124 ∷ 45 ∷ []; refusal = 0; aligned = 1 ∷ 1 ∷ [] }
    ∷ []

pub known : all readings ≡ true
unfolding all holds same kind_of Points.column_past Points.column_after Lines.indent Lines.unindented Rows.row_pieces Heads.solid Heads.dividers Heads.trailing Heads.stretches Heads.untailed Heads.trimmed Heads.untrailed Heads.hyphens Heads.all_values Heads.marked Heads.alignments
known = refl

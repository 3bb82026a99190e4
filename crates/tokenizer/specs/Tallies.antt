-- One pass over a table of kinds.
use Rattle.std.specs.Prelude.{ℕ, ◌+◌, ◌≤◌, List, Bool, true, cond, ◌&&◌, not, eqb}
use Rattle.tokenizer.specs.declared.kinds.Tally.{Tally}
use Rattle.tokenizer.specs.Bytes.{each, known, exact, count}

-- 1 for the kind k, 0 for another
abbrev pub one_if : ℕ → ℕ → ℕ
one_if j k = cond (eqb j k) 1 0

-- before the first entry
abbrev pub no_tally : Tally
no_tally = record { known = true; exact = true; pipes = 0; backslashes = 0; hyphens = 0; colons = 0 }

-- what is found with the byte b and its kind k
abbrev pub tally_step : Tally → ℕ → ℕ → Tally
tally_step p b k =
    record {
      known = p.known && known b k;
      exact = p.exact && exact b k;
      pipes = p.pipes + one_if k 3;
      backslashes = p.backslashes + one_if k 4;
      hyphens = p.hyphens + one_if k 5;
      colons = p.colons + one_if k 6;
    }

-- what is found with all entries, of which the first is that of byte b
abbrev pub tallied : Tally → ℕ → List ℕ → Tally
tallied p b t =
    record {
      known = p.known && each known b t;
      exact = p.exact && each exact b t;
      pipes = p.pipes + count 3 t;
      backslashes = p.backslashes + count 4 t;
      hyphens = p.hyphens + count 5 t;
      colons = p.colons + count 6 t;
    }

-- no count is above the number of entries that were passed
pub record Few (p : Tally) (n : ℕ) : Type 0 where
  pub pipes : p.pipes ≤ n
  pub backslashes : p.backslashes ≤ n
  pub hyphens : p.hyphens ≤ n
  pub colons : p.colons ≤ n

-- one byte of each of kinds 3 to 6, and kind 0 for `>`
abbrev pub single_by : Tally → ℕ → Bool
single_by p q = eqb p.pipes 1 && (eqb p.backslashes 1 && (eqb p.hyphens 1 && (eqb p.colons 1 && eqb q 0)))

-- questions 20, 21 and 22 of 256 entries, where q is the kind of `>`
abbrev pub refusal_by : Tally → ℕ → ℕ
refusal_by p q = cond (not p.known) 20 (cond (not p.exact) 21 (cond (not (single_by p q)) 22 0))

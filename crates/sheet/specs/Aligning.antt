-- Alignments that are written to lent slots.
use Rattle.std.specs.Prelude.{ℕ, ◌+◌, ◌-◌, ◌≡◌, List, [], ◌∷◌, ◌++◌, Bool, cond, ◌&&◌, not, eqb, leb, length, take, drop, replicate, Option, Some, None, is_some, IfSome}
use Rattle.tokenizer.specs.declared.kinds.Kind.{Kind}
use Rattle.tokenizer.specs.Bytes.{kind_number}
use Rattle.tokenizer.specs.Lines.{line_body, is_empty}
use Rattle.gfm_table.specs.Heads.{stretches, trimmed, untrailed, values, alignment, alignments}
use Rattle.gfm_table.specs.Delimiters.{stretch, written}
use Rattle.edit_map.specs.AlignSteps.{number_of}
use Rattle.sheet.specs.declared.align.Ends.{Ends}
use Rattle.sheet.specs.declared.align.Mark.{Mark}

-- what is left of a line at a place
abbrev pub line_from : List ℕ → ℕ → List ℕ
line_from s i = line_body (drop i s)

module _ (kind : ℕ → ℕ) where
  -- the alignments of the delimiter line at a place
  abbrev pub line_alignments : List ℕ → ℕ → List ℕ
  line_alignments s i = alignments kind (values kind (line_from s i))

  -- the alignments of the stretches from a place on, none for a last one that is empty
  abbrev pub aligns_from : List ℕ → ℕ → List ℕ
  aligns_from s i = alignments kind (untrailed (trimmed kind (stretches kind (line_from s i))))

-- ## The ends of a stretch: the kinds of its first and last byte that is no whitespace, and where it ends

-- the same with numbers for kinds
pub record EndNumbers : Type 0 where
  pub first : ℕ
  pub last : ℕ
  pub end : ℕ

-- the number of a kind, that of whitespace where there is none
abbrev pub end_number : Option Kind → ℕ
end_number None = 1
end_number (Some k) = kind_number k

-- those of some ends
abbrev pub end_numbers : Ends → EndNumbers
end_numbers e = record { first = end_number e.first; last = end_number e.last; end = e.end }

-- with one more byte of the kind k
abbrev pub ends_over : EndNumbers → ℕ → EndNumbers
ends_over e k = record { first = cond (eqb e.first 1) k e.first; last = cond (eqb k 1) e.last k; end = e.end + 1 }

module _ (kind : ℕ → ℕ) where
  -- with more bytes
  unfoldable pub ends_past : EndNumbers → List ℕ → EndNumbers
  ends_past e [] = e
  ends_past e (b ∷ u) = ends_past (ends_over e (kind b)) u

  -- those of the first stretch of u, which starts at i
  abbrev pub scanned : ℕ → List ℕ → EndNumbers
  scanned i u = ends_past (record { first = 1; last = 1; end = i }) (stretch kind u)

module _ (kind : ℕ → ℕ) where
  -- the first stretch of a line, from a place on: an empty one has no alignment
  pub record Marked (u : List ℕ) (i : ℕ) (m : Mark) : Type 0 where
    pub end : m.end ≡ i + length (stretch kind u)
    pub empty : is_some m.align ≡ not (is_empty (written kind u))
    pub align : IfSome m.align (λ a. number_of a ≡ alignment kind (written kind u))

-- ## Slots

-- the slots `out` with xs from the place n on
abbrev pub filled : ℕ → List ℕ → List ℕ → List ℕ
filled n xs out = take n out ++ (xs ++ drop (n + length xs) out)

-- the same where there are slots enough
abbrev pub filled_if : ℕ → List ℕ → List ℕ → List ℕ
filled_if n xs out = cond (leb (n + length xs) (length out)) (filled n xs out) out

-- n zeros
abbrev pub zeros : ℕ → List ℕ
zeros n = replicate n 0

-- some alignments and then zeros where they are wanted and fit, otherwise zeros
abbrev pub aligned_into : Bool → List ℕ → ℕ → List ℕ
aligned_into go xs n = cond (go && leb (length xs) n) (xs ++ zeros (n - length xs)) (zeros n)

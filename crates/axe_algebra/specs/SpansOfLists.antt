-- Spans of lists of rows: each word is that of the theory, said of the list's vectors.
use Rattle.std.specs.Prelude.{◌≡◌, ℕ, List, ◌++◌, map, length, get_or}
use Rattle.axe_algebra.specs.NumberField.{NumberField}
use Rattle.axe_algebra.specs.Bridge.{field_of, vector_of, matrix_of}
use Rattle.axe_algebra.specs.Spans
use Rattle.axe_algebra.specs.Reduced
use Rattle.axe_algebra.specs.Actions
use Rattle.axe_algebra.specs.Irreducible
use Rattle.axe_algebra.specs.Lists.{unit_row}

-- v is a combination of the rows
abbrev pub IsSpanned : NumberField → List (List ℕ) → List ℕ → Type 0
IsSpanned K rows v = Spans.InSpan (field_of K) (length rows) (matrix_of K rows) (vector_of K v)

-- the rows are independent
abbrev pub IsIndependent : NumberField → List (List ℕ) → Type 0
IsIndependent K rows = Spans.IsIndependent (field_of K) (length rows) (matrix_of K rows)

-- the two lists of rows have one span
abbrev pub HaveSameSpan : NumberField → List (List ℕ) → List (List ℕ) → Type 0
HaveSameSpan K rows others =
    Spans.SameSpan (field_of K) (length rows) (matrix_of K rows) (length others) (matrix_of K others)

-- the rows span all vectors of length n
abbrev pub SpansEverything : NumberField → ℕ → List (List ℕ) → Type 0
SpansEverything K n rows = Spans.SpansAll (field_of K) n (length rows) (matrix_of K rows)

-- v is in the null space of the matrix with these rows: v times it is zero
abbrev pub IsNullVector : NumberField → List (List ℕ) → List ℕ → Type 0
IsNullVector K rows v = Spans.IsNullVector (field_of K) (length rows) (matrix_of K rows) (vector_of K v)

-- `basis` is the reduced basis of the null space of the matrix with these rows
abbrev pub IsNullSpaceBasis : NumberField → List (List ℕ) → List (List ℕ) → Type 0
IsNullSpaceBasis K rows basis =
    Reduced.IsReducedBasisOf (field_of K) (Spans.IsNullVector (field_of K) (length rows) (matrix_of K rows))
    (length basis) (matrix_of K basis)

-- column j is a pivot of the rows' span
abbrev pub IsPivot : NumberField → List (List ℕ) → ℕ → Type 0
IsPivot K rows j = Reduced.IsPivot (field_of K) (length rows) (matrix_of K rows) j

-- `basis` is the reduced basis of the rows' span
abbrev pub IsReducedBasis : NumberField → List (List ℕ) → List (List ℕ) → Type 0
IsReducedBasis K rows basis =
    Reduced.IsReducedBasis (field_of K) (length rows) (matrix_of K rows) (length basis) (matrix_of K basis)

-- `reduced` is the representative of v modulo the rows' span: in its coset, and 0 at every pivot
abbrev pub IsRepresentative : NumberField → List (List ℕ) → List ℕ → List ℕ → Type 0
IsRepresentative K rows v reduced =
    Reduced.IsRepresentative (field_of K) (length rows) (matrix_of K rows) (vector_of K v) (vector_of K reduced)

-- w is in the annihilator of the rows of length n: orthogonal to each
abbrev pub IsInAnnihilator : NumberField → ℕ → List (List ℕ) → List ℕ → Type 0
IsInAnnihilator K n rows w = Irreducible.InAnnihilator (field_of K) n (length rows) (matrix_of K rows) (vector_of K w)

-- `basis` is the reduced basis of the annihilator of the rows of length n
abbrev pub IsAnnihilatorBasis : NumberField → ℕ → List (List ℕ) → List (List ℕ) → Type 0
IsAnnihilatorBasis K n rows basis =
    Reduced.IsReducedBasisOf (field_of K) (Irreducible.InAnnihilator (field_of K) n (length rows) (matrix_of K rows))
    (length basis) (matrix_of K basis)

-- `extended` has the rows of length n, then the unit vectors of the columns that are no pivots, ascending
pub record IsExtendedBasis (K : NumberField) (n : ℕ) (rows extended : List (List ℕ)) : Type 0 where
  pub columns : List ℕ
  pub free : Reduced.IsAscendingListOf (Actions.IsFree (field_of K) n (length rows) (matrix_of K rows)) (length columns)
      (λ t. get_or columns t 0)
  pub equals : extended ≡ rows ++ map (unit_row n) columns

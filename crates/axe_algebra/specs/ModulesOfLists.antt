-- Modules whose generators are lists of rows: each word is that of the theory, said of the lists' matrices.
use Rattle.std.specs.Prelude.{ℕ, List, length}
use Rattle.axe_algebra.specs.NumberField.{NumberField}
use Rattle.axe_algebra.specs.Bridge.{field_of, vector_of, matrix_of, module_of}
use Rattle.axe_algebra.specs.Reduced
use Rattle.axe_algebra.specs.Modules
use Rattle.axe_algebra.specs.Actions
use Rattle.axe_algebra.specs.Irreducible
use Rattle.axe_algebra.specs.Standard
use Rattle.axe_algebra.specs.Lists.{IsSquareOver}

-- the rows' span is invariant under the generators of dimension n
abbrev pub IsInvariant : NumberField → ℕ → List (List (List ℕ)) → List (List ℕ) → Type 0
IsInvariant K n generators rows =
    Modules.IsInvariant (field_of K) (module_of K n generators) (length rows) (matrix_of K rows)

-- v is in the space that the seed's rows generate
abbrev pub IsGenerated : NumberField → ℕ → List (List (List ℕ)) → List (List ℕ) → List ℕ → Type 0
IsGenerated K n generators seed v =
    Modules.InGenerated (field_of K) (module_of K n generators) (length seed) (matrix_of K seed) (vector_of K v)

-- the rows span what the seed's rows generate
abbrev pub Generates : NumberField → ℕ → List (List (List ℕ)) → List (List ℕ) → List (List ℕ) → Type 0
Generates K n generators seed rows =
    Modules.SpansGenerated (field_of K) (module_of K n generators) (length seed) (matrix_of K seed) (length rows)
    (matrix_of K rows)

-- `basis` is the reduced basis of the space that the seed's rows generate
abbrev pub IsGeneratedBasis : NumberField → ℕ → List (List (List ℕ)) → List (List ℕ) → List (List ℕ) → Type 0
IsGeneratedBasis K n generators seed basis =
    Reduced.IsReducedBasisOf (field_of K)
    (Modules.InGenerated (field_of K) (module_of K n generators) (length seed) (matrix_of K seed))
    (length basis) (matrix_of K basis)

-- the vector generates everything
abbrev pub GeneratesEverything : NumberField → ℕ → List (List (List ℕ)) → List ℕ → Type 0
GeneratesEverything K n generators v =
    Modules.VectorGeneratesAll (field_of K) (module_of K n generators) (vector_of K v)

-- the matrices are the sub action on the rows
abbrev pub IsSubAction : NumberField → ℕ → List (List (List ℕ)) → List (List ℕ) → List (List (List ℕ)) → Type 0
IsSubAction K n generators rows matrices =
    Actions.IsSubAction (field_of K) (module_of K n generators) (length rows) (matrix_of K rows)
    (module_of K (length rows) matrices)

-- the matrices of so many rows are the quotient action modulo the rows' span
abbrev pub IsQuotientAction : NumberField → ℕ → List (List (List ℕ)) → List (List ℕ) → ℕ → List (List (List ℕ)) → Type 0
IsQuotientAction K n generators rows size matrices =
    Actions.IsQuotientAction (field_of K) (module_of K n generators) (length rows) (matrix_of K rows) size
    (module_of K size matrices)

-- the rows are the standard basis of v
abbrev pub IsStandardBasis : NumberField → ℕ → List (List (List ℕ)) → List ℕ → List (List ℕ) → Type 0
IsStandardBasis K n generators v rows =
    Standard.IsStandardBasis (field_of K) (module_of K n generators) (vector_of K v) (length rows) (matrix_of K rows)

-- the module is irreducible
abbrev pub IsIrreducible : NumberField → ℕ → List (List (List ℕ)) → Type 0
IsIrreducible K n generators = Irreducible.IsIrreducible (field_of K) (module_of K n generators)

-- `matrix`, square of n rows, is an isomorphism from the generators g' to the generators g: it is invertible, and times
-- g' it is g times it
pub record IsIsomorphism (K : NumberField) (n : ℕ) (generators others : List (List (List ℕ)))
    (matrix : List (List ℕ)) : Type 0 where
  pub square : IsSquareOver K n matrix
  pub isomorphism : Irreducible.IsIsomorphism (field_of K) (module_of K n generators) (module_of K n others)
      (matrix_of K matrix)

-- the modules of dimensions n and m are isomorphic
abbrev pub AreIsomorphic : NumberField → ℕ → List (List (List ℕ)) → ℕ → List (List (List ℕ)) → Type 0
AreIsomorphic K n generators m others =
    Irreducible.AreIsomorphic (field_of K) (module_of K n generators) (module_of K m others)

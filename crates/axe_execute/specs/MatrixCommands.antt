-- What the commands of matrices mean.
use Rattle.std.specs.Prelude.{◌≡◌, ℕ, List, Option, Ok}
use Rattle.axe_row.specs.Refusals.{RefusedAs}
use Rattle.axe_row.specs.declared.refusals.Refusal.TheVariants.{Singular}
use Rattle.axe_matrix.specs.Matrices.{MatrixValue, IsMatrix, product_refusal, matrix_product, sum_refusal}
use Rattle.axe_matrix.specs.Matrices.{sum_of_matrices, transpose_refusal, transposed_matrix}
use Rattle.axe_reduction.specs.Solutions.{IsInverseMatrix}
use Rattle.axe_echelon.specs.Echelons.{null_space_refusal, IsNullSpaceMatrix, inverse_refusal}
use Rattle.axe_reduction.specs.Solutions.{IsInvertibleMatrix}
use Rattle.axe_folder.specs.Files.{Files}
use Rattle.axe_plan.specs.Plans.{Plan}
use Rattle.axe_plan.specs.Meanings.{Meaning, Is, Has, HasOr, UnlessRefused, ◌>>=◌}
use Rattle.axe_plan.specs.Inputs.{matrix_in, text_matrix_in}
use Rattle.axe_plan.specs.Outputs.{put_packed, put_or_show_text}

-- the product of two matrices, unless it refuses them
unfoldable pub ProductOf : MatrixValue → MatrixValue → Meaning MatrixValue
ProductOf a b = UnlessRefused (product_refusal a b) (Has (λ product. product ≡ matrix_product a b))

-- the sum of two matrices, unless it refuses them
unfoldable pub SumOf : MatrixValue → MatrixValue → Meaning MatrixValue
SumOf a b = UnlessRefused (sum_refusal a b) (Has (λ sum. sum ≡ sum_of_matrices a b))

-- the transpose of a matrix, unless it refuses it
unfoldable pub TransposeOf : MatrixValue → Meaning MatrixValue
TransposeOf a = UnlessRefused (transpose_refusal a) (Has (λ transpose. transpose ≡ transposed_matrix a))

-- the inverse of a matrix, which has to be square; where there is none it is refused as singular
unfoldable pub InverseOf : MatrixValue → Meaning MatrixValue
InverseOf a =
    UnlessRefused (inverse_refusal a) (HasOr (IsInverseMatrix a) (RefusedAs Singular (¬ (IsInvertibleMatrix a))))

-- the reduced basis of the null space of a matrix, unless it has no rows
unfoldable pub NullSpaceOf : MatrixValue → Meaning MatrixValue
NullSpaceOf a = UnlessRefused (null_space_refusal a) (Has (λ basis. IsNullSpaceMatrix a basis × IsMatrix basis))

-- `zcv`: the matrix of which a file is a text is put, packed
unfoldable pub ConversionPlan : List ℕ → List ℕ → Files → Meaning Plan
ConversionPlan input out files = do
  a ← Is (text_matrix_in files input)
  Is (Ok (put_packed out a))

-- `zpr`: the text of a packed matrix is put, or shown
unfoldable pub PrintingPlan : List ℕ → Option (List ℕ) → Files → Meaning Plan
PrintingPlan input out files = do
  a ← Is (matrix_in files input)
  Is (Ok (put_or_show_text out a))

-- what an operation makes of a packed matrix is put, packed
unfoldable pub PlanOfOne : (MatrixValue → Meaning MatrixValue) → List ℕ → List ℕ → Files → Meaning Plan
PlanOfOne operation input out files = do
  a ← Is (matrix_in files input)
  made ← operation a
  Is (Ok (put_packed out made))

-- what an operation makes of two packed matrices is put, packed
unfoldable pub PlanOfTwo : (MatrixValue → MatrixValue → Meaning MatrixValue) → List ℕ → List ℕ → List ℕ → Files →
    Meaning Plan
PlanOfTwo operation left right out files = do
  a ← Is (matrix_in files left)
  b ← Is (matrix_in files right)
  made ← operation a b
  Is (Ok (put_packed out made))

-- `zmu`: the product of two packed matrices is put, packed
abbrev pub ProductPlan : List ℕ → List ℕ → List ℕ → Files → Meaning Plan
ProductPlan left right out files = PlanOfTwo ProductOf left right out files

-- `zad`: the sum of two packed matrices is put, packed
abbrev pub SumPlan : List ℕ → List ℕ → List ℕ → Files → Meaning Plan
SumPlan left right out files = PlanOfTwo SumOf left right out files

-- `ztr`: the transpose of a packed matrix is put, packed
abbrev pub TransposePlan : List ℕ → List ℕ → Files → Meaning Plan
TransposePlan input out files = PlanOfOne TransposeOf input out files

-- `ziv`: the inverse of a packed matrix is put, packed
abbrev pub InversePlan : List ℕ → List ℕ → Files → Meaning Plan
InversePlan input out files = PlanOfOne InverseOf input out files

-- `znu`: the reduced basis of the null space of a packed matrix is put, packed
abbrev pub NullSpacePlan : List ℕ → List ℕ → Files → Meaning Plan
NullSpacePlan input out files = PlanOfOne NullSpaceOf input out files

-- The steps that gave the rows of an echelon form, one for each row that was new.
use Rattle.std.specs.Prelude.{◌≡◌, ℕ, ◌<◌, List, All, map, length, get_or}
use Rattle.axe_algebra.specs.Vectors.{times}
use Rattle.axe_algebra.specs.Bridge.{vector_of, matrix_of}
use Rattle.axe_algebra.specs.Lists.{listed, IsVectorOver}
use Rattle.axe_algebra.specs.SpansOfLists.{IsIndependent}
use Rattle.axe_field.specs.Order.{Order}
use Rattle.axe_field.specs.Arithmetic.{field_neg}
use Rattle.axe_field.specs.NumberFields.{number_field, gf}
use Rattle.axe_row.specs.Operations.{IsZeroVector}
use Rattle.axe_row.specs.Rows.{RowValue}
use Rattle.axe_echelon.specs.Echelons.{EchelonValue, IsEchelon}
use Rattle.axe_echelon.specs.Forms.{IsCombined}
use Rattle.axe_echelon.specs.declared.Step.{Step}

-- the rows as they were inserted
abbrev pub inserted_rows : List Step → List (List ℕ)
inserted_rows steps = map (λ (step : Step). step.inserted.entries) steps

-- what was added to each inserted row: the multipliers of the rows of the echelon form before it
abbrev pub multiplier_rows : List Step → List (List ℕ)
multiplier_rows steps = map (λ (step : Step). step.multipliers.entries) steps

-- what each sum was multiplied by
abbrev pub scalars : List Step → List ℕ
scalars steps = map (λ (step : Step). step.scalar) steps

-- what these steps have inserted, which spans the space
abbrev pub echelon_of : EchelonValue → List Step → EchelonValue
echelon_of space steps = record { order = space.order; cols = space.cols; rows = inserted_rows steps }

-- the rows of a step are over one field, as its scalar is, and as long as the echelon form has columns
pub record IsStep (order : Order) (cols : ℕ) (step : Step) : Type 0 where
  pub multipliers_field : step.multipliers.order ≡ order
  pub inserted_over : IsVectorOver (number_field order) cols step.inserted.entries
  pub multipliers_over : IsVectorOver (number_field order) cols step.multipliers.entries
  pub scalar_below : step.scalar < (number_field order).order

-- the steps insert independent rows, and each gave the space's row that is as far from the first
pub record HasSteps (space : EchelonValue) (steps : List Step) : Type 0 where
  pub well_formed : IsEchelon space
  pub count : length steps ≡ length space.rows
  pub each : All (IsStep space.order space.cols) steps
  pub independent : IsIndependent (number_field space.order) (inserted_rows steps)
  pub combined : IsCombined (gf space.order) (length space.rows) (matrix_of (number_field space.order) (inserted_rows steps))
      (matrix_of (number_field space.order) space.rows) (matrix_of (number_field space.order) (multiplier_rows steps))
      (vector_of (number_field space.order) (scalars steps))

-- the combination of the inserted rows with these coefficients is that of the rows of the echelon form with the
-- multipliers
pub record IsSolved (space : EchelonValue) (steps : List Step) (multipliers coefficients : RowValue) : Type 0 where
  pub field : coefficients.order ≡ space.order
  pub over : IsVectorOver (number_field space.order) space.cols coefficients.entries
  pub same : times (gf space.order) (length space.rows) (vector_of (number_field space.order) multipliers.entries)
      (matrix_of (number_field space.order) space.rows) ≡
      times (gf space.order) (length space.rows) (vector_of (number_field space.order) coefficients.entries)
      (matrix_of (number_field space.order) (inserted_rows steps))

-- the coordinates of a row of which nothing is left: the negatives of what the multipliers became, so far as there are
-- steps
pub record AreSolvedCoordinates (space : EchelonValue) (steps : List Step) (rest multipliers solved coordinates : RowValue) : Type 0 where
  pub nothing_left : IsZeroVector rest.entries
  pub solution : IsSolved space steps multipliers solved
  pub negated : coordinates ≡ record {
    order = solved.order;
    entries = listed (length steps) (λ j. field_neg solved.order (get_or solved.entries j 0));
  }

-- Of the small factors of a square matrix a first one fits it, or none does; and polynomials have values there.
use Rattle.std.specs.Prelude.{◌≢◌, ℕ, ◌<◌, ◌⊎◌, List}
use Rattle.std.specs.List.{Contains}
use Rattle.std.proofs.lemmas.List.Elements.{All-contains}
use Rattle.axe_algebra.specs.NumberField.{NumberField}
use Rattle.axe_algebra.specs.Field.{Field}
use Rattle.axe_algebra.specs.Vectors.{Vector, zero_vector}
use Rattle.axe_algebra.specs.Bridge.{field_of, vector_of}
use Rattle.axe_algebra.specs.Lists.{unit_row, IsSquareOver}
use Rattle.axe_algebra.proofs.ListVectors.{vector_of_unit_row}
use Rattle.axe_algebra.proofs.ProductLaws.{unit_at}
use Rattle.axe_polynomial_algebra.specs.PolynomialsOfLists.{polynomial_number, IsFactorUpTo, AreFactorsUpTo}
use Rattle.axe_polynomial_algebra.specs.PolynomialsOfLists.{IsPolynomialValue, IsMinimalPolynomial, Fits}
use Rattle.axe_polynomial_algebra.proofs.ListFactors.{factors_exist}
use Rattle.axe_polynomial_algebra.proofs.MinimalLists.{list_minimal_polynomial_exists, list_minimal_polynomial_is_unique}
use Rattle.axe_polynomial_algebra.proofs.ValueLists.{list_value_exists}
use Rattle.axe_polynomial_algebra.proofs.VectorFits.{fits_is_decidable}
use Rattle.axe_field.specs.Order.{order_number}
use Rattle.axe_field.specs.NumberFields.{number_field}
use Rattle.axe_matrix.specs.Matrices.{MatrixValue, IsMatrix}
use Rattle.axe_echelon.specs.Echelons.{IsNullSpaceMatrix}
use Rattle.axe_echelon.proofs.SomeMatrix.{matrix_of_rows_over, some_null_space}
use Rattle.axe_poly.specs.Limits.{greatest_degree}
use Rattle.axe_poly.specs.Polys.{PolyValue, poly_with}
use Rattle.axe_word.specs.declared.tested.Tested.{Tested}
use Rattle.axe_word.specs.Tested.{IsTestedAt}
use Rattle.axe_norton.specs.SmallFactors.{IsSmallFactor, IsFirstFitting, NoneFits}
use Rattle.axe_norton.proofs.FactorLaws.{unit_over}
use Rattle.axe_series.proofs.LeastWith.{IsLeastWith, SomeLeast, some_least}
use mathlib.Core.Logic.{inl, inr}
use mathlib.Core.Path.{refl, sym, ◌∙◌, ap, subst}
use native.Mathlib.Omega.{arith}

-- ---- the first unit vector

module _ (K : NumberField) (n : ℕ) (some : 0 < n) where
  unit_nonzero : vector_of K (unit_row n 0) ≢ zero_vector (field_of K)
  unit_nonzero zero =
      F.one-not-zero
      (sym (unit_at F 0) ∙ ap (λ (v : Vector F). v 0) (sym (vector_of_unit_row K n 0 some) ∙ zero))
    where
      F : Field
      F = field_of K

-- ---- the small factors

module _ (x : MatrixValue) (square : IsSquareOver (number_field x.order) x.cols x.rows) (some : 0 < x.cols) where
  abbrev K : NumberField
  K = number_field x.order

  -- they are the irreducible divisors, up to the greatest degree, of the one minimal polynomial of the first unit vector
  module _ (minimal : List ℕ) (is_minimal : IsMinimalPolynomial K x.rows (unit_row x.cols 0) minimal) where
    abbrev IsListed : List ℕ → Type 0
    IsListed p = IsFactorUpTo K minimal (greatest_degree x.order) p

    listed_is_small : (p : List ℕ) → IsListed p → IsSmallFactor x (poly_with x.order p)
    listed_is_small p listed = record {
      minimal = poly_with x.order minimal;
      is_minimal = record { field = refl; minimal = is_minimal };
      field = refl;
      factor = listed;
    }

    small_is_listed : (p : PolyValue) → IsSmallFactor x p → IsListed p.coefficients
    small_is_listed p small =
        subst (λ (f : List ℕ). IsFactorUpTo K f (greatest_degree x.order) p.coefficients)
        (list_minimal_polynomial_is_unique K x.cols x.rows (unit_row x.cols 0) small.minimal.coefficients minimal square
        (unit_over K x.cols 0) small.is_minimal.minimal is_minimal) small.factor

    -- the first in their list that fits, or none
    module _ (factors : List (List ℕ)) (are : AreFactorsUpTo K minimal (greatest_degree x.order) factors) where
      abbrev number : List ℕ → ℕ
      number p = polynomial_number (order_number x.order) p

      first_of_least : (p : List ℕ) → IsLeastWith (Fits K x.rows) number factors p → IsFirstFitting x (poly_with x.order p)
      first_of_least p least = record {
        fitting = record {
          factor = listed_is_small p (All-contains IsListed factors p are.each least.among);
          fits = least.has;
        };
        first = λ other is.
            least.least other.coefficients (are.all other.coefficients (small_is_listed other is.factor)) is.fits;
      }

      none_of_list : ((p : List ℕ) → Contains factors p → ¬ (Fits K x.rows p)) → NoneFits x
      none_of_list none p is = none p.coefficients (are.all p.coefficients (small_is_listed p is.factor)) is.fits

      first_in_list : ((p : PolyValue) × IsFirstFitting x p) ⊎ NoneFits x
      first_in_list = from (some_least (Fits K x.rows) number (λ p. fits_is_decidable K x.cols x.rows p square) factors)
        where
          from : SomeLeast (Fits K x.rows) number factors → ((p : PolyValue) × IsFirstFitting x p) ⊎ NoneFits x
          from (inl (p, least)) = inl (poly_with x.order p, first_of_least p least)
          from (inr none) = inr (none_of_list none)

    in_list : (factors : List (List ℕ)) × AreFactorsUpTo K minimal (greatest_degree x.order) factors →
        ((p : PolyValue) × IsFirstFitting x p) ⊎ NoneFits x
    in_list (factors, are) = first_in_list factors are

  of_minimal : (f : List ℕ) × IsMinimalPolynomial K x.rows (unit_row x.cols 0) f →
      ((p : PolyValue) × IsFirstFitting x p) ⊎ NoneFits x
  of_minimal (f, is_minimal) = in_list f is_minimal (factors_exist K f (greatest_degree x.order))

  -- a first small factor fits, or none does
  pub some_first_fitting : ((p : PolyValue) × IsFirstFitting x p) ⊎ NoneFits x
  some_first_fitting =
      of_minimal
      (list_minimal_polynomial_exists K x.cols x.rows (unit_row x.cols 0) square (unit_over K x.cols 0)
      (unit_nonzero K x.cols some))

-- ---- the value of a polynomial

-- the value of a polynomial at a square matrix, and the reduced basis of its null space
abbrev pub SomeTested : PolyValue → MatrixValue → Type 0
SomeTested p x = (t : Tested) × (IsTestedAt p x t × IsMatrix t.matrix)

module _ (x : MatrixValue) (square : IsSquareOver (number_field x.order) x.cols x.rows) (well : IsMatrix x)
    (p : PolyValue) where
  of_value : (value : List (List ℕ)) × IsPolynomialValue (number_field x.order) p.coefficients x.rows value →
      SomeTested p x
  of_value (value, is_value) = of_null (some_null_space made formed (omega (arith, square_value.length_is, well.some_column)))
    where
      made : MatrixValue
      made = record { order = x.order; cols = x.cols; rows = value }

      square_value : IsSquareOver (number_field x.order) x.cols value
      square_value =
          subst (λ n. IsSquareOver (number_field x.order) n value) square.length_is is_value.square

      formed : IsMatrix made
      formed =
          matrix_of_rows_over x.order x.cols value well.some_column well.columns_fit
          (omega (arith, square_value.length_is, square.length_is, well.rows_fit)) square_value.matrix

      of_null : (null : MatrixValue) × (IsNullSpaceMatrix made null × IsMatrix null) → SomeTested p x
      of_null (null, (is_null, well_formed)) = (
        record { matrix = made; null_space = null },
        (
          record {
            value = record { field = refl; columns = refl; value_is = is_value };
            tested = record { null_space = is_null; well_formed = well_formed };
          },
          formed,
        ),
      )

  -- it has one
  pub some_tested : SomeTested p x
  some_tested = of_value (list_value_exists (number_field x.order) x.cols p.coefficients x.rows square)

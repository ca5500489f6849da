-- What the reduced basis of the null space of a deciding matrix shows: the points of the null space are null vectors of that matrix and vectors of
-- the module, and the null space is small where it has few points, or where a polynomial fits the word's value. This is what a form asks for.
use Rattle.std.proofs.Common.{◌≡◌, ℕ, ◌<◌, ◌≤◌, List, [], All, length, get_or, Option, Some, None, sym, subst, ◌∙◌}
use Rattle.axe_algebra.specs.NumberField.{NumberField}
use Rattle.axe_algebra.specs.Vectors.{Matrix}
use Rattle.axe_algebra.specs.Bridge.{vector_of, matrix_of}
use Rattle.axe_algebra.specs.SpansOfLists.{IsSpanned}
use Rattle.axe_algebra.specs.PointTheorems.{IsNonzeroSpanned}
use Rattle.axe_polynomial_algebra.specs.PolynomialValues
use Rattle.axe_polynomial_algebra.specs.PolynomialsOfLists.{degree_of, IsIrreduciblePolynomial, Fits}
use Rattle.axe_field.specs.Order.{IsElement, order_number}
use Rattle.axe_field.specs.NumberFields.{number_field, gf}
use Rattle.axe_field.proofs.NumberFields.{number_field-order}
use Rattle.axe_row.specs.Rows.{RowValue}
use Rattle.axe_matrix.specs.Matrices.{MatrixValue}
use Rattle.axe_poly.specs.Limits.{greatest_degree}
use Rattle.axe_poly.specs.Polys.{PolyValue}
use Rattle.axe_spin.specs.Modules.{ModuleValue}
use Rattle.axe_spin.specs.SpinLaws.{IsVectorOf}
use Rattle.axe_word.specs.Words.{IsValueOf}
use Rattle.axe_word.specs.Drawing.{drawn_word}
use Rattle.axe_word.specs.PointsOfMatrix.{point_count, most_points, points_of}
use Rattle.axe_iso.specs.Forms.{IsNullVectorOf, HasSmallNullSpaceOf, IsNullSpaceOf}
use Rattle.axe_iso.proofs.FormLaws.{IsDecidingSpace, deciding_space, point_in_module, nullity_of_space}

-- ---- small null spaces

-- a null space of a word's value with few points
pub few_null_points : (m : ModuleValue) (seed number : ℕ) (space : MatrixValue) → IsNullSpaceOf m seed number None space →
    point_count (order_number space.order) (length space.rows) ≤ most_points → HasSmallNullSpaceOf m seed number None
few_null_points m seed number space is_space few = record {
  nullity = length space.rows;
  is_nullity = nullity_of_space m seed number None space is_space;
  few = subst (λ o. point_count (order_number o) (length space.rows) ≤ most_points) (deciding_space m seed number None space is_space).field few;
}

-- an irreducible polynomial of no more than the greatest degree that fits the word's value
pub fitting_is_small : (m : ModuleValue) (seed number : ℕ) (p : PolyValue) (x : MatrixValue) →
    IsValueOf m (drawn_word seed number (order_number m.order) (length m.generators)) x → p.order ≡ x.order →
    IsIrreduciblePolynomial (number_field x.order) p.coefficients → degree_of p.coefficients ≤ greatest_degree x.order →
    Fits (number_field x.order) x.rows p.coefficients → HasSmallNullSpaceOf m seed number (Some p)
fitting_is_small m seed number p x is_value field irreducible small fits = record {
  field = field ∙ is_value.field;
  irreducible = subst (λ o. IsIrreduciblePolynomial (number_field o) p.coefficients) is_value.field irreducible;
  small = subst (λ o. degree_of p.coefficients ≤ greatest_degree o) is_value.field small;
  fits =
      subst (λ (a : Matrix (gf m.order)). PolynomialValues.Fits (gf m.order) m.dim a (degree_of p.coefficients) (vector_of K p.coefficients))
      is_value.value.value
      (subst (λ n. PolynomialValues.Fits (gf m.order) n (matrix_of K x.rows) (degree_of p.coefficients) (vector_of K p.coefficients))
      is_value.value.square.length_is (subst (λ o. Fits (number_field o) x.rows p.coefficients) is_value.field fits));
}
  where
    K : NumberField
    K = number_field m.order

-- ---- the points of a null space

module _ (m : ModuleValue) (seed number : ℕ) (poly : Option PolyValue) (space : MatrixValue) (is_space : IsNullSpaceOf m seed number poly space) where
  abbrev K : NumberField
  K = number_field m.order

  facts : IsDecidingSpace m seed number poly space
  facts = deciding_space m seed number poly space is_space

  pub spanned_is_null_vector : (v : List ℕ) → IsSpanned K space.rows v → IsNullVectorOf m seed number poly v
  spanned_is_null_vector v spanned = facts.basis.forth (vector_of K v) spanned

  -- point number j of the null space
  module _ (j : ℕ) (inside : j < length (points_of space)) (v : RowValue) (entries : v.entries ≡ get_or (points_of space) j []) where
    point : IsNonzeroSpanned K m.dim space.rows v.entries
    point = subst (IsNonzeroSpanned K m.dim space.rows) (sym entries) (point_in_module m _ space facts j inside)

    pub point_is_null_vector : IsNullVectorOf m seed number poly v.entries
    point_is_null_vector = spanned_is_null_vector v.entries point.spanned

    pub point_is_vector : v.order ≡ m.order → IsVectorOf m v
    point_is_vector field = record {
      field = field;
      fits = point.over.length_is;
      well_formed = record {
        elements = subst (λ o. All (IsElement o) v.entries) (sym field)
            (subst (λ q. All (λ number. number < q) v.entries) (number_field-order m.order) point.over.elements);
      };
    }

-- Small null spaces of deciding matrices: their dimensions, how many points they have, and that they stay small in other generators; the field of
-- the polynomial.
use Rattle.std.proofs.Common.{◌≡◌, ℕ, suc, ◌-◌, ◌*◌, ◌≤◌, List, length, Option, Some, None, sym, subst, ◌∙◌, arith}
use Rattle.std.specs.Option.{ForSome}
use Rattle.axe_algebra.specs.NumberField.{NumberField}
use Rattle.axe_algebra.specs.Bridge.{vector_of}
use Rattle.axe_algebra.proofs.PointLists.{count_times}
use Rattle.axe_polynomial_algebra.specs.PolynomialValues.{polynomial_value}
use Rattle.axe_polynomial_algebra.specs.PolynomialsOfLists.{degree_of, IsIrreduciblePolynomial}
use Rattle.axe_field.specs.Order.{Order, order_number}
use Rattle.axe_field.specs.NumberFields.{number_field, gf}
use Rattle.axe_field.proofs.Orders.{order_number-at_least}
use Rattle.axe_poly.specs.Limits.{greatest_degree}
use Rattle.axe_poly.specs.Polys.{PolyValue}
use Rattle.axe_poly.proofs.PolyLaws.{power_fits}
use Rattle.axe_word.specs.Limits.{most_points_in_turn}
use Rattle.axe_word.specs.PointsOfMatrix.{point_count}
use Rattle.axe_iso.specs.Forms.{FormValue, HasNullity, FitsMatrix, HasSmallNullSpace, IsForm, deciding_matrix, drawn_value}
use native.Mathlib.Nat.{mul-one, mul-le-mul_left}

-- ---- dimensions and points

-- a space of no more dimensions than the greatest degree has no more points than are gone over
few_of_degree : (o : Order) (d : ℕ) → d ≤ greatest_degree o → point_count (order_number o) d ≤ most_points_in_turn
few_of_degree o d small =
    let counted = count_times (order_number o) d (order_number-at_least o) in
    let power = power_fits o d small in
    let least : point_count (order_number o) d * 1 ≤ point_count (order_number o) d * (order_number o - 1) =
    mul-le-mul_left (point_count (order_number o) d) (omega (arith, order_number-at_least o)) in
    omega (arith, counted, power, least, mul-one (point_count (order_number o) d))

-- a polynomial has one coefficient more than its degree
coefficient_count : (o : Order) (p : PolyValue) → IsIrreduciblePolynomial (number_field o) p.coefficients → suc (degree_of p.coefficients) ≡ length p.coefficients
coefficient_count o p irreducible = omega (arith, irreducible.over.positive)

module _ (o : Order) (seed number : ℕ) where
  abbrev K : NumberField
  K = number_field o

  -- the nullity of p(x) for a word's value x
  abbrev spans_with : ℕ → List (List (List ℕ)) → PolyValue → ℕ → Type 0
  spans_with dim generators p m = HasNullity o dim
      (polynomial_value (gf o) dim m (vector_of K p.coefficients) (drawn_value o dim generators seed number)) (degree_of p.coefficients)

  nullity_of_fitting : (dim : ℕ) (generators : List (List (List ℕ))) (p : PolyValue) → FitsMatrix o dim (drawn_value o dim generators seed number) p →
      HasNullity o dim (deciding_matrix o dim generators seed number (Some p)) (degree_of p.coefficients)
  nullity_of_fitting dim generators p fits =
      subst (spans_with dim generators p) (coefficient_count o p fits.irreducible)
      (record { basis = fits.fits.basis; spans = fits.fits.spans; independent = fits.fits.independent })

  module _ (dim : ℕ) (generators : List (List (List ℕ))) where
    -- the dimension of a small null space
    pub small_dimension : (poly : Option PolyValue) → HasSmallNullSpace o dim generators seed number poly → ℕ
    small_dimension None few = few.nullity
    small_dimension (Some p) fits = degree_of p.coefficients

    pub small_nullity : (poly : Option PolyValue) (small : HasSmallNullSpace o dim generators seed number poly) →
        HasNullity o dim (deciding_matrix o dim generators seed number poly) (small_dimension poly small)
    unfolding small_dimension
    small_nullity None few = few.is_nullity
    small_nullity (Some p) fits = nullity_of_fitting dim generators p fits

    pub small_count : (poly : Option PolyValue) (small : HasSmallNullSpace o dim generators seed number poly) →
        point_count (order_number o) (small_dimension poly small) ≤ most_points_in_turn
    unfolding small_dimension
    small_count None few = omega (arith, few.few)
    small_count (Some p) fits = few_of_degree o (degree_of p.coefficients) fits.small

    -- it is small in other generators, too, where it has the same dimension
    pub small_elsewhere : (poly : Option PolyValue) (small : HasSmallNullSpace o dim generators seed number poly) (dim' : ℕ) (others : List (List (List ℕ))) →
        HasNullity o dim' (deciding_matrix o dim' others seed number poly) (small_dimension poly small) → HasSmallNullSpace o dim' others seed number poly
    unfolding small_dimension
    small_elsewhere None few dim' others is = record { nullity = few.nullity; is_nullity = is; few = few.few }
    small_elsewhere (Some p) fits dim' others is =
        let of_fits = subst (spans_with dim' others p) (sym (coefficient_count o p fits.irreducible)) is in
        record {
          field = fits.field;
          irreducible = fits.irreducible;
          small = fits.small;
          fits = record { basis = of_fits.basis; spans = of_fits.spans; independent = of_fits.independent };
        }

-- ---- the polynomial of a form

-- it is over the form's field
pub form_polynomial_field : (form : FormValue) (o : Order) (poly : Option PolyValue) → IsForm form → poly ≡ form.poly → o ≡ form.matrices.order →
    ForSome poly (λ p. p.order ≡ o)
form_polynomial_field form o poly is_form same field p is =
    let fits : FitsMatrix form.matrices.order form.matrices.dim
    (drawn_value form.matrices.order form.matrices.dim form.matrices.generators form.seed form.word) p =
    subst (HasSmallNullSpace form.matrices.order form.matrices.dim form.matrices.generators form.seed form.word) (sym same ∙ is) is_form.over.small in
    fits.field ∙ sym field

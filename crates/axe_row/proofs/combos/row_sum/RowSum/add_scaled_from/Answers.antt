use Rattle.std.proofs.Common.{None, length, ap, refl, sym, ◌∙◌, arith}
use Rattle.axe_field.specs.Order.{prime_of}
use Rattle.axe_plane.specs.Sums.{plane_of_sums}
use Rattle.axe_row.specs.HigherPlanes.{linear_of, quadratic_of}
use Rattle.axe_row.specs.Rows.{RowValue}
use Rattle.axe_row.proofs.FirstEntries.{zeros_before_in_planes}
use Rattle.axe_row.proofs.KeptPlanes.{alone_is_prime}
use Rattle.axe_row.proofs.OperationLaws.{length-sum_with_multiple}
use Rattle.axe_row.proofs.RowPlanes.{IsRow-of_planes, length_of_row, with_length}
use Rattle.axe_row.proofs.PrimeRows.{other_length, other_order, prime_planes_sum, prime_row_sum, scalar_is_digit}
use Rattle.axe_row.proofs.combos.row_sum.RowSum.add_scaled_from.Goals as goal

pub add_scaled_from-requires-clause-within : goal.add_scaled_from-requires-clause-within
add_scaled_from-requires-clause-within c =
    omega (
      arith,
      c.requires.within,
      length_of_row _ (plane_of_sums c.self.inside.sums) (linear_of c.self.inside.field None)
          (quadratic_of c.self.inside.field None) _ c.self.view_is,
    )

pub add_scaled_from-requires-clause-prime : goal.add_scaled_from-requires-clause-prime
add_scaled_from-requires-clause-prime c =
    c.other.invariant.planes.constant.prime
    ∙ ap prime_of
    (other_order _ _ (plane_of_sums c.self.inside.sums) (linear_of c.self.inside.field None)
    (quadratic_of c.self.inside.field None) c.other.inside.constant
    (linear_of c.other.inside.field c.other.inside.higher) (quadratic_of c.other.inside.field c.other.inside.higher)
    _ _ c.self.view_is c.other.view_is c.requires.field)
    ∙ sym c.self.invariant.planes.constant.prime

pub add_scaled_from-requires-clause-factor : goal.add_scaled_from-requires-clause-factor
add_scaled_from-requires-clause-factor c =
    scalar_is_digit _ _ _ _ _ _ _ refl (alone_is_prime _ _ _ _ c.self.invariant refl)
    c.self.invariant.planes.constant c.self.view_is c.requires.element

pub add_scaled_from-requires-clause-fits : goal.add_scaled_from-requires-clause-fits
add_scaled_from-requires-clause-fits c =
    other_length _ _ (plane_of_sums c.self.inside.sums) (linear_of c.self.inside.field None)
    (quadratic_of c.self.inside.field None) c.other.inside.constant
    (linear_of c.other.inside.field c.other.inside.higher) (quadratic_of c.other.inside.field c.other.inside.higher)
    _ _ c.self.view_is c.other.view_is c.requires.fits

pub add_scaled_from-requires-clause-zeros : goal.add_scaled_from-requires-clause-zeros
add_scaled_from-requires-clause-zeros c =
    (zeros_before_in_planes _ c.other.inside.constant (linear_of c.other.inside.field c.other.inside.higher)
    (quadratic_of c.other.inside.field c.other.inside.higher) c.args.start _ c.other.invariant.planes
    c.other.view_is c.requires.zeros).constant

pub invariant_of-self : goal.invariant_of-self
invariant_of-self c = record {
  planes =
      with_length _ _ _ _ _
      (prime_planes_sum _ _ _ _ _ _ c.other.inside.constant _ (alone_is_prime _ _ _ _ c.self.invariant refl)
      c.self.invariant.planes c.add_scaled_from.ensures);
  needed = c.self.invariant.needed;
}

pub returns-clause-sum : goal.returns-clause-sum
returns-clause-sum c =
    prime_row_sum _ _ _ _ _ _ _ _ _ _ _ _ _ refl (alone_is_prime _ _ _ _ c.self.invariant refl)
    c.self.invariant.planes c.other.invariant.planes c.self.view_is c.other.view_is c.requires.field
    c.requires.element c.add_scaled_from.ensures

pub returns-clause-as_long : goal.returns-clause-as_long
returns-clause-as_long c =
    ap (λ (r : RowValue). length r.entries) (returns-clause-sum c) ∙ length-sum_with_multiple _ _ _ _

pub returns-clause-well_formed : goal.returns-clause-well_formed
returns-clause-well_formed c = IsRow-of_planes _ _ _ _ _ (invariant_of-self c).planes

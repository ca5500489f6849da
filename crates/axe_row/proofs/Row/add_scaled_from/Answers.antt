use Rattle.std.proofs.Common.{◌≡◌, length, ap, refl, ◌∙◌, arith}
use Rattle.axe_field.specs.Order.{degree_of}
use Rattle.axe_row.specs.HigherPlanes.{linear_of, quadratic_of}
use Rattle.axe_row.specs.Rows.{RowValue}
use Rattle.axe_row.proofs.FirstEntries.{zeros_before_in_planes}
use Rattle.axe_row.proofs.KeptPlanes.{other_alone}
use Rattle.axe_row.proofs.OperationLaws.{length-sum_with_multiple}
use Rattle.axe_row.proofs.RowPlanes.{IsRow-of_planes, length_of_row, with_length}
use Rattle.axe_row.proofs.PrimeRows.{other_length, prime_planes_sum, prime_row_sum, scalar_is_digit}
use Rattle.axe_row.proofs.Row.add_scaled_from.Goals.{In_default}
use Rattle.axe_row.proofs.Row.add_scaled_from.Goals as goal

prime : (c : goal.In_default) → degree_of c.self.inside.field ≡ 1
prime c =
    other_alone c.self.inside.field c.other.inside.field _ c.self.inside.constant c.other.inside.constant c.self.inside.higher c.other.inside.higher _ _
    c.other.invariant c.self.view_is c.other.view_is c.requires.field c.in_default.is

pub add_scaled_from-requires-clause-factor : goal.add_scaled_from-requires-clause-factor
add_scaled_from-requires-clause-factor c =
    scalar_is_digit _ _ _ _ _ _ _ refl (prime (goal.at.add_scaled_from-requires-clause-factor c).In_default) c.self.invariant.planes.constant c.self.view_is c.requires.element

pub add_scaled_from-requires-clause-fits : goal.add_scaled_from-requires-clause-fits
add_scaled_from-requires-clause-fits c =
    λ _. other_length _ _ c.self.inside.constant (linear_of c.self.inside.field c.self.inside.higher) (quadratic_of c.self.inside.field c.self.inside.higher)
    c.other.inside.constant (linear_of c.other.inside.field c.other.inside.higher) (quadratic_of c.other.inside.field c.other.inside.higher) _ _ c.self.view_is c.other.view_is c.requires.fits

pub add_scaled_from-requires-clause-within : goal.add_scaled_from-requires-clause-within
add_scaled_from-requires-clause-within c =
    λ _. omega (arith, c.requires.within, length_of_row _ c.self.inside.constant (linear_of c.self.inside.field c.self.inside.higher) (quadratic_of c.self.inside.field c.self.inside.higher) _ c.self.view_is)

pub add_scaled_from-requires-clause-zeros : goal.add_scaled_from-requires-clause-zeros
add_scaled_from-requires-clause-zeros c =
    (zeros_before_in_planes _ c.other.inside.constant (linear_of c.other.inside.field c.other.inside.higher) (quadratic_of c.other.inside.field c.other.inside.higher) c.args.start _ c.other.invariant.planes c.other.view_is c.requires.zeros).constant

pub invariant_of-self : goal.invariant_of-self
invariant_of-self c = record {
  planes =
      with_length _ _ _ _ _
      (prime_planes_sum _ _ _ _ _ _ c.other.inside.constant _ (prime (goal.at.invariant_of-self c).In_default) c.self.invariant.planes c.add_scaled_from.ensures);
  needed = c.self.invariant.needed;
}

pub returns-in_default-clause-sum : goal.returns-in_default-clause-sum
returns-in_default-clause-sum c =
    prime_row_sum _ _ _ _ _ _ _ _ _ _ _ _ _ refl (prime (goal.at.returns-in_default-clause-sum c).In_default) c.self.invariant.planes c.other.invariant.planes c.self.view_is c.other.view_is
    c.requires.field c.requires.element c.add_scaled_from.ensures

pub returns-in_default-clause-as_long : goal.returns-in_default-clause-as_long
returns-in_default-clause-as_long c = ap (λ (r : RowValue). length r.entries) (returns-in_default-clause-sum c) ∙ length-sum_with_multiple _ _ _ _

pub returns-in_default-clause-well_formed : goal.returns-in_default-clause-well_formed
returns-in_default-clause-well_formed c = IsRow-of_planes _ _ _ _ _ (invariant_of-self c).planes

pub returns-clause-as_long : goal.returns-clause-as_long
returns-clause-as_long c = ap (λ (r : RowValue). length r.entries) c.add_by_planes.ensures.sum ∙ length-sum_with_multiple _ _ _ _

use Rattle.std.proofs.Common.{arith, refl}
use Rattle.axe_field.specs.Planes.{matrix_of_multiplication}
use Rattle.axe_row.specs.HigherPlanes.{linear_of, quadratic_of}
use Rattle.axe_row.proofs.FirstEntries.{zeros_before_in_planes}
use Rattle.axe_row.proofs.KeptPlanes.{other_alone, kept_planes, kept_view, kept_not_prime}
use Rattle.axe_row.proofs.PrimeRows.{other_length, prime_planes_sum, prime_row_sum, scalar_is_digit}
use Rattle.axe_row.proofs.RowPlanes.{IsRow-of_planes, length_of_row, with_length}
use Rattle.axe_row.proofs.PlaneSums.{summands, row_of_sum}
use Rattle.axe_row.proofs.Row.add_by_planes.Goals as goal

-- a row of one plane alone
pub add_scaled_from-requires-clause-factor : goal.add_scaled_from-requires-clause-factor
add_scaled_from-requires-clause-factor c =
    scalar_is_digit _ _ _ _ _ _ _ refl (other_alone _ _ _ c.self.inside.constant _ c.self.inside.higher _ _ _ c.other.invariant c.self.view_is c.other.view_is c.requires.field c.in_default.is)
    c.self.invariant.planes.constant c.self.view_is c.requires.element

pub add_scaled_from-requires-clause-fits : goal.add_scaled_from-requires-clause-fits
add_scaled_from-requires-clause-fits c =
    λ _. other_length _ _ c.self.inside.constant (linear_of c.self.inside.field c.self.inside.higher) (quadratic_of c.self.inside.field c.self.inside.higher)
    c.other.inside.constant (linear_of c.other.inside.field c.other.inside.higher) (quadratic_of c.other.inside.field c.other.inside.higher)
    _ _ c.self.view_is c.other.view_is c.requires.fits

pub add_scaled_from-requires-clause-within : goal.add_scaled_from-requires-clause-within
add_scaled_from-requires-clause-within c = λ _. omega (arith, c.requires.within, length_of_row _ c.self.inside.constant (linear_of c.self.inside.field c.self.inside.higher) (quadratic_of c.self.inside.field c.self.inside.higher) _ c.self.view_is)

pub add_scaled_from-requires-clause-zeros : goal.add_scaled_from-requires-clause-zeros
add_scaled_from-requires-clause-zeros c =
    (zeros_before_in_planes _ c.other.inside.constant (linear_of c.other.inside.field c.other.inside.higher) (quadratic_of c.other.inside.field c.other.inside.higher) c.args.start _ c.other.invariant.planes c.other.view_is c.requires.zeros).constant

pub invariant_of-self : goal.invariant_of-self
invariant_of-self c = record {
  planes =
      with_length _ _ _ _ _ (prime_planes_sum _ _ _ _ _ _ c.other.inside.constant _ (other_alone _ _ _ c.self.inside.constant _ c.self.inside.higher _ _ _ c.other.invariant c.self.view_is c.other.view_is c.requires.field c.in_default.is)
      c.self.invariant.planes c.add_scaled_from.ensures);
  needed = c.self.invariant.needed;
}

pub returns-in_default-clause-sum : goal.returns-in_default-clause-sum
returns-in_default-clause-sum c =
    prime_row_sum _ _ _ _ _ _ _ _ _ _ _ _ _ refl (other_alone _ _ _ c.self.inside.constant _ c.self.inside.higher _ _ _ c.other.invariant c.self.view_is c.other.view_is c.requires.field c.in_default.is)
    c.self.invariant.planes c.other.invariant.planes c.self.view_is c.other.view_is c.requires.field c.requires.element c.add_scaled_from.ensures

pub returns-in_default-clause-well_formed : goal.returns-in_default-clause-well_formed
returns-in_default-clause-well_formed c = IsRow-of_planes _ _ _ _ _ (invariant_of-self c).planes

-- a row of three planes

pub add_planes-requires-clause-planes : goal.add_planes-requires-clause-planes
add_planes-requires-clause-planes c = (kept_planes _ _ _ _ c.self.invariant _ _ _ c.in-Some-higher.is c.deref_mut.ensures.value c.deref_mut.ensures.value)

pub add_planes-requires-clause-others : goal.add_planes-requires-clause-others
add_planes-requires-clause-others c =
    (summands _ _ _ _ _ _ _ _ _ (matrix_of_multiplication c.self.inside.field c.args.scalar) _ _ (kept_planes _ _ _ _ c.self.invariant _ _ _ c.in-Some-higher.is c.deref_mut.ensures.value c.deref_mut.ensures.value) (kept_planes _ _ _ _ c.other.invariant _ _ _ c.in-Some.is c.deref.ensures c.deref.ensures) (kept_view _ c.self.inside.constant _ _ _ _ _ c.self.view_is c.in-Some-higher.is c.deref_mut.ensures.value c.deref_mut.ensures.value) (kept_view _ c.other.inside.constant _ _ _ _ _ c.other.view_is c.in-Some.is c.deref.ensures c.deref.ensures) c.requires.field c.requires.fits c.requires.element refl).others

pub add_planes-requires-clause-within : goal.add_planes-requires-clause-within
add_planes-requires-clause-within c = omega (arith, c.requires.within, length_of_row _ c.self.inside.constant (linear_of c.self.inside.field c.self.inside.higher) (quadratic_of c.self.inside.field c.self.inside.higher) _ c.self.view_is)

pub add_planes-requires-clause-not_prime : goal.add_planes-requires-clause-not_prime
add_planes-requires-clause-not_prime c = kept_not_prime _ _ _ _ c.self.invariant _ c.in-Some-higher.is

pub add_planes-requires-clause-element : goal.add_planes-requires-clause-element
add_planes-requires-clause-element c =
    (summands _ _ _ _ _ _ _ _ _ (matrix_of_multiplication c.self.inside.field c.args.scalar) _ _ (kept_planes _ _ _ _ c.self.invariant _ _ _ c.in-Some-higher.is c.deref_mut.ensures.value c.deref_mut.ensures.value) (kept_planes _ _ _ _ c.other.invariant _ _ _ c.in-Some.is c.deref.ensures c.deref.ensures) (kept_view _ c.self.inside.constant _ _ _ _ _ c.self.view_is c.in-Some-higher.is c.deref_mut.ensures.value c.deref_mut.ensures.value) (kept_view _ c.other.inside.constant _ _ _ _ _ c.other.view_is c.in-Some.is c.deref.ensures c.deref.ensures) c.requires.field c.requires.fits c.requires.element refl).scalar

pub add_planes-requires-clause-zeros : goal.add_planes-requires-clause-zeros
add_planes-requires-clause-zeros c =
    zeros_before_in_planes _ _ _ _ c.args.start _ (kept_planes _ _ _ _ c.other.invariant _ _ _ c.in-Some.is c.deref.ensures c.deref.ensures) (kept_view _ c.other.inside.constant _ _ _ _ _ c.other.view_is c.in-Some.is c.deref.ensures c.deref.ensures) c.requires.zeros

pub invariant_of-self-2 : goal.invariant_of-self-2
invariant_of-self-2 c = record {
  planes = with_length _ _ _ _ _ c.add_planes.ensures.planes;
  needed = kept_not_prime _ _ _ _ c.self.invariant _ c.in-Some-higher.is;
}

pub returns-clause-sum : goal.returns-clause-sum
returns-clause-sum c =
    row_of_sum _ _ _ c.self.inside.constant c.deref_mut.result.now.linear c.deref_mut.result.now.quadratic
    c.other.inside.constant c.deref.result.now.linear c.deref.result.now.quadratic _ _ _ c.add_planes.ensures.sum
    (kept_view _ c.self.inside.constant _ _ _ _ _ c.self.view_is c.in-Some-higher.is c.deref_mut.ensures.value c.deref_mut.ensures.value) (kept_view _ c.other.inside.constant _ _ _ _ _ c.other.view_is c.in-Some.is c.deref.ensures c.deref.ensures) c.requires.field

pub returns-clause-well_formed : goal.returns-clause-well_formed
returns-clause-well_formed c = IsRow-of_planes _ _ _ _ _ (invariant_of-self-2 c).planes

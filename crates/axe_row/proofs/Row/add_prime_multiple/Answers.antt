use Rattle.std.proofs.Common.{length}
use Rattle.axe_plane.specs.Planes.{digits_of}
use Rattle.axe_row.specs.HigherPlanes.{linear_of, quadratic_of}
use Rattle.axe_row.specs.Operations.{row_with_multiple}
use Rattle.axe_row.proofs.FormLaws.{prime_summands, kept_summands, prime_row_after, nothing_added, to_constant, to_linear, to_quadratic}
use Rattle.axe_row.proofs.KeptPlanes.{kept_not_prime, linear_is_empty, quadratic_is_empty}
use Rattle.axe_row.proofs.RowPlanes.{IsRow-of_planes}
use Rattle.axe_row.proofs.TableSums.{IsRowOf}
use Rattle.axe_row.proofs.Row.add_prime_multiple.Goals as goal

pub add_scaled-requires-clause-factor : goal.add_scaled-requires-clause-factor
add_scaled-requires-clause-factor c =
    (to_constant (prime_summands _ _ _ _ _ _ _ _ _ _ _ _ c.self.invariant.planes c.self.view_is
    c.other.invariant.planes c.other.view_is
    c.requires.field c.requires.fits c.requires.element c.plane_matrix.ensures.value)).factor_is_digit

pub add_scaled-requires-clause-fits : goal.add_scaled-requires-clause-fits
add_scaled-requires-clause-fits c =
    (to_constant (prime_summands _ _ _ _ _ _ _ _ _ _ _ _ c.self.invariant.planes c.self.view_is
    c.other.invariant.planes c.other.view_is
    c.requires.field c.requires.fits c.requires.element c.plane_matrix.ensures.value)).fits

-- the sum, where the row keeps one plane alone
alone : (c : goal.In_default) → IsRowOf c.self.inside.field (length (digits_of c.add_scaled.new.self))
    c.add_scaled.new.self (linear_of c.self.inside.field c.self.inside.higher)
    (quadratic_of c.self.inside.field c.self.inside.higher)
    (row_with_multiple c.args.self.now c.args.scalar c.args.other.now)
alone c =
    prime_row_after _ _ _ _ _ _ _ _ _ _ _ _
    (prime_summands _ _ _ _ _ _ _ _ _ _ _ _ c.self.invariant.planes c.self.view_is
    c.other.invariant.planes c.other.view_is
    c.requires.field c.requires.fits c.requires.element c.plane_matrix.ensures.value)
    c.add_scaled.ensures
    (nothing_added _ _ c.other.inside.constant (linear_is_empty _ _ _ _ c.self.invariant c.in_default.is))
    (nothing_added _ _ c.other.inside.constant (quadratic_is_empty _ _ _ _ c.self.invariant c.in_default.is))

pub invariant_of-self : goal.invariant_of-self
invariant_of-self c = record {
  planes = (alone c).planes;
  needed = c.self.invariant.needed;
}

pub returns-in_default-clause-sum : goal.returns-in_default-clause-sum
returns-in_default-clause-sum c = (alone c).is

pub returns-in_default-clause-well_formed : goal.returns-in_default-clause-well_formed
returns-in_default-clause-well_formed c = IsRow-of_planes _ _ _ _ _ (alone c).planes

-- a row of three planes
pub add_scaled-requires-2-clause-factor : goal.add_scaled-requires-2-clause-factor
add_scaled-requires-2-clause-factor c =
    (to_linear (kept_summands _ _ _ _ _ _ _ _ _ _ _ _ _ c.self.invariant c.self.view_is c.in-Some.is
    c.deref_mut.ensures.value c.other.invariant.planes c.other.view_is
    c.requires.field c.requires.fits c.requires.element c.plane_matrix.ensures.value)).factor_is_digit

pub add_scaled-requires-2-clause-fits : goal.add_scaled-requires-2-clause-fits
add_scaled-requires-2-clause-fits c =
    (to_linear (kept_summands _ _ _ _ _ _ _ _ _ _ _ _ _ c.self.invariant c.self.view_is c.in-Some.is
    c.deref_mut.ensures.value c.other.invariant.planes c.other.view_is
    c.requires.field c.requires.fits c.requires.element c.plane_matrix.ensures.value)).fits

pub add_scaled-requires-3-clause-factor : goal.add_scaled-requires-3-clause-factor
add_scaled-requires-3-clause-factor c =
    (to_quadratic (kept_summands _ _ _ _ _ _ _ _ _ _ _ _ _ c.self.invariant c.self.view_is c.in-Some.is
    c.deref_mut.ensures.value c.other.invariant.planes c.other.view_is
    c.requires.field c.requires.fits c.requires.element c.plane_matrix.ensures.value)).factor_is_digit

pub add_scaled-requires-3-clause-fits : goal.add_scaled-requires-3-clause-fits
add_scaled-requires-3-clause-fits c =
    (to_quadratic (kept_summands _ _ _ _ _ _ _ _ _ _ _ _ _ c.self.invariant c.self.view_is c.in-Some.is
    c.deref_mut.ensures.value c.other.invariant.planes c.other.view_is
    c.requires.field c.requires.fits c.requires.element c.plane_matrix.ensures.value)).fits

-- the sum, where it keeps three
of_three : (c : goal.After-self-2-1) → IsRowOf c.self.inside.field (length (digits_of c.add_scaled.new.self))
    c.add_scaled.new.self c.add_scaled-2.new.self c.add_scaled-3.new.self
    (row_with_multiple c.args.self.now c.args.scalar c.args.other.now)
of_three c =
    prime_row_after _ _ _ _ _ _ _ _ _ _ _ _
    (kept_summands _ _ _ _ _ _ _ _ _ _ _ _ _ c.self.invariant c.self.view_is c.in-Some.is
    c.deref_mut.ensures.value c.other.invariant.planes c.other.view_is
    c.requires.field c.requires.fits c.requires.element c.plane_matrix.ensures.value)
    c.add_scaled.ensures c.add_scaled-2.ensures c.add_scaled-3.ensures

pub invariant_of-self-2 : goal.invariant_of-self-2
invariant_of-self-2 c = record {
  planes = (of_three c).planes;
  needed = kept_not_prime _ _ _ _ c.self.invariant _ c.in-Some.is;
}

pub returns-clause-sum : goal.returns-clause-sum
returns-clause-sum c = (of_three c).is

pub returns-clause-well_formed : goal.returns-clause-well_formed
returns-clause-well_formed c = IsRow-of_planes _ _ _ _ _ (of_three c).planes

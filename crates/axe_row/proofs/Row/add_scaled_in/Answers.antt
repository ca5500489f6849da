use Rattle.std.proofs.Common.{◌≡◌, length, ap, refl, ◌∙◌, arith}
use Rattle.axe_field.specs.Order.{order_number, degree_of}
use Rattle.axe_field.specs.Planes.{matrix_of_multiplication}
use Rattle.axe_plane.specs.Planes.{prime_of_plane}
use Rattle.axe_row.specs.HigherPlanes.{linear_of, quadratic_of}
use Rattle.axe_row.specs.Rows.{RowValue}
use Rattle.axe_row.proofs.AddedPlanes.{degree_of_two, prime_of_two, degree_of_prime, summed_by_one}
use Rattle.axe_row.proofs.FirstEntries.{zeros_before_in_planes}
use Rattle.axe_row.proofs.KeptPlanes.{kept_planes, kept_view}
use Rattle.axe_row.proofs.OperationLaws.{length-sum_with_multiple}
use Rattle.axe_row.proofs.PlaneSums.{row_of_sum, summands}
use Rattle.axe_row.proofs.PrimeRows.{other_length, prime_planes_sum, prime_row_sum}
use Rattle.axe_row.proofs.RowPlanes.{IsRow-of_planes, length_of_row, with_length}
use Rattle.axe_row.proofs.Row.add_scaled_in.Goals as goal

-- over two elements

pub add_bits-requires-clause-fits : goal.add_bits-requires-clause-fits
add_bits-requires-clause-fits g c =
    other_length _ _ c.self.inside.constant (linear_of c.self.inside.field c.self.inside.higher) (quadratic_of c.self.inside.field c.self.inside.higher)
    c.other.inside.constant (linear_of c.other.inside.field c.other.inside.higher) (quadratic_of c.other.inside.field c.other.inside.higher)
    _ _ c.self.view_is c.other.view_is c.requires.fits

pub add_bits-requires-clause-within : goal.add_bits-requires-clause-within
add_bits-requires-clause-within g c =
    omega (arith, c.requires.within, length_of_row _ c.self.inside.constant (linear_of c.self.inside.field c.self.inside.higher) (quadratic_of c.self.inside.field c.self.inside.higher) _ c.self.view_is)

pub add_bits-requires-clause-zeros : goal.add_bits-requires-clause-zeros
add_bits-requires-clause-zeros g c =
    (zeros_before_in_planes _ c.other.inside.constant (linear_of c.other.inside.field c.other.inside.higher) (quadratic_of c.other.inside.field c.other.inside.higher)
    c.args.start _ c.other.invariant.planes c.other.view_is c.requires.zeros).constant

pub invariant_of-self : goal.invariant_of-self
invariant_of-self g c =
    let two : order_number c.self.inside.field ≡ 2 =
    ap (λ (r : RowValue). order_number r.order) c.self.view_is ∙ c.requires.order ∙ c.if-this-eq2.true in
    let prime : prime_of_plane c.self.inside.constant ≡ 2 =
    c.self.invariant.planes.constant.prime ∙ prime_of_two _ two in
    let one : c.args.scalar ≡ 1 = omega (arith, c.requires.nonzero (c.requires.order ∙ c.if-this-eq2.true), c.requires.element, c.requires.order, c.if-this-eq2.true) in
    record {
      planes =
          with_length _ _ _ _ _
          (prime_planes_sum _ _ c.args.scalar _ _ _ c.other.inside.constant _ (degree_of_two _ two) c.self.invariant.planes
          (summed_by_one c.args.scalar c.self.inside.constant c.other.inside.constant _ prime one c.add_bits.ensures));
      needed = c.self.invariant.needed;
    }

pub returns-then-this-eq2-clause-sum : goal.returns-then-this-eq2-clause-sum
returns-then-this-eq2-clause-sum g c =
    let two : order_number c.self.inside.field ≡ 2 =
    ap (λ (r : RowValue). order_number r.order) c.self.view_is ∙ c.requires.order ∙ c.if-this-eq2.true in
    let prime : prime_of_plane c.self.inside.constant ≡ 2 =
    c.self.invariant.planes.constant.prime ∙ prime_of_two _ two in
    let one : c.args.scalar ≡ 1 = omega (arith, c.requires.nonzero (c.requires.order ∙ c.if-this-eq2.true), c.requires.element, c.requires.order, c.if-this-eq2.true) in
    prime_row_sum _ _ _ _ _ _ _ _ _ _ _ _ _ refl (degree_of_two _ two) c.self.invariant.planes c.other.invariant.planes c.self.view_is c.other.view_is
    c.requires.field c.requires.element (summed_by_one c.args.scalar c.self.inside.constant c.other.inside.constant _ prime one c.add_bits.ensures)

pub returns-then-this-eq2-clause-as_long : goal.returns-then-this-eq2-clause-as_long
returns-then-this-eq2-clause-as_long g c =
    ap (λ (r : RowValue). length r.entries) (returns-then-this-eq2-clause-sum g c) ∙ length-sum_with_multiple _ _ _ _

pub returns-then-this-eq2-clause-well_formed : goal.returns-then-this-eq2-clause-well_formed
returns-then-this-eq2-clause-well_formed g c = IsRow-of_planes _ _ _ _ _ (invariant_of-self g c).planes

-- over three, five and seven elements

pub add_digits-requires-clause-fits : goal.add_digits-requires-clause-fits
add_digits-requires-clause-fits g c =
    other_length _ _ c.self.inside.constant (linear_of c.self.inside.field c.self.inside.higher) (quadratic_of c.self.inside.field c.self.inside.higher)
    c.other.inside.constant (linear_of c.other.inside.field c.other.inside.higher) (quadratic_of c.other.inside.field c.other.inside.higher)
    _ _ c.self.view_is c.other.view_is c.requires.fits

pub add_digits-requires-clause-within : goal.add_digits-requires-clause-within
add_digits-requires-clause-within g c =
    omega (arith, c.requires.within, length_of_row _ c.self.inside.constant (linear_of c.self.inside.field c.self.inside.higher) (quadratic_of c.self.inside.field c.self.inside.higher) _ c.self.view_is)

pub add_digits-requires-clause-zeros : goal.add_digits-requires-clause-zeros
add_digits-requires-clause-zeros g c =
    (zeros_before_in_planes _ c.other.inside.constant (linear_of c.other.inside.field c.other.inside.higher) (quadratic_of c.other.inside.field c.other.inside.higher)
    c.args.start _ c.other.invariant.planes c.other.view_is c.requires.zeros).constant

pub invariant_of-self-then-this-eq3 : goal.invariant_of-self-then-this-eq3
invariant_of-self-then-this-eq3 g c =
    let is : order_number c.self.inside.field ≡ g.row.Q = ap (λ (r : RowValue). order_number r.order) c.self.view_is ∙ c.requires.order in
    let prime : degree_of c.self.inside.field ≡ 1 =
    degree_of_prime _ (λ four. omega (arith, four, is, c.then-this-eq3.either)) (λ eight. omega (arith, eight, is, c.then-this-eq3.either))
    (λ nine. omega (arith, nine, is, c.then-this-eq3.either)) in
    record {
      planes =
          with_length _ _ _ _ _
          (prime_planes_sum _ _ c.args.scalar _ _ _ c.other.inside.constant _ prime c.self.invariant.planes c.add_digits.ensures);
      needed = c.self.invariant.needed;
    }

pub returns-then-this-eq3-clause-sum : goal.returns-then-this-eq3-clause-sum
returns-then-this-eq3-clause-sum g c =
    let is : order_number c.self.inside.field ≡ g.row.Q = ap (λ (r : RowValue). order_number r.order) c.self.view_is ∙ c.requires.order in
    let prime : degree_of c.self.inside.field ≡ 1 =
    degree_of_prime _ (λ four. omega (arith, four, is, c.then-this-eq3.either)) (λ eight. omega (arith, eight, is, c.then-this-eq3.either))
    (λ nine. omega (arith, nine, is, c.then-this-eq3.either)) in
    prime_row_sum _ _ _ _ _ _ _ _ _ _ _ _ _ refl prime c.self.invariant.planes c.other.invariant.planes c.self.view_is c.other.view_is
    c.requires.field c.requires.element c.add_digits.ensures

pub returns-then-this-eq3-clause-as_long : goal.returns-then-this-eq3-clause-as_long
returns-then-this-eq3-clause-as_long g c =
    ap (λ (r : RowValue). length r.entries) (returns-then-this-eq3-clause-sum g c) ∙ length-sum_with_multiple _ _ _ _

pub returns-then-this-eq3-clause-well_formed : goal.returns-then-this-eq3-clause-well_formed
returns-then-this-eq3-clause-well_formed g c = IsRow-of_planes _ _ _ _ _ (invariant_of-self-then-this-eq3 g c).planes

-- over four, eight and nine elements

pub add_planes_in-requires-clause-others : goal.add_planes_in-requires-clause-others
add_planes_in-requires-clause-others g c =
    (summands _ _ _ _ _ _ _ _ _ (matrix_of_multiplication c.self.inside.field c.args.scalar) _ _ (kept_planes _ _ _ _ c.self.invariant _ _ _ c.in-Some-higher.is c.deref_mut.ensures.value c.deref_mut.ensures.value) (kept_planes _ _ _ _ c.other.invariant _ _ _ c.in-Some.is c.deref.ensures c.deref.ensures) (kept_view _ c.self.inside.constant _ _ _ _ _ c.self.view_is c.in-Some-higher.is c.deref_mut.ensures.value c.deref_mut.ensures.value) (kept_view _ c.other.inside.constant _ _ _ _ _ c.other.view_is c.in-Some.is c.deref.ensures c.deref.ensures) c.requires.field c.requires.fits c.requires.element refl).others

pub add_planes_in-requires-clause-within : goal.add_planes_in-requires-clause-within
add_planes_in-requires-clause-within g c = omega (arith, c.requires.within, length_of_row _ c.self.inside.constant (linear_of c.self.inside.field c.self.inside.higher) (quadratic_of c.self.inside.field c.self.inside.higher) _ c.self.view_is)

pub add_planes_in-requires-clause-zeros : goal.add_planes_in-requires-clause-zeros
add_planes_in-requires-clause-zeros g c =
    zeros_before_in_planes _ _ _ _ c.args.start _ (kept_planes _ _ _ _ c.other.invariant _ _ _ c.in-Some.is c.deref.ensures c.deref.ensures) (kept_view _ c.other.inside.constant _ _ _ _ _ c.other.view_is c.in-Some.is c.deref.ensures c.deref.ensures) c.requires.zeros

pub returns-clause-sum : goal.returns-clause-sum
returns-clause-sum g c =
    row_of_sum _ _ _ c.self.inside.constant c.deref_mut.result.now.linear c.deref_mut.result.now.quadratic
    c.other.inside.constant c.deref.result.now.linear c.deref.result.now.quadratic _ _ _ c.add_planes_in.ensures.sum
    (kept_view _ c.self.inside.constant _ _ _ _ _ c.self.view_is c.in-Some-higher.is c.deref_mut.ensures.value c.deref_mut.ensures.value) (kept_view _ c.other.inside.constant _ _ _ _ _ c.other.view_is c.in-Some.is c.deref.ensures c.deref.ensures) c.requires.field

pub returns-clause-as_long : goal.returns-clause-as_long
returns-clause-as_long g c = ap (λ (r : RowValue). length r.entries) (returns-clause-sum g c) ∙ length-sum_with_multiple _ _ _ _

pub returns-clause-well_formed : goal.returns-clause-well_formed
returns-clause-well_formed g c = IsRow-of_planes _ _ _ _ _ c.add_planes_in.ensures.planes

use Rattle.std.proofs.Common.{None, length, refl}
use Rattle.axe_plane.specs.Sums.{plane_of_sums}
use Rattle.axe_row.specs.HigherPlanes.{linear_of, quadratic_of}
use Rattle.axe_row.proofs.AddedRows.{row_added_to, constant_added_to}
use Rattle.axe_row.proofs.FourMultiples.{row_with_multiples_of, with_four_multiples}
use Rattle.axe_row.proofs.KeptPlanes.{alone_is_prime}
use Rattle.axe_row.proofs.PrimeRows.{scalar_is_digit}
use Rattle.axe_row.proofs.RowPlanes.{IsRow-of_planes, with_length}
use Rattle.axe_row.proofs.TableSums.{IsRowOf, row_of, as_long_as}
use Rattle.axe_row.proofs.combos.row_sum.RowSum.add_four_multiples.Goals as goal

pub add_four_multiples-requires-clause-a : goal.add_four_multiples-requires-clause-a
add_four_multiples-requires-clause-a c =
    let own = row_of c.self.invariant.planes c.self.view_is in
    constant_added_to own (row_added_to own c.a.invariant.planes c.a.view_is c.requires.a)

pub add_four_multiples-requires-clause-b : goal.add_four_multiples-requires-clause-b
add_four_multiples-requires-clause-b c =
    let own = row_of c.self.invariant.planes c.self.view_is in
    constant_added_to own (row_added_to own c.b.invariant.planes c.b.view_is c.requires.b)

pub add_four_multiples-requires-clause-c : goal.add_four_multiples-requires-clause-c
add_four_multiples-requires-clause-c c =
    let own = row_of c.self.invariant.planes c.self.view_is in
    constant_added_to own (row_added_to own c.c.invariant.planes c.c.view_is c.requires.c)

pub add_four_multiples-requires-clause-d : goal.add_four_multiples-requires-clause-d
add_four_multiples-requires-clause-d c =
    let own = row_of c.self.invariant.planes c.self.view_is in
    constant_added_to own (row_added_to own c.d.invariant.planes c.d.view_is c.requires.d)

pub add_four_multiples-requires-clause-factors : goal.add_four_multiples-requires-clause-factors
add_four_multiples-requires-clause-factors c = λ i below.
    scalar_is_digit _ _ _ _ _ _ _ refl (alone_is_prime _ _ _ _ c.self.invariant refl)
    c.self.invariant.planes.constant c.self.view_is (c.requires.factors i below)

-- the row after
after : (c : goal.After-add_four_multiples) → IsRowOf c.self.inside.field (length c.self.inside.sums.digits)
    (plane_of_sums c.add_four_multiples.new.self) (linear_of c.self.inside.field None)
    (quadratic_of c.self.inside.field None)
    (row_with_multiples_of c.args.self.now c.args.factors c.args.a.now c.args.b.now c.args.c.now c.args.d.now)
after c =
    let own = row_of c.self.invariant.planes c.self.view_is in
    with_four_multiples c.args.factors (alone_is_prime _ _ _ _ c.self.invariant refl) c.requires.factors own
    (row_added_to own c.a.invariant.planes c.a.view_is c.requires.a)
    (row_added_to own c.b.invariant.planes c.b.view_is c.requires.b)
    (row_added_to own c.c.invariant.planes c.c.view_is c.requires.c)
    (row_added_to own c.d.invariant.planes c.d.view_is c.requires.d)
    c.add_four_multiples.ensures

pub invariant_of-self : goal.invariant_of-self
invariant_of-self c = record { planes = with_length _ _ _ _ _ (after c).planes; needed = c.self.invariant.needed }

pub returns-clause-sum : goal.returns-clause-sum
returns-clause-sum c = (after c).is

pub returns-clause-as_long : goal.returns-clause-as_long
returns-clause-as_long c = as_long_as (row_of c.self.invariant.planes c.self.view_is) (row_of (after c).planes refl)

pub returns-clause-well_formed : goal.returns-clause-well_formed
returns-clause-well_formed c = IsRow-of_planes _ _ _ _ _ (invariant_of-self c).planes

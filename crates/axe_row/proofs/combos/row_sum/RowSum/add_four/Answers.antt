use Rattle.std.proofs.Common.{◌≡◌, length, slice_index, None, refl, arith}
use Rattle.axe_field.specs.Order.{degree_of}
use Rattle.axe_plane.specs.Sums.{plane_of_sums}
use Rattle.axe_row.specs.HigherPlanes.{linear_of, quadratic_of}
use Rattle.axe_row.specs.Combinations.{combination_at, row_with_four}
use Rattle.axe_row.proofs.KeptPlanes.{alone_is_prime}
use Rattle.axe_row.proofs.RowPlanes.{IsRow-of_planes, with_length}
use Rattle.axe_row.proofs.TableSums.{IsRowOf, row_of, entries_for, constant_entry, plus_four_constant, as_long_as}
use Rattle.axe_row.proofs.combos.row_sum.RowSum.add_four.Goals as goal

pub add_four_entries-requires-clause-a : goal.add_four_entries-requires-clause-a
add_four_entries-requires-clause-a c =
    constant_entry c.self.invariant.planes
    (entries_for (row_of c.self.invariant.planes c.self.view_is) c.a.invariant c.a.view_is c.requires.a)

pub add_four_entries-requires-clause-b : goal.add_four_entries-requires-clause-b
add_four_entries-requires-clause-b c =
    constant_entry c.self.invariant.planes
    (entries_for (row_of c.self.invariant.planes c.self.view_is) c.b.invariant c.b.view_is c.requires.b)

pub add_four_entries-requires-clause-c : goal.add_four_entries-requires-clause-c
add_four_entries-requires-clause-c c =
    constant_entry c.self.invariant.planes
    (entries_for (row_of c.self.invariant.planes c.self.view_is) c.c.invariant c.c.view_is c.requires.c)

pub add_four_entries-requires-clause-d : goal.add_four_entries-requires-clause-d
add_four_entries-requires-clause-d c =
    constant_entry c.self.invariant.planes
    (entries_for (row_of c.self.invariant.planes c.self.view_is) c.d.invariant c.d.view_is c.requires.d)

-- the row after, by its one plane that has digits
by_one_plane : (c : goal.After-add_four_entries) → IsRowOf c.self.inside.field (length c.self.inside.sums.digits)
    (plane_of_sums c.add_four_entries.new.self) (linear_of c.self.inside.field None)
    (quadratic_of c.self.inside.field None) (row_with_four c.args.self.now
    (combination_at c.args.a.now (slice_index c.args.indices 0))
    (combination_at c.args.b.now (slice_index c.args.indices 1))
    (combination_at c.args.c.now (slice_index c.args.indices 2))
    (combination_at c.args.d.now (slice_index c.args.indices 3)))
by_one_plane c =
    let one : degree_of c.self.inside.field ≡ 1 = alone_is_prime _ _ _ _ c.self.invariant refl in
    plus_four_constant refl (omega (arith, one)) (row_of c.self.invariant.planes c.self.view_is)
    (entries_for (row_of c.self.invariant.planes c.self.view_is) c.a.invariant c.a.view_is c.requires.a).is_row
    (entries_for (row_of c.self.invariant.planes c.self.view_is) c.b.invariant c.b.view_is c.requires.b).is_row
    (entries_for (row_of c.self.invariant.planes c.self.view_is) c.c.invariant c.c.view_is c.requires.c).is_row
    (entries_for (row_of c.self.invariant.planes c.self.view_is) c.d.invariant c.d.view_is c.requires.d).is_row
    c.add_four_entries.ensures

pub invariant_of-self : goal.invariant_of-self
invariant_of-self c = record {
  planes = with_length _ _ _ _ _ (by_one_plane c).planes;
  needed = c.self.invariant.needed;
}

pub returns-clause-sum : goal.returns-clause-sum
returns-clause-sum c = (by_one_plane c).is

pub returns-clause-as_long : goal.returns-clause-as_long
returns-clause-as_long c =
    as_long_as (row_of c.self.invariant.planes c.self.view_is) (row_of (by_one_plane c).planes refl)

pub returns-clause-well_formed : goal.returns-clause-well_formed
returns-clause-well_formed c = IsRow-of_planes _ _ _ _ _ (invariant_of-self c).planes

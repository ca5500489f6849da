use Rattle.std.proofs.Common.{◌≡◌, length, refl, arith}
use Rattle.axe_field.specs.Order.{degree_of}
use Rattle.axe_plane.specs.Planes.{digits_of}
use Rattle.axe_row.specs.HigherPlanes.{linear_of, quadratic_of}
use Rattle.axe_row.specs.Combinations.{row_with_four}
use Rattle.axe_row.proofs.KeptPlanes.{alone_is_prime, other_alone, kept_planes, kept_view, kept_not_prime}
use Rattle.axe_row.proofs.RowPlanes.{IsRow-of_planes, with_length}
use Rattle.axe_row.proofs.TableSums.{IsRowOf, row_of, plus_four, plus_four_constant, as_long_as}
use Rattle.axe_row.proofs.AddedRows.{row_added_to, constant_added_to, linear_added_to, quadratic_added_to}
use Rattle.axe_row.proofs.Row.add_four_rows.Goals as goal
use Rattle.axe_row.proofs.Row.add_four_rows.Goals.{in_default-2-via-in_default, in_default-2-via-in-Some+in_default, in_default-2-via-in-Some+in-Some+in_default, in_default-2-via-in-Some+in-Some+in-Some+in_default}

pub add_four-requires-clause-a : goal.add_four-requires-clause-a
add_four-requires-clause-a c =
    constant_added_to (row_of c.self.invariant.planes c.self.view_is) (row_added_to (row_of c.self.invariant.planes c.self.view_is) c.a.invariant.planes c.a.view_is c.requires.a)

pub add_four-requires-clause-b : goal.add_four-requires-clause-b
add_four-requires-clause-b c =
    constant_added_to (row_of c.self.invariant.planes c.self.view_is) (row_added_to (row_of c.self.invariant.planes c.self.view_is) c.b.invariant.planes c.b.view_is c.requires.b)

pub add_four-requires-clause-c : goal.add_four-requires-clause-c
add_four-requires-clause-c c =
    constant_added_to (row_of c.self.invariant.planes c.self.view_is) (row_added_to (row_of c.self.invariant.planes c.self.view_is) c.c.invariant.planes c.c.view_is c.requires.c)

pub add_four-requires-clause-d : goal.add_four-requires-clause-d
add_four-requires-clause-d c =
    constant_added_to (row_of c.self.invariant.planes c.self.view_is) (row_added_to (row_of c.self.invariant.planes c.self.view_is) c.d.invariant.planes c.d.view_is c.requires.d)

pub add_four-requires-2-clause-a : goal.add_four-requires-2-clause-a
add_four-requires-2-clause-a c = record {
  linear =
      linear_added_to (row_of (kept_planes _ _ _ _ c.self.invariant _ _ _ c.in-Some.is c.deref_mut.ensures.value c.deref_mut.ensures.value) (kept_view _ c.self.inside.constant _ _ _ _ _ c.self.view_is c.in-Some.is c.deref_mut.ensures.value c.deref_mut.ensures.value)) (row_added_to (row_of (kept_planes _ _ _ _ c.self.invariant _ _ _ c.in-Some.is c.deref_mut.ensures.value c.deref_mut.ensures.value) (kept_view _ c.self.inside.constant _ _ _ _ _ c.self.view_is c.in-Some.is c.deref_mut.ensures.value c.deref_mut.ensures.value)) (kept_planes _ _ _ _ c.a.invariant _ _ _ c.in-Some-Some-Some-Some.is-0 c.deref.ensures c.deref.ensures) (kept_view _ c.a.inside.constant _ _ _ _ _ c.a.view_is c.in-Some-Some-Some-Some.is-0 c.deref.ensures c.deref.ensures) c.requires.a);
  quadratic =
      quadratic_added_to (row_of (kept_planes _ _ _ _ c.self.invariant _ _ _ c.in-Some.is c.deref_mut.ensures.value c.deref_mut.ensures.value) (kept_view _ c.self.inside.constant _ _ _ _ _ c.self.view_is c.in-Some.is c.deref_mut.ensures.value c.deref_mut.ensures.value)) (row_added_to (row_of (kept_planes _ _ _ _ c.self.invariant _ _ _ c.in-Some.is c.deref_mut.ensures.value c.deref_mut.ensures.value) (kept_view _ c.self.inside.constant _ _ _ _ _ c.self.view_is c.in-Some.is c.deref_mut.ensures.value c.deref_mut.ensures.value)) (kept_planes _ _ _ _ c.a.invariant _ _ _ c.in-Some-Some-Some-Some.is-0 c.deref.ensures c.deref.ensures) (kept_view _ c.a.inside.constant _ _ _ _ _ c.a.view_is c.in-Some-Some-Some-Some.is-0 c.deref.ensures c.deref.ensures) c.requires.a);
}

pub add_four-requires-2-clause-b : goal.add_four-requires-2-clause-b
add_four-requires-2-clause-b c = record {
  linear =
      linear_added_to (row_of (kept_planes _ _ _ _ c.self.invariant _ _ _ c.in-Some.is c.deref_mut.ensures.value c.deref_mut.ensures.value) (kept_view _ c.self.inside.constant _ _ _ _ _ c.self.view_is c.in-Some.is c.deref_mut.ensures.value c.deref_mut.ensures.value)) (row_added_to (row_of (kept_planes _ _ _ _ c.self.invariant _ _ _ c.in-Some.is c.deref_mut.ensures.value c.deref_mut.ensures.value) (kept_view _ c.self.inside.constant _ _ _ _ _ c.self.view_is c.in-Some.is c.deref_mut.ensures.value c.deref_mut.ensures.value)) (kept_planes _ _ _ _ c.b.invariant _ _ _ c.in-Some-Some-Some-Some.is-1 c.deref-2.ensures c.deref-2.ensures) (kept_view _ c.b.inside.constant _ _ _ _ _ c.b.view_is c.in-Some-Some-Some-Some.is-1 c.deref-2.ensures c.deref-2.ensures) c.requires.b);
  quadratic =
      quadratic_added_to (row_of (kept_planes _ _ _ _ c.self.invariant _ _ _ c.in-Some.is c.deref_mut.ensures.value c.deref_mut.ensures.value) (kept_view _ c.self.inside.constant _ _ _ _ _ c.self.view_is c.in-Some.is c.deref_mut.ensures.value c.deref_mut.ensures.value)) (row_added_to (row_of (kept_planes _ _ _ _ c.self.invariant _ _ _ c.in-Some.is c.deref_mut.ensures.value c.deref_mut.ensures.value) (kept_view _ c.self.inside.constant _ _ _ _ _ c.self.view_is c.in-Some.is c.deref_mut.ensures.value c.deref_mut.ensures.value)) (kept_planes _ _ _ _ c.b.invariant _ _ _ c.in-Some-Some-Some-Some.is-1 c.deref-2.ensures c.deref-2.ensures) (kept_view _ c.b.inside.constant _ _ _ _ _ c.b.view_is c.in-Some-Some-Some-Some.is-1 c.deref-2.ensures c.deref-2.ensures) c.requires.b);
}

pub add_four-requires-2-clause-c : goal.add_four-requires-2-clause-c
add_four-requires-2-clause-c c = record {
  linear =
      linear_added_to (row_of (kept_planes _ _ _ _ c.self.invariant _ _ _ c.in-Some.is c.deref_mut.ensures.value c.deref_mut.ensures.value) (kept_view _ c.self.inside.constant _ _ _ _ _ c.self.view_is c.in-Some.is c.deref_mut.ensures.value c.deref_mut.ensures.value)) (row_added_to (row_of (kept_planes _ _ _ _ c.self.invariant _ _ _ c.in-Some.is c.deref_mut.ensures.value c.deref_mut.ensures.value) (kept_view _ c.self.inside.constant _ _ _ _ _ c.self.view_is c.in-Some.is c.deref_mut.ensures.value c.deref_mut.ensures.value)) (kept_planes _ _ _ _ c.c.invariant _ _ _ c.in-Some-Some-Some-Some.is-2 c.deref-3.ensures c.deref-3.ensures) (kept_view _ c.c.inside.constant _ _ _ _ _ c.c.view_is c.in-Some-Some-Some-Some.is-2 c.deref-3.ensures c.deref-3.ensures) c.requires.c);
  quadratic =
      quadratic_added_to (row_of (kept_planes _ _ _ _ c.self.invariant _ _ _ c.in-Some.is c.deref_mut.ensures.value c.deref_mut.ensures.value) (kept_view _ c.self.inside.constant _ _ _ _ _ c.self.view_is c.in-Some.is c.deref_mut.ensures.value c.deref_mut.ensures.value)) (row_added_to (row_of (kept_planes _ _ _ _ c.self.invariant _ _ _ c.in-Some.is c.deref_mut.ensures.value c.deref_mut.ensures.value) (kept_view _ c.self.inside.constant _ _ _ _ _ c.self.view_is c.in-Some.is c.deref_mut.ensures.value c.deref_mut.ensures.value)) (kept_planes _ _ _ _ c.c.invariant _ _ _ c.in-Some-Some-Some-Some.is-2 c.deref-3.ensures c.deref-3.ensures) (kept_view _ c.c.inside.constant _ _ _ _ _ c.c.view_is c.in-Some-Some-Some-Some.is-2 c.deref-3.ensures c.deref-3.ensures) c.requires.c);
}

pub add_four-requires-2-clause-d : goal.add_four-requires-2-clause-d
add_four-requires-2-clause-d c = record {
  linear =
      linear_added_to (row_of (kept_planes _ _ _ _ c.self.invariant _ _ _ c.in-Some.is c.deref_mut.ensures.value c.deref_mut.ensures.value) (kept_view _ c.self.inside.constant _ _ _ _ _ c.self.view_is c.in-Some.is c.deref_mut.ensures.value c.deref_mut.ensures.value)) (row_added_to (row_of (kept_planes _ _ _ _ c.self.invariant _ _ _ c.in-Some.is c.deref_mut.ensures.value c.deref_mut.ensures.value) (kept_view _ c.self.inside.constant _ _ _ _ _ c.self.view_is c.in-Some.is c.deref_mut.ensures.value c.deref_mut.ensures.value)) (kept_planes _ _ _ _ c.d.invariant _ _ _ c.in-Some-Some-Some-Some.is-3 c.deref-4.ensures c.deref-4.ensures) (kept_view _ c.d.inside.constant _ _ _ _ _ c.d.view_is c.in-Some-Some-Some-Some.is-3 c.deref-4.ensures c.deref-4.ensures) c.requires.d);
  quadratic =
      quadratic_added_to (row_of (kept_planes _ _ _ _ c.self.invariant _ _ _ c.in-Some.is c.deref_mut.ensures.value c.deref_mut.ensures.value) (kept_view _ c.self.inside.constant _ _ _ _ _ c.self.view_is c.in-Some.is c.deref_mut.ensures.value c.deref_mut.ensures.value)) (row_added_to (row_of (kept_planes _ _ _ _ c.self.invariant _ _ _ c.in-Some.is c.deref_mut.ensures.value c.deref_mut.ensures.value) (kept_view _ c.self.inside.constant _ _ _ _ _ c.self.view_is c.in-Some.is c.deref_mut.ensures.value c.deref_mut.ensures.value)) (kept_planes _ _ _ _ c.d.invariant _ _ _ c.in-Some-Some-Some-Some.is-3 c.deref-4.ensures c.deref-4.ensures) (kept_view _ c.d.inside.constant _ _ _ _ _ c.d.view_is c.in-Some-Some-Some-Some.is-3 c.deref-4.ensures c.deref-4.ensures) c.requires.d);
}

-- the row after, by all its planes
by_planes : (c : goal.After-self-2-1) → IsRowOf c.self.inside.field (length (digits_of c.self.inside.constant))
    c.add_four.new.self c.add_four-2.new.self.linear c.add_four-2.new.self.quadratic
    (row_with_four c.args.self.now c.args.a.now c.args.b.now c.args.c.now c.args.d.now)
by_planes c =
    plus_four (row_of (kept_planes _ _ _ _ c.self.invariant _ _ _ c.in-Some.is c.deref_mut.ensures.value c.deref_mut.ensures.value) (kept_view _ c.self.inside.constant _ _ _ _ _ c.self.view_is c.in-Some.is c.deref_mut.ensures.value c.deref_mut.ensures.value))
    (row_added_to (row_of (kept_planes _ _ _ _ c.self.invariant _ _ _ c.in-Some.is c.deref_mut.ensures.value c.deref_mut.ensures.value) (kept_view _ c.self.inside.constant _ _ _ _ _ c.self.view_is c.in-Some.is c.deref_mut.ensures.value c.deref_mut.ensures.value)) (kept_planes _ _ _ _ c.a.invariant _ _ _ c.in-Some-Some-Some-Some.is-0 c.deref.ensures c.deref.ensures) (kept_view _ c.a.inside.constant _ _ _ _ _ c.a.view_is c.in-Some-Some-Some-Some.is-0 c.deref.ensures c.deref.ensures) c.requires.a)
    (row_added_to (row_of (kept_planes _ _ _ _ c.self.invariant _ _ _ c.in-Some.is c.deref_mut.ensures.value c.deref_mut.ensures.value) (kept_view _ c.self.inside.constant _ _ _ _ _ c.self.view_is c.in-Some.is c.deref_mut.ensures.value c.deref_mut.ensures.value)) (kept_planes _ _ _ _ c.b.invariant _ _ _ c.in-Some-Some-Some-Some.is-1 c.deref-2.ensures c.deref-2.ensures) (kept_view _ c.b.inside.constant _ _ _ _ _ c.b.view_is c.in-Some-Some-Some-Some.is-1 c.deref-2.ensures c.deref-2.ensures) c.requires.b)
    (row_added_to (row_of (kept_planes _ _ _ _ c.self.invariant _ _ _ c.in-Some.is c.deref_mut.ensures.value c.deref_mut.ensures.value) (kept_view _ c.self.inside.constant _ _ _ _ _ c.self.view_is c.in-Some.is c.deref_mut.ensures.value c.deref_mut.ensures.value)) (kept_planes _ _ _ _ c.c.invariant _ _ _ c.in-Some-Some-Some-Some.is-2 c.deref-3.ensures c.deref-3.ensures) (kept_view _ c.c.inside.constant _ _ _ _ _ c.c.view_is c.in-Some-Some-Some-Some.is-2 c.deref-3.ensures c.deref-3.ensures) c.requires.c)
    (row_added_to (row_of (kept_planes _ _ _ _ c.self.invariant _ _ _ c.in-Some.is c.deref_mut.ensures.value c.deref_mut.ensures.value) (kept_view _ c.self.inside.constant _ _ _ _ _ c.self.view_is c.in-Some.is c.deref_mut.ensures.value c.deref_mut.ensures.value)) (kept_planes _ _ _ _ c.d.invariant _ _ _ c.in-Some-Some-Some-Some.is-3 c.deref-4.ensures c.deref-4.ensures) (kept_view _ c.d.inside.constant _ _ _ _ _ c.d.view_is c.in-Some-Some-Some-Some.is-3 c.deref-4.ensures c.deref-4.ensures) c.requires.d)
    c.add_four.ensures c.add_four-2.ensures.linear c.add_four-2.ensures.quadratic

pub invariant_of-self-2 : goal.invariant_of-self-2
invariant_of-self-2 c = record { planes = with_length _ _ _ _ _ (by_planes c).planes; needed = kept_not_prime _ _ _ _ c.self.invariant _ c.in-Some.is }

pub returns-clause-sum : goal.returns-clause-sum
returns-clause-sum c = (by_planes c).is

pub returns-clause-as_long : goal.returns-clause-as_long
returns-clause-as_long c =
    as_long_as (row_of (kept_planes _ _ _ _ c.self.invariant _ _ _ c.in-Some.is c.deref_mut.ensures.value c.deref_mut.ensures.value) (kept_view _ c.self.inside.constant _ _ _ _ _ c.self.view_is c.in-Some.is c.deref_mut.ensures.value c.deref_mut.ensures.value)) (row_of (by_planes c).planes refl)

pub returns-clause-well_formed : goal.returns-clause-well_formed
returns-clause-well_formed c = IsRow-of_planes _ _ _ _ _ (invariant_of-self-2 c).planes

-- the row after, by its one plane that has digits
by_one_plane : (c : goal.In_default) → IsRowOf c.self.inside.field (length (digits_of c.self.inside.constant))
    c.add_four.new.self (linear_of c.self.inside.field c.self.inside.higher) (quadratic_of c.self.inside.field c.self.inside.higher)
    (row_with_four c.args.self.now c.args.a.now c.args.b.now c.args.c.now c.args.d.now)
by_one_plane c =
    let one : degree_of c.self.inside.field ≡ 1 = alone_is_prime _ _ _ _ c.self.invariant c.in_default.is in
    plus_four_constant refl (omega (arith, one)) (row_of c.self.invariant.planes c.self.view_is)
    (row_added_to (row_of c.self.invariant.planes c.self.view_is) c.a.invariant.planes c.a.view_is c.requires.a)
    (row_added_to (row_of c.self.invariant.planes c.self.view_is) c.b.invariant.planes c.b.view_is c.requires.b)
    (row_added_to (row_of c.self.invariant.planes c.self.view_is) c.c.invariant.planes c.c.view_is c.requires.c)
    (row_added_to (row_of c.self.invariant.planes c.self.view_is) c.d.invariant.planes c.d.view_is c.requires.d)
    c.add_four.ensures

pub invariant_of-self : goal.invariant_of-self
invariant_of-self c = record { planes = with_length _ _ _ _ _ (by_one_plane c).planes; needed = c.self.invariant.needed }

pub returns-in_default-clause-sum : goal.returns-in_default-clause-sum
returns-in_default-clause-sum c = (by_one_plane c).is

pub returns-in_default-clause-as_long : goal.returns-in_default-clause-as_long
returns-in_default-clause-as_long c =
    as_long_as (row_of c.self.invariant.planes c.self.view_is) (row_of (by_one_plane c).planes refl)

pub returns-in_default-clause-well_formed : goal.returns-in_default-clause-well_formed
returns-in_default-clause-well_formed c = IsRow-of_planes _ _ _ _ _ (invariant_of-self c).planes

-- the others keep all planes where this row does
all_kept : (c : goal.In_default-2) → ⊥
all_kept c =
    elim c.in_default-2.branch [
      | in_default-2-via-in_default w ↦
          kept_not_prime _ _ _ _ c.self.invariant _ c.in-Some.is
          (other_alone _ _ _ c.self.inside.constant _ c.self.inside.higher _ _ _ c.a.invariant c.self.view_is c.a.view_is c.requires.a.field w.in_default-2.is-0)
      | in_default-2-via-in-Some+in_default w ↦
          kept_not_prime _ _ _ _ c.self.invariant _ c.in-Some.is
          (other_alone _ _ _ c.self.inside.constant _ c.self.inside.higher _ _ _ c.b.invariant c.self.view_is c.b.view_is c.requires.b.field w.in_default-2.is-1)
      | in_default-2-via-in-Some+in-Some+in_default w ↦
          kept_not_prime _ _ _ _ c.self.invariant _ c.in-Some.is
          (other_alone _ _ _ c.self.inside.constant _ c.self.inside.higher _ _ _ c.c.invariant c.self.view_is c.c.view_is c.requires.c.field w.in_default-2.is-2)
      | in_default-2-via-in-Some+in-Some+in-Some+in_default w ↦
          kept_not_prime _ _ _ _ c.self.invariant _ c.in-Some.is
          (other_alone _ _ _ c.self.inside.constant _ c.self.inside.higher _ _ _ c.d.invariant c.self.view_is c.d.view_is c.requires.d.field w.in_default-2.is-3)
    ]

pub returns-in_default-2-clause-sum : goal.returns-in_default-2-clause-sum
returns-in_default-2-clause-sum c = absurd (all_kept c)

pub returns-in_default-2-clause-as_long : goal.returns-in_default-2-clause-as_long
returns-in_default-2-clause-as_long c = absurd (all_kept c)

pub returns-in_default-2-clause-well_formed : goal.returns-in_default-2-clause-well_formed
returns-in_default-2-clause-well_formed c = absurd (all_kept c)

use Rattle.axe_row.proofs.KeptPlanes.{kept_planes, kept_view, kept_not_prime, linear_is_empty, quadratic_is_empty, empty_sum}
use Rattle.axe_row.proofs.RowPlanes.{IsRow-of_planes, with_length}
use Rattle.axe_row.proofs.PlaneSums.{addable_constant, addable_linear, addable_quadratic, summed_planes, summed_entries}
use Rattle.axe_row.proofs.TableSums.{row_of, row_summands, summed_row, entries_for}
use Rattle.axe_row.proofs.Row.add_from_table.Goals as goal

pub add_entries-requires-clause-constant : goal.add_entries-requires-clause-constant
add_entries-requires-clause-constant c =
    (entries_for (row_of c.self.invariant.planes c.self.view_is) c.table.invariant c.table.view_is c.requires.fits).constant

pub add_entries-requires-clause-linear : goal.add_entries-requires-clause-linear
add_entries-requires-clause-linear c =
    (entries_for (row_of c.self.invariant.planes c.self.view_is) c.table.invariant c.table.view_is c.requires.fits).linear

pub add_entries-requires-clause-quadratic : goal.add_entries-requires-clause-quadratic
add_entries-requires-clause-quadratic c =
    (entries_for (row_of c.self.invariant.planes c.self.view_is) c.table.invariant c.table.view_is c.requires.fits).quadratic

pub add_entries-requires-clause-addable : goal.add_entries-requires-clause-addable
add_entries-requires-clause-addable c =
    addable_constant _ _ _ _ _ _ _ _ _ _ _ _
    (row_summands (row_of c.self.invariant.planes c.self.view_is) (entries_for (row_of c.self.invariant.planes c.self.view_is) c.table.invariant c.table.view_is c.requires.fits).is_row
    c.requires.element c.plane_matrix-m.ensures.value)

pub add_entries-requires-2-clause-constant : goal.add_entries-requires-2-clause-constant
add_entries-requires-2-clause-constant c =
    (entries_for (row_of (kept_planes _ _ _ _ c.self.invariant _ _ _ c.in-Some.is c.deref_mut.ensures.value c.deref_mut.ensures.value) (kept_view _ c.self.inside.constant _ _ _ _ _ c.self.view_is c.in-Some.is c.deref_mut.ensures.value c.deref_mut.ensures.value)) c.table.invariant c.table.view_is c.requires.fits).constant

pub add_entries-requires-2-clause-linear : goal.add_entries-requires-2-clause-linear
add_entries-requires-2-clause-linear c =
    (entries_for (row_of (kept_planes _ _ _ _ c.self.invariant _ _ _ c.in-Some.is c.deref_mut.ensures.value c.deref_mut.ensures.value) (kept_view _ c.self.inside.constant _ _ _ _ _ c.self.view_is c.in-Some.is c.deref_mut.ensures.value c.deref_mut.ensures.value)) c.table.invariant c.table.view_is c.requires.fits).linear

pub add_entries-requires-2-clause-quadratic : goal.add_entries-requires-2-clause-quadratic
add_entries-requires-2-clause-quadratic c =
    (entries_for (row_of (kept_planes _ _ _ _ c.self.invariant _ _ _ c.in-Some.is c.deref_mut.ensures.value c.deref_mut.ensures.value) (kept_view _ c.self.inside.constant _ _ _ _ _ c.self.view_is c.in-Some.is c.deref_mut.ensures.value c.deref_mut.ensures.value)) c.table.invariant c.table.view_is c.requires.fits).quadratic

pub add_entries-requires-2-clause-to_linear : goal.add_entries-requires-2-clause-to_linear
add_entries-requires-2-clause-to_linear c =
    addable_linear _ _ _ _ _ _ _ _ _ _ _ _
    (row_summands (row_of (kept_planes _ _ _ _ c.self.invariant _ _ _ c.in-Some.is c.deref_mut.ensures.value c.deref_mut.ensures.value) (kept_view _ c.self.inside.constant _ _ _ _ _ c.self.view_is c.in-Some.is c.deref_mut.ensures.value c.deref_mut.ensures.value)) (entries_for (row_of (kept_planes _ _ _ _ c.self.invariant _ _ _ c.in-Some.is c.deref_mut.ensures.value c.deref_mut.ensures.value) (kept_view _ c.self.inside.constant _ _ _ _ _ c.self.view_is c.in-Some.is c.deref_mut.ensures.value c.deref_mut.ensures.value)) c.table.invariant c.table.view_is c.requires.fits).is_row
    c.requires.element c.plane_matrix-m.ensures.value)

pub add_entries-requires-2-clause-to_quadratic : goal.add_entries-requires-2-clause-to_quadratic
add_entries-requires-2-clause-to_quadratic c =
    addable_quadratic _ _ _ _ _ _ _ _ _ _ _ _
    (row_summands (row_of (kept_planes _ _ _ _ c.self.invariant _ _ _ c.in-Some.is c.deref_mut.ensures.value c.deref_mut.ensures.value) (kept_view _ c.self.inside.constant _ _ _ _ _ c.self.view_is c.in-Some.is c.deref_mut.ensures.value c.deref_mut.ensures.value)) (entries_for (row_of (kept_planes _ _ _ _ c.self.invariant _ _ _ c.in-Some.is c.deref_mut.ensures.value c.deref_mut.ensures.value) (kept_view _ c.self.inside.constant _ _ _ _ _ c.self.view_is c.in-Some.is c.deref_mut.ensures.value c.deref_mut.ensures.value)) c.table.invariant c.table.view_is c.requires.fits).is_row
    c.requires.element c.plane_matrix-m.ensures.value)

pub invariant_of-self : goal.invariant_of-self
invariant_of-self c = record {
  planes =
      with_length _ _ _ _ _ (summed_planes _ _ _ _ _ _ _ _ _ _ _ _ _ _ _
      (row_summands (row_of c.self.invariant.planes c.self.view_is) (entries_for (row_of c.self.invariant.planes c.self.view_is) c.table.invariant c.table.view_is c.requires.fits).is_row
      c.requires.element c.plane_matrix-m.ensures.value)
      c.add_entries.ensures (empty_sum _ _ _ _ _ (linear_is_empty _ _ _ _ c.self.invariant c.in_default.is)) (empty_sum _ _ _ _ _ (quadratic_is_empty _ _ _ _ c.self.invariant c.in_default.is)));
  needed = c.self.invariant.needed;
}

pub invariant_of-self-2 : goal.invariant_of-self-2
invariant_of-self-2 c = record {
  planes =
      with_length _ _ _ _ _ (summed_planes _ _ _ _ _ _ _ _ _ _ _ _ _ _ _
      (row_summands (row_of (kept_planes _ _ _ _ c.self.invariant _ _ _ c.in-Some.is c.deref_mut.ensures.value c.deref_mut.ensures.value) (kept_view _ c.self.inside.constant _ _ _ _ _ c.self.view_is c.in-Some.is c.deref_mut.ensures.value c.deref_mut.ensures.value)) (entries_for (row_of (kept_planes _ _ _ _ c.self.invariant _ _ _ c.in-Some.is c.deref_mut.ensures.value c.deref_mut.ensures.value) (kept_view _ c.self.inside.constant _ _ _ _ _ c.self.view_is c.in-Some.is c.deref_mut.ensures.value c.deref_mut.ensures.value)) c.table.invariant c.table.view_is c.requires.fits).is_row
      c.requires.element c.plane_matrix-m.ensures.value)
      c.add_entries.ensures c.add_entries-2.ensures.linear c.add_entries-2.ensures.quadratic);
  needed = kept_not_prime _ _ _ _ c.self.invariant _ c.in-Some.is;
}

pub returns-in_default-clause-sum : goal.returns-in_default-clause-sum
returns-in_default-clause-sum c =
    summed_row _ (row_of c.self.invariant.planes c.self.view_is) (entries_for (row_of c.self.invariant.planes c.self.view_is) c.table.invariant c.table.view_is c.requires.fits).is_row
    (summed_entries _ _ _ _ _ _ _ _ _ _ _ _ _ _ _
    (row_summands (row_of c.self.invariant.planes c.self.view_is) (entries_for (row_of c.self.invariant.planes c.self.view_is) c.table.invariant c.table.view_is c.requires.fits).is_row
    c.requires.element c.plane_matrix-m.ensures.value)
    c.add_entries.ensures (empty_sum _ _ _ _ _ (linear_is_empty _ _ _ _ c.self.invariant c.in_default.is)) (empty_sum _ _ _ _ _ (quadratic_is_empty _ _ _ _ c.self.invariant c.in_default.is)))

pub returns-clause-sum : goal.returns-clause-sum
returns-clause-sum c =
    summed_row _ (row_of (kept_planes _ _ _ _ c.self.invariant _ _ _ c.in-Some.is c.deref_mut.ensures.value c.deref_mut.ensures.value) (kept_view _ c.self.inside.constant _ _ _ _ _ c.self.view_is c.in-Some.is c.deref_mut.ensures.value c.deref_mut.ensures.value)) (entries_for (row_of (kept_planes _ _ _ _ c.self.invariant _ _ _ c.in-Some.is c.deref_mut.ensures.value c.deref_mut.ensures.value) (kept_view _ c.self.inside.constant _ _ _ _ _ c.self.view_is c.in-Some.is c.deref_mut.ensures.value c.deref_mut.ensures.value)) c.table.invariant c.table.view_is c.requires.fits).is_row
    (summed_entries _ _ _ _ _ _ _ _ _ _ _ _ _ _ _
    (row_summands (row_of (kept_planes _ _ _ _ c.self.invariant _ _ _ c.in-Some.is c.deref_mut.ensures.value c.deref_mut.ensures.value) (kept_view _ c.self.inside.constant _ _ _ _ _ c.self.view_is c.in-Some.is c.deref_mut.ensures.value c.deref_mut.ensures.value)) (entries_for (row_of (kept_planes _ _ _ _ c.self.invariant _ _ _ c.in-Some.is c.deref_mut.ensures.value c.deref_mut.ensures.value) (kept_view _ c.self.inside.constant _ _ _ _ _ c.self.view_is c.in-Some.is c.deref_mut.ensures.value c.deref_mut.ensures.value)) c.table.invariant c.table.view_is c.requires.fits).is_row
    c.requires.element c.plane_matrix-m.ensures.value)
    c.add_entries.ensures c.add_entries-2.ensures.linear c.add_entries-2.ensures.quadratic)

pub returns-in_default-clause-well_formed : goal.returns-in_default-clause-well_formed
returns-in_default-clause-well_formed c = IsRow-of_planes _ _ _ _ _ (invariant_of-self c).planes

pub returns-clause-well_formed : goal.returns-clause-well_formed
returns-clause-well_formed c = IsRow-of_planes _ _ _ _ _ (invariant_of-self-2 c).planes

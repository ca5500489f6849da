use Rattle.std.proofs.Common.{lit<}
use Rattle.axe_row.proofs.KeptPlanes.{kept_planes, kept_view, kept_not_prime, linear_is_empty, quadratic_is_empty, empty_set}
use Rattle.axe_row.proofs.RowPlanes.{set_digit, element_along, set_planes, row_set, with_length, IsRow-of_planes}
use Rattle.axe_row.proofs.Row.set_by_planes.Goals as goal

pub set-requires : goal.set-requires
set-requires c =
    set_digit _ _ 0 _ _ _ c.self.invariant.planes.constant (element_along _ _ _ _ c.self.view_is c.requires.element) (lit< tt) c.plane_matrix-matrix.ensures.value

pub set-requires-2 : goal.set-requires-2
set-requires-2 c =
    set_digit _ _ 1 _ _ _ (kept_planes _ _ _ _ c.self.invariant _ _ _ c.in-Some.is c.deref_mut.ensures.value c.deref_mut.ensures.value).linear
    (element_along _ _ _ _ c.self.view_is c.requires.element) (lit< tt) c.plane_matrix-matrix.ensures.value

pub set-requires-3 : goal.set-requires-3
set-requires-3 c =
    set_digit _ _ 2 _ _ _ (kept_planes _ _ _ _ c.self.invariant _ _ _ c.in-Some.is c.deref_mut.ensures.value c.deref_mut.ensures.value).quadratic
    (element_along _ _ _ _ c.self.view_is c.requires.element) (lit< tt) c.plane_matrix-matrix.ensures.value

-- a row of one plane alone
pub invariant_of-self : goal.invariant_of-self
invariant_of-self c = record {
  planes =
      with_length _ _ _ _ _ (set_planes _ _ _ _ _ _ _ _ _ _ _ c.self.invariant.planes (element_along _ _ _ _ c.self.view_is c.requires.element)
      c.plane_matrix-matrix.ensures.value c.set.ensures (empty_set _ _ _ (linear_is_empty _ _ _ _ c.self.invariant c.in_default.is))
      (empty_set _ _ _ (quadratic_is_empty _ _ _ _ c.self.invariant c.in_default.is)));
  needed = c.self.invariant.needed;
}

pub returns-in_default-clause-replaced : goal.returns-in_default-clause-replaced
returns-in_default-clause-replaced c =
    row_set _ _ _ _ _ _ _ _ _ _ _ _ c.self.invariant.planes c.self.view_is c.requires.element c.requires.index
    c.plane_matrix-matrix.ensures.value c.set.ensures (empty_set _ _ _ (linear_is_empty _ _ _ _ c.self.invariant c.in_default.is))
    (empty_set _ _ _ (quadratic_is_empty _ _ _ _ c.self.invariant c.in_default.is))

pub returns-in_default-clause-well_formed : goal.returns-in_default-clause-well_formed
returns-in_default-clause-well_formed c = IsRow-of_planes _ _ _ _ _ (invariant_of-self c).planes

-- a row of three planes
pub invariant_of-self-2 : goal.invariant_of-self-2
invariant_of-self-2 c = record {
  planes =
      with_length _ _ _ _ _ (set_planes _ _ _ _ _ _ _ _ _ _ _ (kept_planes _ _ _ _ c.self.invariant _ _ _ c.in-Some.is c.deref_mut.ensures.value c.deref_mut.ensures.value)
      (element_along _ _ _ _ c.self.view_is c.requires.element)
      c.plane_matrix-matrix.ensures.value c.set.ensures c.set-2.ensures c.set-3.ensures);
  needed = kept_not_prime _ _ _ _ c.self.invariant _ c.in-Some.is;
}

pub returns-clause-replaced : goal.returns-clause-replaced
returns-clause-replaced c =
    row_set _ _ _ _ _ _ _ _ _ _ _ _ (kept_planes _ _ _ _ c.self.invariant _ _ _ c.in-Some.is c.deref_mut.ensures.value c.deref_mut.ensures.value)
    (kept_view _ c.self.inside.constant _ _ _ _ _ c.self.view_is c.in-Some.is c.deref_mut.ensures.value c.deref_mut.ensures.value)
    c.requires.element c.requires.index c.plane_matrix-matrix.ensures.value c.set.ensures c.set-2.ensures c.set-3.ensures

pub returns-clause-well_formed : goal.returns-clause-well_formed
returns-clause-well_formed c = IsRow-of_planes _ _ _ _ _ (invariant_of-self-2 c).planes

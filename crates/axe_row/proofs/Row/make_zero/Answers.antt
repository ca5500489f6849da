use Rattle.axe_row.specs.HigherPlanes.{linear_of, quadratic_of}
use Rattle.axe_row.proofs.KeptPlanes.{kept_planes, kept_view, kept_not_prime, linear_is_empty, quadratic_is_empty, empty_multiple}
use Rattle.axe_row.proofs.RowPlanes.{IsRow-of_planes, with_length}
use Rattle.axe_row.proofs.MultiplesByX.{zero_below, zeroed_planes, zeroed_entries, row_zeroed}
use Rattle.axe_row.proofs.Row.make_zero.Goals as goal

pub scale-requires : goal.scale-requires
scale-requires c = zero_below _ _ _ c.self.invariant.planes.constant

pub scale-requires-2 : goal.scale-requires-2
scale-requires-2 c =
    zero_below _ _ _ (kept_planes _ _ _ _ c.self.invariant _ _ _ c.in-Some.is c.deref_mut.ensures.value c.deref_mut.ensures.value).linear

pub scale-requires-3 : goal.scale-requires-3
scale-requires-3 c =
    zero_below _ _ _ (kept_planes _ _ _ _ c.self.invariant _ _ _ c.in-Some.is c.deref_mut.ensures.value c.deref_mut.ensures.value).quadratic

-- a row of one plane alone
pub invariant_of-self : goal.invariant_of-self
invariant_of-self c = record {
  planes =
      with_length _ _ _ _ _ (zeroed_planes _ _ _ _ _ _ _ _ c.self.invariant.planes c.scale.ensures
      (empty_multiple _ _ (linear_is_empty _ _ _ _ c.self.invariant c.in_default.is))
      (empty_multiple _ _ (quadratic_is_empty _ _ _ _ c.self.invariant c.in_default.is)));
  needed = c.self.invariant.needed;
}

pub returns-in_default-clause-multiple : goal.returns-in_default-clause-multiple
returns-in_default-clause-multiple c =
    let l = linear_of c.self.inside.field c.self.inside.higher in
    let q = quadratic_of c.self.inside.field c.self.inside.higher in
    row_zeroed _ c.self.inside.constant l q c.scale.new.self l q _ c.self.view_is
    (zeroed_entries _ _ _ _ _ _ _ _ c.self.invariant.planes c.scale.ensures
    (empty_multiple _ _ (linear_is_empty _ _ _ _ c.self.invariant c.in_default.is))
    (empty_multiple _ _ (quadratic_is_empty _ _ _ _ c.self.invariant c.in_default.is)))

pub returns-in_default-clause-well_formed : goal.returns-in_default-clause-well_formed
returns-in_default-clause-well_formed c = IsRow-of_planes _ _ _ _ _ (invariant_of-self c).planes

-- a row of three planes
pub invariant_of-self-2 : goal.invariant_of-self-2
invariant_of-self-2 c = record {
  planes =
      with_length _ _ _ _ _ (zeroed_planes _ _ _ _ _ _ _ _ (kept_planes _ _ _ _ c.self.invariant _ _ _ c.in-Some.is c.deref_mut.ensures.value c.deref_mut.ensures.value)
      c.scale.ensures c.scale-2.ensures c.scale-3.ensures);
  needed = kept_not_prime _ _ _ _ c.self.invariant _ c.in-Some.is;
}

pub returns-clause-multiple : goal.returns-clause-multiple
returns-clause-multiple c =
    row_zeroed _ c.self.inside.constant c.deref_mut.result.now.linear c.deref_mut.result.now.quadratic
    c.scale.new.self c.scale-2.new.self c.scale-3.new.self _
    (kept_view _ c.self.inside.constant _ _ _ _ _ c.self.view_is c.in-Some.is c.deref_mut.ensures.value c.deref_mut.ensures.value)
    (zeroed_entries _ _ _ _ _ _ _ _ (kept_planes _ _ _ _ c.self.invariant _ _ _ c.in-Some.is c.deref_mut.ensures.value c.deref_mut.ensures.value)
    c.scale.ensures c.scale-2.ensures c.scale-3.ensures)

pub returns-clause-well_formed : goal.returns-clause-well_formed
returns-clause-well_formed c = IsRow-of_planes _ _ _ _ _ (invariant_of-self-2 c).planes

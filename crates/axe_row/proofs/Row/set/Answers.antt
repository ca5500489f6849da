use Rattle.std.proofs.Common.{rules}
use Rattle.axe_row.proofs.RowPlanes.{IsRow-of_planes, with_length}
use Rattle.axe_row.proofs.PrimeRows.{prime_planes_set, prime_row_set, scalar_is_digit}
use Rattle.axe_row.proofs.Row.set.Goals as goal

pub set-requires : goal.set-requires
set-requires c =
    scalar_is_digit _ _ _ _ _ _ _ c.degree.ensures c.if-degree-eq1.true c.self.invariant.planes.constant c.self.view_is c.requires.element

pub invariant_of-self : goal.invariant_of-self
invariant_of-self c = record {
  planes =
      with_length _ _ _ _ _
      (prime_planes_set _ _ _ _ _ _ _ _ c.self.invariant.planes
      (scalar_is_digit _ _ _ _ _ _ _ c.degree.ensures c.if-degree-eq1.true c.self.invariant.planes.constant c.self.view_is c.requires.element)
      c.set.ensures);
  needed = c.self.invariant.needed;
}

pub returns-then-degree-eq1-clause-replaced : goal.returns-then-degree-eq1-clause-replaced
returns-then-degree-eq1-clause-replaced c =
    prime_row_set _ _ _ _ _ _ _ _ _ c.degree.ensures c.if-degree-eq1.true c.self.invariant.planes c.self.view_is
    (scalar_is_digit _ _ _ _ _ _ _ c.degree.ensures c.if-degree-eq1.true c.self.invariant.planes.constant c.self.view_is c.requires.element)
    c.set.ensures

pub returns-then-degree-eq1-clause-well_formed : goal.returns-then-degree-eq1-clause-well_formed
returns-then-degree-eq1-clause-well_formed c = IsRow-of_planes _ _ _ _ _ (invariant_of-self c).planes

pub set_by_planes-requires-clause-index : goal.set_by_planes-requires-clause-index
set_by_planes-requires-clause-index c = search rules

pub set_by_planes-requires-clause-element : goal.set_by_planes-requires-clause-element
set_by_planes-requires-clause-element c = search rules

pub returns-else-degree-eq1-clause-replaced : goal.returns-else-degree-eq1-clause-replaced
returns-else-degree-eq1-clause-replaced c = search rules

pub returns-else-degree-eq1-clause-well_formed : goal.returns-else-degree-eq1-clause-well_formed
returns-else-degree-eq1-clause-well_formed c = search rules

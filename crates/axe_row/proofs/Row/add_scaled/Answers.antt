use Rattle.std.proofs.Common.{rules, length, ap, sym, ◌∙◌}
use Rattle.axe_row.specs.HigherPlanes.{linear_of, quadratic_of}
use Rattle.axe_row.specs.Rows.{RowValue}
use Rattle.axe_row.proofs.OperationLaws.{length-sum_with_multiple}
use Rattle.axe_row.proofs.RowPlanes.{IsRow-of_planes, with_length}
use Rattle.axe_row.proofs.PrimeRows.{other_length, prime_planes_sum, prime_row_sum, scalar_is_digit}
use Rattle.axe_row.proofs.Row.add_scaled.Goals as goal

pub add_scaled-requires-clause-factor : goal.add_scaled-requires-clause-factor
add_scaled-requires-clause-factor c =
    scalar_is_digit _ _ _ _ _ _ _ c.degree.ensures c.if-degree-eq1.true c.self.invariant.planes.constant c.self.view_is c.requires.element

pub add_scaled-requires-clause-fits : goal.add_scaled-requires-clause-fits
add_scaled-requires-clause-fits c =
    λ _. other_length _ _ c.self.inside.constant (linear_of c.self.inside.field c.self.inside.higher) (quadratic_of c.self.inside.field c.self.inside.higher)
    c.other.inside.constant (linear_of c.other.inside.field c.other.inside.higher) (quadratic_of c.other.inside.field c.other.inside.higher) _ _ c.self.view_is c.other.view_is c.requires.fits

pub invariant_of-self : goal.invariant_of-self
invariant_of-self c = record {
  planes =
      with_length _ _ _ _ _
      (prime_planes_sum _ _ _ _ _ _ c.other.inside.constant _ (sym c.degree.ensures ∙ c.if-degree-eq1.true) c.self.invariant.planes c.add_scaled.ensures);
  needed = c.self.invariant.needed;
}

pub returns-then-degree-eq1-clause-sum : goal.returns-then-degree-eq1-clause-sum
returns-then-degree-eq1-clause-sum c =
    prime_row_sum _ _ _ _ _ _ _ _ _ _ _ _ _ c.degree.ensures c.if-degree-eq1.true c.self.invariant.planes c.other.invariant.planes c.self.view_is c.other.view_is
    c.requires.field c.requires.element c.add_scaled.ensures

pub returns-then-degree-eq1-clause-as_long : goal.returns-then-degree-eq1-clause-as_long
returns-then-degree-eq1-clause-as_long c = ap (λ (r : RowValue). length r.entries) (returns-then-degree-eq1-clause-sum c) ∙ length-sum_with_multiple _ _ _ _

pub returns-then-degree-eq1-clause-well_formed : goal.returns-then-degree-eq1-clause-well_formed
returns-then-degree-eq1-clause-well_formed c = IsRow-of_planes _ _ _ _ _ (invariant_of-self c).planes

pub returns-else-degree-eq1-clause-as_long : goal.returns-else-degree-eq1-clause-as_long
returns-else-degree-eq1-clause-as_long c = ap (λ (r : RowValue). length r.entries) c.add_by_planes.ensures.sum ∙ length-sum_with_multiple _ _ _ _

pub add_by_planes-requires-clause-within : goal.add_by_planes-requires-clause-within
add_by_planes-requires-clause-within c = search rules

pub add_by_planes-requires-clause-field : goal.add_by_planes-requires-clause-field
add_by_planes-requires-clause-field c = search rules

pub add_by_planes-requires-clause-fits : goal.add_by_planes-requires-clause-fits
add_by_planes-requires-clause-fits c = search rules

pub add_by_planes-requires-clause-element : goal.add_by_planes-requires-clause-element
add_by_planes-requires-clause-element c = search rules

pub add_by_planes-requires-clause-zeros : goal.add_by_planes-requires-clause-zeros
add_by_planes-requires-clause-zeros c = search rules

pub returns-else-degree-eq1-clause-sum : goal.returns-else-degree-eq1-clause-sum
returns-else-degree-eq1-clause-sum c = search rules

pub returns-else-degree-eq1-clause-well_formed : goal.returns-else-degree-eq1-clause-well_formed
returns-else-degree-eq1-clause-well_formed c = search rules

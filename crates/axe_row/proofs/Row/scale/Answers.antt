use Rattle.std.proofs.Common.{rules, length, ap, subst, sym, ◌∙◌}
use Rattle.axe_row.specs.Rows.{RowValue, IsRow}
use Rattle.axe_row.proofs.OperationLaws.{length-multiple}
use Rattle.axe_row.proofs.RowPlanes.{IsRow-of_planes, with_length}
use Rattle.axe_row.proofs.PrimeRows.{prime_planes_multiple, prime_row_multiple, scalar_is_digit}
use Rattle.axe_row.proofs.Row.scale.Goals as goal

pub scale-requires : goal.scale-requires
scale-requires c =
    scalar_is_digit _ _ _ _ _ _ _ c.degree.ensures c.if-degree-eq1.true c.self.invariant.planes.constant c.self.view_is c.requires

pub invariant_of-self : goal.invariant_of-self
invariant_of-self c = record {
  planes =
      with_length _ _ _ _ _
      (prime_planes_multiple _ _ _ _ _ _ _ (sym c.degree.ensures ∙ c.if-degree-eq1.true) c.self.invariant.planes c.scale.ensures);
  needed = c.self.invariant.needed;
}

pub returns-then-degree-eq1-clause-multiple : goal.returns-then-degree-eq1-clause-multiple
returns-then-degree-eq1-clause-multiple c =
    prime_row_multiple _ _ _ _ _ _ _ _ c.degree.ensures c.if-degree-eq1.true c.self.invariant.planes c.self.view_is c.requires c.scale.ensures

pub returns-then-degree-eq1-clause-as_long : goal.returns-then-degree-eq1-clause-as_long
returns-then-degree-eq1-clause-as_long c = ap (λ (r : RowValue). length r.entries) (returns-then-degree-eq1-clause-multiple c) ∙ length-multiple _ _ _

pub returns-then-degree-eq1-clause-well_formed : goal.returns-then-degree-eq1-clause-well_formed
returns-then-degree-eq1-clause-well_formed c = IsRow-of_planes _ _ _ _ _ (invariant_of-self c).planes

pub returns-then-vanishes-clause-as_long : goal.returns-then-vanishes-clause-as_long
returns-then-vanishes-clause-as_long c = ap (λ (r : RowValue). length r.entries) c.make_zero.ensures.multiple ∙ length-multiple _ _ _

pub multiply_by_power-requires-clause-well_formed : goal.multiply_by_power-requires-clause-well_formed
multiply_by_power-requires-clause-well_formed c = subst IsRow c.self.view_is (IsRow-of_planes _ _ _ _ _ c.self.invariant.planes)

pub returns-else-vanishes-clause-as_long : goal.returns-else-vanishes-clause-as_long
returns-else-vanishes-clause-as_long c =
    ap (λ (r : RowValue). length r.entries) c.multiply_by_power.ensures.multiple ∙ length-multiple _ _ _

pub returns-then-vanishes-clause-multiple : goal.returns-then-vanishes-clause-multiple
returns-then-vanishes-clause-multiple c = search rules

pub returns-then-vanishes-clause-well_formed : goal.returns-then-vanishes-clause-well_formed
returns-then-vanishes-clause-well_formed c = search rules

pub returns-else-vanishes-clause-multiple : goal.returns-else-vanishes-clause-multiple
returns-else-vanishes-clause-multiple c = search rules

pub returns-else-vanishes-clause-well_formed : goal.returns-else-vanishes-clause-well_formed
returns-else-vanishes-clause-well_formed c = search rules

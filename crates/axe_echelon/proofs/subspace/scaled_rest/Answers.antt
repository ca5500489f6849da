use Rattle.std.proofs.Common.{sym, ◌∙◌, ap₂, subst}
use Rattle.axe_field.specs.Arithmetic.{field_mul}
use Rattle.axe_field.specs.Order.{IsElement}
use Rattle.axe_echelon.proofs.subspace.scaled_rest.Goals as goal

pub returns : goal.returns
returns c = record {
  leads = c.in-Some.ensures;
  element = subst (λ o. IsElement o c.inv-scalar.result) c.field.ensures.order c.inv-scalar.ensures.element;
  inverse = ap₂ (λ o a. field_mul o a c.inv-scalar.result) (sym c.field.ensures.order) (sym c.get.ensures.entry) ∙ c.inv-scalar.ensures.inverse;
  row = c.scale.ensures.multiple;
  row_well_formed = c.scale.ensures.well_formed;
}

pub returns-in_default : goal.returns-in_default
returns-in_default c = c.in_default.ensures

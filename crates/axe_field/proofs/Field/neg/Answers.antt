use Rattle.std.proofs.Common.{ℕ, ◌<◌, ap, sym, subst, ◌∙◌}
use Rattle.axe_field.specs.Order.{order_number}
use Rattle.axe_field.specs.Arithmetic.{field_add}
use Rattle.axe_field.specs.CheckedLaws.{field_neg-below, field_add-neg}
use Rattle.axe_field.specs.declared.tables.Tables.{Tables}
use Rattle.axe_field.proofs.Lookup.{negatives-at, value_along}
use Rattle.axe_field.proofs.Field.neg.Goals as goal

pub returns-clause-value : goal.returns-clause-value
returns-clause-value c =
    value_along _ _ _ _ _
    (ap (λ (t : Tables). t.negatives) c.tables.ensures)
    c.from.ensures
    (negatives-at c.args.self.now c.args.element c.requires)

pub returns-clause-sum : goal.returns-clause-sum
returns-clause-sum c =
    ap (field_add c.args.self.now c.args.element) (returns-clause-value c) ∙ field_add-neg c.args.self.now c.args.element c.requires

pub returns-clause-element : goal.returns-clause-element
returns-clause-element c =
    let P : ℕ → Type 0 = λ n. n < order_number c.args.self.now in
    subst P (sym (returns-clause-value c)) (field_neg-below c.args.self.now c.args.element c.requires)

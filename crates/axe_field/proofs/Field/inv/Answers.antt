use Rattle.std.proofs.Common.{ℕ, ◌<◌, ap, sym, subst, ◌∙◌}
use Rattle.axe_field.specs.Order.{order_number}
use Rattle.axe_field.specs.Arithmetic.{field_mul}
use Rattle.axe_field.specs.CheckedLaws.{field_inv-below, field_mul-inv}
use Rattle.axe_field.specs.declared.tables.Tables.{Tables}
use Rattle.axe_field.proofs.Lookup.{inverses-at, value_along}
use Rattle.axe_field.proofs.Field.inv.Goals as goal

pub returns-clause-value : goal.returns-clause-value
returns-clause-value c =
    value_along _ _ _ _ _
    (ap (λ (t : Tables). t.inverses) c.tables.ensures)
    c.from.ensures
    (inverses-at c.args.self.now c.args.element c.requires.element)

pub returns-clause-inverse : goal.returns-clause-inverse
returns-clause-inverse c =
    ap (field_mul c.args.self.now c.args.element) (returns-clause-value c) ∙ field_mul-inv c.args.self.now c.args.element c.requires.element c.requires.nonzero

pub returns-clause-element : goal.returns-clause-element
returns-clause-element c =
    let P : ℕ → Type 0 = λ n. n < order_number c.args.self.now in
    subst P (sym (returns-clause-value c)) (field_inv-below c.args.self.now c.args.element c.requires.element)

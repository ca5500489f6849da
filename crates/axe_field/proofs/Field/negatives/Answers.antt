use Rattle.std.proofs.Common.{ℕ, ◌<◌, ap, refl, sym, subst}
use Rattle.axe_field.specs.Order.{order_number}
use Rattle.axe_field.specs.CheckedLaws.{field_neg-below}
use Rattle.axe_field.specs.declared.tables.Tables.{Tables}
use Rattle.axe_field.proofs.Lookup.{negatives-at, value_along}
use Rattle.axe_field.proofs.Field.negatives.Goals as goal

pub returns-clause-values : goal.returns-clause-values
returns-clause-values c = λ a element.
    value_along _ _ a a _ (ap (λ (t : Tables). t.negatives) c.tables.ensures) refl (negatives-at c.args.self.now a element)

pub returns-clause-elements : goal.returns-clause-elements
returns-clause-elements c = λ a element.
    let P : ℕ → Type 0 = λ n. n < order_number c.args.self.now in
    subst P (sym (returns-clause-values c a element)) (field_neg-below c.args.self.now a element)

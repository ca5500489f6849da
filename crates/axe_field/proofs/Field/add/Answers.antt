use Rattle.std.proofs.Common.{ℕ, ◌<◌, ap, sym, subst}
use Rattle.axe_field.specs.Order.{order_number}
use Rattle.axe_field.specs.CheckedLaws.{field_add-below}
use Rattle.axe_field.specs.declared.tables.Tables.{Tables}
use Rattle.axe_field.proofs.Lookup.{sums-at, entry_along}
use Rattle.axe_field.proofs.Field.add.Goals as goal

pub returns-clause-value : goal.returns-clause-value
returns-clause-value c =
    entry_along _ _ _ _ _ _ _
    (ap (λ (t : Tables). t.sums) c.tables.ensures)
    c.from.ensures c.from-2.ensures
    (sums-at c.args.self.now c.args.left c.args.right c.requires.left c.requires.right)

pub returns-clause-element : goal.returns-clause-element
returns-clause-element c =
    let P : ℕ → Type 0 = λ n. n < order_number c.args.self.now in
    subst P (sym (returns-clause-value c)) (field_add-below c.args.self.now c.args.left c.args.right c.requires.left c.requires.right)

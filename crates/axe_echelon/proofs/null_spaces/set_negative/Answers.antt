use Rattle.std.proofs.Common.{refl, set, ap, ◌∙◌}
use Rattle.axe_field.specs.Arithmetic.{field_neg}
use Rattle.axe_echelon.proofs.null_spaces.set_negative.Goals as goal

pub returns-then-element-ne0-clause-set : goal.returns-then-element-ne0-clause-set
returns-then-element-ne0-clause-set c = λ some.
    c.set.ensures.replaced
    ∙ ap (λ n. record { order = c.args.row.now.order; entries = set c.args.row.now.entries c.args.index n })
    (c.neg-negative.ensures.value ∙ ap (λ o. field_neg o c.args.element) c.field.ensures.order)

pub returns-then-element-ne0-clause-same : goal.returns-then-element-ne0-clause-same
returns-then-element-ne0-clause-same c = λ zero. absurd (c.if-element-ne0.true zero)

pub returns-then-element-ne0-clause-well_formed : goal.returns-then-element-ne0-clause-well_formed
returns-then-element-ne0-clause-well_formed c = c.set.ensures.well_formed

pub returns-else-element-ne0-clause-set : goal.returns-else-element-ne0-clause-set
returns-else-element-ne0-clause-set c = λ some. absurd (some c.if-element-ne0.false)

pub returns-else-element-ne0-clause-same : goal.returns-else-element-ne0-clause-same
returns-else-element-ne0-clause-same c = λ zero. refl

pub returns-else-element-ne0-clause-well_formed : goal.returns-else-element-ne0-clause-well_formed
returns-else-element-ne0-clause-well_formed c = c.field.ensures.well_formed

use Rattle.std.proofs.Common.{sym, ◌∙◌}
use Rattle.axe_norton.proofs.FittingLaws.{fits_by_nullity, unfit_by_nullity}
use Rattle.axe_norton.proofs.fitting.tested_where_word_fits.Goals as goal

pub returns-then-rows-degree : goal.returns-then-rows-degree
returns-then-rows-degree c =
    fits_by_nullity c.args.module.now c.args.word.now c.args.poly.now c.requires.field (c.in_ok-is_irreducible.ensures.0 c.if-not-branch.false)
    c.in_ok-tested.tested c.in_ok-tested.ensures (sym c.rows.ensures.count ∙ c.if-rows-degree.true ∙ c.degree.ensures.value)

pub returns-else-rows-degree : goal.returns-else-rows-degree
returns-else-rows-degree c =
    unfit_by_nullity c.args.module.now c.args.word.now c.args.poly.now c.requires.field (c.in_ok-is_irreducible.ensures.0 c.if-not-branch.false)
    c.in_ok-tested.tested c.in_ok-tested.ensures
    (λ nullity. c.if-rows-degree.false (c.rows.ensures.count ∙ nullity ∙ sym c.degree.ensures.value))

use Rattle.std.proofs.Common.{sym, ap, subst, ◌∙◌, arith}
use Rattle.axe_field.specs.Arithmetic.{field_neg}
use Rattle.axe_field.specs.Order.{IsElement}
use Rattle.axe_field.proofs.NumberFields.{number_field-neg}
use Rattle.axe_iso.proofs.LayerLaws.{without_first, without_next}
use Rattle.axe_iso.proofs.images.without_combination.Goals as goal

pub loop-number-init : goal.loop-number-init
loop-number-init c = without_first c.args.coefficients.now.entries c.args.layers.now c.args.image c.requires.layers c.field.ensures.well_formed

pub loop-number-preserved : goal.loop-number-preserved
loop-number-preserved c =
    without_next c.args.coefficients.now.entries c.args.layers.now c.args.image c.requires.layers
    c.loop-number.number c.get.result c.neg.result c.index-layers-number.result c.loop-number.difference c.add_scaled.new.self
    (omega (arith, c.loop-number-test.true)) c.loop-number.invariant c.index-layers-number.is c.get.ensures.entry
    (subst (λ o. IsElement o c.get.result) c.requires.coefficients_field c.get.ensures.element)
    (c.neg.ensures.value ∙ ap (λ o. field_neg o c.get.result) c.field.ensures.order ∙ sym (number_field-neg c.args.image.order c.get.result))
    c.add_scaled.ensures.sum c.add_scaled.ensures.well_formed

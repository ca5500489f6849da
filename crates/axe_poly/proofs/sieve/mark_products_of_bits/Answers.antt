use Rattle.std.proofs.Common.{◌+◌, ◌-◌, ◌^◌, length, refl, sym, ◌∙◌, ap, arith}
use Rattle.axe_field.specs.Order.{Two}
use Rattle.axe_polynomial_algebra.specs.PolynomialsOfLists.{degree_of}
use Rattle.axe_poly.proofs.NumberPolynomials.{same_order}
use Rattle.axe_poly.proofs.PolyLaws.{below_are_elements, power_fits}
use Rattle.axe_poly.proofs.SieveLaws.{products_none, products_more, products_all, first_of_power, product_has_mark}
use Rattle.axe_poly.proofs.sieve.mark_products_of_bits.Goals as goal

pub pow-first-requires : goal.pow-first-requires
pow-first-requires c =
    omega (
      arith,
      power_fits Two (c.args.degree + 1 - length c.args.divisor.now)
          (omega (arith, c.requires.fits, c.requires.monic.positive)),
    )

pub product_of_bits-requires-clause-elements : goal.product_of_bits-requires-clause-elements
product_of_bits-requires-clause-elements c =
    below_are_elements Two c.args.divisor.now c.requires.monic.elements

pub product_of_bits-requires-clause-small : goal.product_of_bits-requires-clause-small
product_of_bits-requires-clause-small c =
    omega (
      arith,
      c.loop-cofactor-test.true,
      c.pow-first.ensures,
      power_fits Two (c.args.degree + 1 - length c.args.divisor.now)
          (omega (arith, c.requires.fits, c.requires.monic.positive)),
    )

pub overflow_sub-marks : goal.overflow_sub-marks
overflow_sub-marks c =
    let first_is = first_of_power Two Two c.args.divisor.now c.args.degree c.pow-first.result
    c.requires.monic c.requires.smaller refl c.pow-first.ensures in
    (product_has_mark Two c.args.divisor.now c.args.degree (length c.args.marks.now) c.pow-first.result
    c.requires.monic c.requires.smaller c.requires.long first_is c.loop-cofactor.cofactor
    c.product_of_bits.result c.loop-cofactor.auto.cofactor c.loop-cofactor-test.true
    c.product_of_bits.ensures).0

pub bounds-marks-product_of_bits : goal.bounds-marks-product_of_bits
bounds-marks-product_of_bits c =
    let first_is = first_of_power Two Two c.args.divisor.now c.args.degree c.pow-first.result
    c.requires.monic c.requires.smaller refl c.pow-first.ensures in
    let within = product_has_mark Two c.args.divisor.now c.args.degree (length c.args.marks.now) c.pow-first.result
    c.requires.monic c.requires.smaller c.requires.long first_is c.loop-cofactor.cofactor
    c.product_of_bits.result c.loop-cofactor.auto.cofactor c.loop-cofactor-test.true
    c.product_of_bits.ensures in
    omega (arith, within.0, within.1, c.loop-cofactor.auto.marks)

pub loop-cofactor-init : goal.loop-cofactor-init
loop-cofactor-init c = products_none _ _ _ _ _

pub loop-cofactor-preserved : goal.loop-cofactor-preserved
loop-cofactor-preserved c =
    let first_is = first_of_power Two Two c.args.divisor.now c.args.degree c.pow-first.result
    c.requires.monic c.requires.smaller refl c.pow-first.ensures in
    let within = product_has_mark Two c.args.divisor.now c.args.degree (length c.args.marks.now) c.pow-first.result
    c.requires.monic c.requires.smaller c.requires.long first_is c.loop-cofactor.cofactor
    c.product_of_bits.result c.loop-cofactor.auto.cofactor c.loop-cofactor-test.true
    c.product_of_bits.ensures in
    products_more _ _ _ _ _ c.product_of_bits.result _ _ _ _ c.loop-cofactor.auto.cofactor
    c.product_of_bits.ensures
    (omega (arith, within.0)) (omega (arith, within.0, within.1, c.loop-cofactor.auto.marks)) refl
    c.loop-cofactor.invariant

pub returns : goal.returns
returns c =
    let first_is = first_of_power Two Two c.args.divisor.now c.args.degree c.pow-first.result
    c.requires.monic c.requires.smaller refl c.pow-first.ensures in
    products_all Two c.args.divisor.now c.args.degree _ c.loop-cofactor.cofactor c.args.marks.now c.loop-cofactor.marks
    c.requires.monic c.requires.smaller
    (first_is ∙ sym (ap (λ q. q ^ (c.args.degree - degree_of c.args.divisor.now)) (same_order Two)))
    (omega (arith, c.loop-cofactor-test.false, c.loop-cofactor.auto.cofactor-end (omega arith)))
    (c.requires.long ∙ sym (ap (λ q. q ^ c.args.degree) (same_order Two))) c.loop-cofactor.invariant

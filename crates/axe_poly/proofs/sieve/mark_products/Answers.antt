use Rattle.std.proofs.Common.{◌≡◌, ◌<◌, ◌+◌, ◌-◌, ◌*◌, ◌^◌, length, get_or, slice_set, true}
use Rattle.std.proofs.Common.{refl, sym, subst, ◌∙◌, ap, arith}
use Rattle.axe_field.specs.Order.{order_number}
use Rattle.axe_polynomial_algebra.specs.PolynomialsOfLists.{degree_of}
use Rattle.axe_poly.specs.Lanes.{lane_base}
use Rattle.axe_poly.specs.Sieve.{MarksProducts, IsProductWord, IsNumberOfLanes}
use Rattle.axe_poly.proofs.ProductWords.{word_small, scaling_small, product_with_digit}
use Rattle.axe_poly.proofs.SieveLaws.{products_none_from, products_more, higher_has_digits, digit_has_mark}
use Rattle.axe_poly.proofs.sieve.mark_products.Goals as goal
use native.Mathlib.Nat.{mul-le-mul_left}

pub word_of_product-requires-clause-small : goal.word_of_product-requires-clause-small
word_of_product-requires-clause-small c =
    subst (λ o. c.args.higher < order_number o ^ (c.args.degree + 1 - length c.args.divisor.now))
    (sym c.field.ensures)
    (higher_has_digits c.args.lanes.now (c.args.degree - length c.args.divisor.now)
    (c.args.degree + 1 - length c.args.divisor.now) c.args.higher
    (omega (arith, c.requires.smaller, c.requires.monic.positive)) c.requires.to)

pub overflow_mul-word : goal.overflow_mul-word
overflow_mul-word c =
    let o = c.args.lanes.now in
    let small = word_small o c.args.divisor.now c.requires.monic
    (degree_of c.args.divisor.now + (c.args.degree + 1 - length c.args.divisor.now)) c.args.higher
    c.word_of_product.result (omega (arith, c.requires.fits, c.requires.smaller))
    (subst (λ r. IsProductWord r c.args.divisor.now c.args.higher
    (degree_of c.args.divisor.now + (c.args.degree + 1 - length c.args.divisor.now)) c.word_of_product.result)
    c.field.ensures c.word_of_product.ensures) in
    omega (arith, small, mul-le-mul_left c.word_of_product.result c.lane_base.ensures.small)

pub overflow_add-word : goal.overflow_add-word
overflow_add-word c =
    let o = c.args.lanes.now in
    let inside : c.loop-digit.digit < order_number o = omega (
      arith,
      c.loop-digit-test.true,
      c.from-digit-end.ensures,
      c.order.ensures.value,
      ap order_number c.field.ensures,
    ) in
    let small = word_small o c.args.divisor.now c.requires.monic
    (degree_of c.args.divisor.now + (c.args.degree + 1 - length c.args.divisor.now)) c.args.higher
    c.word_of_product.result (omega (arith, c.requires.fits, c.requires.smaller))
    (subst (λ r. IsProductWord r c.args.divisor.now c.args.higher
    (degree_of c.args.divisor.now + (c.args.degree + 1 - length c.args.divisor.now)) c.word_of_product.result)
    c.field.ensures c.word_of_product.ensures) in
    omega (
      arith,
      small,
      mul-le-mul_left c.word_of_product.result c.lane_base.ensures.small,
      scaling_small o c.args.divisor.now c.args.scalings.now c.loop-digit.digit c.requires.monic
          (omega (arith, c.requires.fits, c.requires.smaller)) c.requires.scalings inside,
    )

pub overflow_sub-marks : goal.overflow_sub-marks
overflow_sub-marks c =
    let o = c.args.lanes.now in
    let inside : c.loop-digit.digit < order_number o = omega (
      arith,
      c.loop-digit-test.true,
      c.from-digit-end.ensures,
      c.order.ensures.value,
      ap order_number c.field.ensures,
    ) in
    let product = product_with_digit o c.args.divisor.now c.args.scalings.now c.args.degree c.args.higher
    c.loop-digit.digit c.word_of_product.result _ c.number_of_lanes-product.result c.requires.monic
    c.requires.smaller c.requires.fits c.requires.scalings inside
    (subst (λ r. IsProductWord r c.args.divisor.now c.args.higher
    (degree_of c.args.divisor.now + (c.args.degree + 1 - length c.args.divisor.now)) c.word_of_product.result)
    c.field.ensures c.word_of_product.ensures)
    (ap (λ b. c.word_of_product.result * b + get_or c.args.scalings.now c.loop-digit.digit 0)
    (c.lane_base.ensures.value ∙ ap lane_base c.field.ensures))
    (subst (λ r. IsNumberOfLanes r 0 (c.args.degree + 1) (c.word_of_product.result * c.lane_base.result
    + get_or c.args.scalings.now c.loop-digit.digit 0) c.number_of_lanes-product.result)
    c.field.ensures c.number_of_lanes-product.ensures) in
    let within = digit_has_mark o c.args.divisor.now c.args.degree (length c.args.marks.now) c.args.higher
    c.loop-digit.digit c.number_of_lanes-product.result c.requires.monic c.requires.smaller c.requires.long
    c.requires.from c.requires.to inside product in
    within.0

pub bounds-marks-product : goal.bounds-marks-product
bounds-marks-product c =
    let o = c.args.lanes.now in
    let inside : c.loop-digit.digit < order_number o = omega (
      arith,
      c.loop-digit-test.true,
      c.from-digit-end.ensures,
      c.order.ensures.value,
      ap order_number c.field.ensures,
    ) in
    let product = product_with_digit o c.args.divisor.now c.args.scalings.now c.args.degree c.args.higher
    c.loop-digit.digit c.word_of_product.result _ c.number_of_lanes-product.result c.requires.monic
    c.requires.smaller c.requires.fits c.requires.scalings inside
    (subst (λ r. IsProductWord r c.args.divisor.now c.args.higher
    (degree_of c.args.divisor.now + (c.args.degree + 1 - length c.args.divisor.now)) c.word_of_product.result)
    c.field.ensures c.word_of_product.ensures)
    (ap (λ b. c.word_of_product.result * b + get_or c.args.scalings.now c.loop-digit.digit 0)
    (c.lane_base.ensures.value ∙ ap lane_base c.field.ensures))
    (subst (λ r. IsNumberOfLanes r 0 (c.args.degree + 1) (c.word_of_product.result * c.lane_base.result
    + get_or c.args.scalings.now c.loop-digit.digit 0) c.number_of_lanes-product.result)
    c.field.ensures c.number_of_lanes-product.ensures) in
    let within = digit_has_mark o c.args.divisor.now c.args.degree (length c.args.marks.now) c.args.higher
    c.loop-digit.digit c.number_of_lanes-product.result c.requires.monic c.requires.smaller c.requires.long
    c.requires.from c.requires.to inside product in
    omega (arith, within.0, within.1, c.loop-digit.auto.marks)

pub loop-digit-init : goal.loop-digit-init
loop-digit-init c = products_none_from _ _ _ _ _ _ (omega arith)

pub loop-digit-preserved : goal.loop-digit-preserved
loop-digit-preserved c =
    let o = c.args.lanes.now in
    let inside : c.loop-digit.digit < order_number o = omega (
      arith,
      c.loop-digit-test.true,
      c.from-digit-end.ensures,
      c.order.ensures.value,
      ap order_number c.field.ensures,
    ) in
    let product = product_with_digit o c.args.divisor.now c.args.scalings.now c.args.degree c.args.higher
    c.loop-digit.digit c.word_of_product.result _ c.number_of_lanes-product.result c.requires.monic
    c.requires.smaller c.requires.fits c.requires.scalings inside
    (subst (λ r. IsProductWord r c.args.divisor.now c.args.higher
    (degree_of c.args.divisor.now + (c.args.degree + 1 - length c.args.divisor.now)) c.word_of_product.result)
    c.field.ensures c.word_of_product.ensures)
    (ap (λ b. c.word_of_product.result * b + get_or c.args.scalings.now c.loop-digit.digit 0)
    (c.lane_base.ensures.value ∙ ap lane_base c.field.ensures))
    (subst (λ r. IsNumberOfLanes r 0 (c.args.degree + 1) (c.word_of_product.result * c.lane_base.result
    + get_or c.args.scalings.now c.loop-digit.digit 0) c.number_of_lanes-product.result)
    c.field.ensures c.number_of_lanes-product.ensures) in
    let within = digit_has_mark o c.args.divisor.now c.args.degree (length c.args.marks.now) c.args.higher
    c.loop-digit.digit c.number_of_lanes-product.result c.requires.monic c.requires.smaller c.requires.long
    c.requires.from c.requires.to inside product in
    subst (λ bound. MarksProducts o c.args.divisor.now (length c.args.marks.now) (c.args.higher * order_number o) bound
    c.args.marks.now (slice_set c.loop-digit.marks (c.number_of_lanes-product.result - length c.args.marks.now) true))
    (let e : c.args.higher * order_number o + c.loop-digit.digit + 1
    ≡ c.args.higher * order_number o + (c.loop-digit.digit + 1) = omega arith in e)
    (products_more _ _ _ _ _ c.number_of_lanes-product.result _ _ _ _ (omega arith) product
    (omega (arith, within.0)) (omega (arith, within.0, within.1, c.loop-digit.auto.marks)) refl
    c.loop-digit.invariant)

use Rattle.std.proofs.Common.{◌≡◌, ◌<◌, ◌+◌, ◌-◌, ◌*◌, ◌^◌, ℕ, suc, get_or, subst, ap, arith}
use Rattle.axe_field.specs.Order.{order_number}
use Rattle.axe_polynomial_algebra.specs.PolynomialsOfLists.{degree_of}
use Rattle.axe_poly.specs.Sieve.{IsProductWord}
use Rattle.axe_poly.proofs.ProductWords.{zero-order, word_start, word_next, word_small, scaling_small, higher_small}
use Rattle.axe_poly.proofs.products.+word_of_product.Goals as goal
use native.Mathlib.Nat.{pow-zero, mul-le-mul_left, mod-lt}

pub returns-then-count-eq0 : goal.returns-then-count-eq0
returns-then-count-eq0 t c =
    let q : ℕ = order_number c.args.field.now in
    word_start c.args.field.now c.args.divisor.now c.requires.monic (degree_of c.args.divisor.now + c.args.count)
    c.args.cofactor (omega (arith, c.requires.small, ap (λ k. q ^ k) c.if-count-eq0.true, pow-zero q))

pub word_of_product-requires : goal.word_of_product-requires
word_of_product-requires t c = (
  omega (arith, c.decreases, c.if-count-eq0.false),
  (
    c.requires.scalings,
    (
      c.requires.monic,
      (
        omega (arith, c.requires.fits),
        higher_small (order_number c.args.field.now) c.args.count c.args.cofactor
            c.without_last_digit-higher.result.0 (zero-order c.args.field.now)
            (omega (arith, c.if-count-eq0.false)) c.requires.small c.without_last_digit-higher.ensures.higher,
      ),
    ),
  ),
)

pub overflow_mul-result : goal.overflow_mul-result
overflow_mul-result t c =
    let small = word_small c.args.field.now c.args.divisor.now c.requires.monic
    (degree_of c.args.divisor.now + (c.args.count - 1)) _ c.word_of_product.result (omega (arith, c.requires.fits))
    c.word_of_product.ensures in
    omega (arith, small, mul-le-mul_left c.word_of_product.result c.lane_base.ensures.small)

pub overflow_add-result : goal.overflow_add-result
overflow_add-result t c =
    let o = c.args.field.now in
    let small = word_small o c.args.divisor.now c.requires.monic
    (degree_of c.args.divisor.now + (c.args.count - 1)) _ c.word_of_product.result (omega (arith, c.requires.fits))
    c.word_of_product.ensures in
    let digit : c.without_last_digit-higher.result.1 < order_number o =
    omega (arith, c.without_last_digit-higher.ensures.digit, mod-lt c.args.cofactor (zero-order o)) in
    omega (
      arith,
      small,
      mul-le-mul_left c.word_of_product.result c.lane_base.ensures.small,
      scaling_small o c.args.divisor.now c.args.scalings.now c.without_last_digit-higher.result.1 c.requires.monic
          (omega (arith, c.requires.fits, c.if-count-eq0.false)) c.requires.scalings digit,
    )

pub returns : goal.returns
returns t c =
    let o = c.args.field.now in
    let n : ℕ = degree_of c.args.divisor.now + (c.args.count - 1) in
    let new : ℕ = c.word_of_product.result * c.lane_base.result
    + get_or c.args.scalings.now c.without_last_digit-higher.result.1 0 in
    subst (λ k. IsProductWord o c.args.divisor.now c.args.cofactor k new)
    (let e : suc n ≡ degree_of c.args.divisor.now + c.args.count = omega (arith, c.if-count-eq0.false) in e)
    (word_next o c.args.divisor.now c.requires.monic c.args.scalings.now n c.args.cofactor c.word_of_product.result
    c.without_last_digit-higher.result.1 new (omega (arith, c.requires.fits, c.if-count-eq0.false))
    c.requires.scalings (omega arith) c.without_last_digit-higher.ensures.digit
    (ap (λ b. c.word_of_product.result * b + get_or c.args.scalings.now c.without_last_digit-higher.result.1 0)
    c.lane_base.ensures.value)
    (subst (λ k. IsProductWord o c.args.divisor.now k n c.word_of_product.result)
    c.without_last_digit-higher.ensures.higher c.word_of_product.ensures))

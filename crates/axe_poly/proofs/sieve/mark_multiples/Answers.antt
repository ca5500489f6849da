use Rattle.std.proofs.Common.{◌≡◌, ◌-◌, ◌*◌, ◌^◌, length, sym, ◌∙◌, ap, arith}
use Rattle.axe_field.specs.Order.{order_number}
use Rattle.axe_polynomial_algebra.specs.PolynomialsOfLists.{degree_of}
use Rattle.axe_poly.proofs.NumberPolynomials.{same_order}
use Rattle.axe_poly.proofs.SieveLaws.{products_all, first_with_digit}
use Rattle.axe_poly.proofs.sieve.mark_multiples.Goals as goal

pub returns : goal.returns
returns c =
    let o = c.args.lanes.now in
    let q = order_number o in
    let first_is = first_with_digit o c.args.divisor.now c.args.degree c.power-first.result c.requires.monic
    c.requires.smaller (c.power-first.ensures.value
    ∙ ap (λ r. order_number r ^ (c.args.degree - length c.args.divisor.now)) c.field-2.ensures) in
    products_all o c.args.divisor.now c.args.degree (c.power-first.result * q) (c.loop-higher.higher * q)
    c.args.marks.now c.loop-higher.marks c.requires.monic c.requires.smaller
    (first_is ∙ sym (ap (λ b. b ^ (c.args.degree - degree_of c.args.divisor.now)) (same_order o)))
    (ap (λ k. k * q) (let e : c.loop-higher.higher ≡ 2 * c.power-first.result = omega
    (arith, c.loop-higher-test.false, c.loop-higher.auto.higher-end (omega arith)) in e)
    ∙ (let e : 2 * c.power-first.result * q ≡ 2 * (c.power-first.result * q) = grind arith in e))
    (c.requires.long ∙ sym (ap (λ b. b ^ c.args.degree) (same_order o))) c.loop-higher.invariant

use Rattle.std.proofs.Common.{◌≡◌, ◌^◌, ap, ◌∙◌, arith}
use Rattle.axe_field.specs.Order.{order_number}
use Rattle.axe_poly.proofs.PolyLaws.{power_fits}
use Rattle.axe_poly.proofs.irreducibles.power.Goals as goal

pub pow-requires : goal.pow-requires
pow-requires c =
    let same : c.from.result ^ c.args.exponent ≡ order_number c.args.field.now ^ c.args.exponent =
    ap (λ q. q ^ c.args.exponent) (c.from.ensures ∙ c.order.ensures.value) in
    omega (arith, same, power_fits c.args.field.now c.args.exponent c.requires)

pub returns-clause-fits : goal.returns-clause-fits
returns-clause-fits c =
    let same : c.from.result ^ c.args.exponent ≡ order_number c.args.field.now ^ c.args.exponent =
    ap (λ q. q ^ c.args.exponent) (c.from.ensures ∙ c.order.ensures.value) in
    omega (arith, c.pow.ensures, same, power_fits c.args.field.now c.args.exponent c.requires)

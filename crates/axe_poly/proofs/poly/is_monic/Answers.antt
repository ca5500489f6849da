use Rattle.std.proofs.Common.{arith}
use Rattle.axe_poly.proofs.PolyLaws.{elements_are_below, below_are_elements}
use Rattle.axe_poly.proofs.poly.is_monic.Goals as goal

pub returns-then-digits-eq1 : goal.returns-then-digits-eq1
returns-then-digits-eq1 c = (
  λ all. record {
    elements = elements_are_below c.args.field.now c.args.digits.now (c.are_elements.ensures.0 all);
    positive = omega (arith, c.if-digits-lt2.false);
    leads = c.if-digits-eq1.true;
  },
  λ monic. c.are_elements.ensures.1 (below_are_elements c.args.field.now c.args.digits.now monic.elements),
)

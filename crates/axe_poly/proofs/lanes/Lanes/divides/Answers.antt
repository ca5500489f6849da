use Rattle.std.proofs.Common.{◌↔◌, IsTrue, sym}
use Rattle.axe_field.specs.NumberFields.{number_field}
use Rattle.axe_polynomial_algebra.specs.PolynomialsOfLists.{IsMonicOver, Divides}
use Rattle.axe_poly.proofs.WindowLaws.{divides_of_window, window_of_divides}
use Rattle.axe_poly.proofs.lanes.Lanes.divides.Goals as goal
use mathlib.Core.Path.{subst}

pub returns : goal.returns
returns c =
    let o = c.field.result.now in
    subst (λ order. IsTrue c.are_zeros.result ↔ Divides (number_field order) c.args.divisor.now c.args.dividend.now)
    c.field.ensures (
      λ zeros. divides_of_window o c.args.divisor.now c.args.dividend.now c.remainder-word.result
          c.remainder-word.ensures (c.are_zeros.ensures.0 zeros),
      λ divides. c.are_zeros.ensures.1
          (window_of_divides o c.args.divisor.now c.args.dividend.now c.remainder-word.result
          (subst (λ order. IsMonicOver (number_field order) c.args.divisor.now) (sym c.field.ensures) c.requires.monic)
          c.remainder-word.ensures divides),
    )

use Rattle.std.proofs.Common.{rules, ◌≢◌, ◌∙◌}
use Rattle.axe_row.proofs.MultiplesByX.{power_is, exponents_of_four, exponents_of_eight, exponents_of_nine}
use Rattle.axe_row.proofs.scaling.exponent.Goals as goal
use Rattle.axe_row.proofs.scaling.exponent.Goals.{in-4, in-8, in_default}

pub returns : goal.returns
returns c = elim c.match-order.branch [
  | in-4 w ↦
      power_is _ _ _ _ c.requires.degree c.requires.element c.requires.nonzero c.from.ensures
      (w.exponents-is ∙ exponents_of_four _ _ c.order.ensures.value w.in-4.is)
  | in-8 w ↦
      power_is _ _ _ _ c.requires.degree c.requires.element c.requires.nonzero c.from.ensures
      (w.exponents-is ∙ exponents_of_eight _ _ c.order.ensures.value w.in-8.is)
  | in_default w ↦
      let not_four : c.order.result ≢ 4 = search rules in
      let not_eight : c.order.result ≢ 8 = search rules in
      power_is _ _ _ _ c.requires.degree c.requires.element c.requires.nonzero c.from.ensures
      (w.exponents-is ∙ exponents_of_nine _ _ c.order.ensures.value c.requires.degree not_four not_eight)
]

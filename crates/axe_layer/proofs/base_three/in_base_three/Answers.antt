use Rattle.std.proofs.Common.{arith}
use Rattle.axe_layer.proofs.BaseThree.{base_three_is, base_three_small}
use Rattle.axe_layer.proofs.base_three.in_base_three.Goals as goal

pub overflow_mul-result : goal.overflow_mul-result
overflow_mul-result c = omega (arith, base_three_small c.args.number c.requires)

pub overflow_add-result : goal.overflow_add-result
overflow_add-result c = omega (arith, base_three_small c.args.number c.requires)

pub returns-clause-value : goal.returns-clause-value
returns-clause-value c = λ size few below. base_three_is c.args.number size c.requires few below

pub returns-clause-small : goal.returns-clause-small
returns-clause-small c = base_three_small c.args.number c.requires

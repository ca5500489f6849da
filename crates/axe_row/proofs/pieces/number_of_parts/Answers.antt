use Rattle.std.proofs.Common.{rules, arith}
use Rattle.std.proofs.lemmas.Grind.{common_steps}
use Rattle.axe_row.proofs.pieces.number_of_parts.Goals as goal

pub overflow_mul-result : goal.overflow_mul-result
overflow_mul-result c = search rules

pub overflow_add-result : goal.overflow_add-result
overflow_add-result c = search rules

pub overflow_add-result-2 : goal.overflow_add-result-2
overflow_add-result-2 c = grind (arith, common_steps)

pub returns : goal.returns
returns c = search rules

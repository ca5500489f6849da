use Rattle.std.proofs.Common.{rules}
use Rattle.axe_bits.proofs.pieces.start_of.Goals as goal

pub overflow_mul-result : goal.overflow_mul-result
overflow_mul-result c = search rules

pub returns-clause-start : goal.returns-clause-start
returns-clause-start c = search rules

pub returns-clause-end : goal.returns-clause-end
returns-clause-end c = search rules

use Rattle.axe_algebra.specs.Bridge.{field_of}
use Rattle.axe_polynomial_algebra.proofs.RuleOneVector.{one_vector_rule}
use Rattle.axe_polynomial_algebra.proofs.RuleLists.{list_one_vector_rule}
use Rattle.axe_polynomial_algebra.proofs.rule.one_vector_rule.Goals as goal

pub returns-clause-vectors : goal.returns-clause-vectors
returns-clause-vectors c K = one_vector_rule (field_of K)

pub returns-clause-lists : goal.returns-clause-lists
returns-clause-lists c K = list_one_vector_rule K

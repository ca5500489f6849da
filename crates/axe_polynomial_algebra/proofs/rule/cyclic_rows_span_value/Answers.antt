use Rattle.axe_algebra.specs.Bridge.{field_of}
use Rattle.axe_polynomial_algebra.proofs.CyclicVectors.{cyclic_rows_span_value}
use Rattle.axe_polynomial_algebra.proofs.CyclicLists.{list_cyclic_rows_span_value}
use Rattle.axe_polynomial_algebra.proofs.rule.cyclic_rows_span_value.Goals as goal

pub returns-clause-vectors : goal.returns-clause-vectors
returns-clause-vectors c K = cyclic_rows_span_value (field_of K)

pub returns-clause-lists : goal.returns-clause-lists
returns-clause-lists c K = list_cyclic_rows_span_value K

use Rattle.axe_algebra.specs.Bridge.{field_of}
use Rattle.axe_polynomial_algebra.proofs.VectorRows.{fitting_rows_span_null_space}
use Rattle.axe_polynomial_algebra.proofs.rule.fitting_rows_span_null_space.Goals as goal

pub returns : goal.returns
returns c K = fitting_rows_span_null_space (field_of K)

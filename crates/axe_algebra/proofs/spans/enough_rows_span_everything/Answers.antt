use Rattle.axe_algebra.specs.Bridge.{field_of}
use Rattle.axe_algebra.proofs.Exchange.{square_rows_span}
use Rattle.axe_algebra.proofs.spans.enough_rows_span_everything.Goals as goal

pub returns : goal.returns
returns c K = square_rows_span (field_of K)

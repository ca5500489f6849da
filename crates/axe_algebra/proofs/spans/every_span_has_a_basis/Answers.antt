use Rattle.axe_algebra.specs.Bridge.{field_of}
use Rattle.axe_algebra.proofs.Exchange.{basis_exists}
use Rattle.axe_algebra.proofs.spans.every_span_has_a_basis.Goals as goal

pub returns : goal.returns
returns c K = basis_exists (field_of K)

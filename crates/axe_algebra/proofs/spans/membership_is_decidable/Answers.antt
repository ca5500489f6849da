use Rattle.axe_algebra.specs.Bridge.{field_of}
use Rattle.axe_algebra.proofs.Exchange.{in_span_or_not}
use Rattle.axe_algebra.proofs.spans.membership_is_decidable.Goals as goal

pub returns : goal.returns
returns c K = in_span_or_not (field_of K)

use Rattle.axe_algebra.specs.Bridge.{field_of}
use Rattle.axe_algebra.proofs.Exchange.{exchange}
use Rattle.axe_algebra.proofs.spans.exchange.Goals as goal

pub returns : goal.returns
returns c K = exchange (field_of K)

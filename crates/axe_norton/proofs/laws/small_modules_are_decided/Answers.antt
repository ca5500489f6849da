use Rattle.axe_norton.proofs.OpenLaws.{small_is_decided}
use Rattle.axe_norton.proofs.laws.small_modules_are_decided.Goals as goal

pub returns : goal.returns
returns c = small_is_decided

use Rattle.axe_algebra.specs.Bridge.{field_of}
use Rattle.axe_algebra.proofs.NortonCriterion.{norton}
use Rattle.axe_algebra.proofs.norton.nortons_criterion.Goals as goal

pub returns : goal.returns
returns c K = norton (field_of K)

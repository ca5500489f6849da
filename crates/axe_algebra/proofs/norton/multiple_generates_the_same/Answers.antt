use Rattle.axe_algebra.specs.Bridge.{field_of}
use Rattle.axe_algebra.proofs.Generated.{multiple_generates}
use Rattle.axe_algebra.proofs.norton.multiple_generates_the_same.Goals as goal

pub returns : goal.returns
returns c K = multiple_generates (field_of K)

use Rattle.axe_algebra.specs.Bridge.{field_of}
use Rattle.axe_polynomial_algebra.proofs.ValueLaws.{value_by_horner}
use Rattle.axe_polynomial_algebra.proofs.values.value_by_horner.Goals as goal

pub returns : goal.returns
returns c K = value_by_horner (field_of K)

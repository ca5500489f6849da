use Rattle.axe_algebra.specs.Bridge.{field_of}
use Rattle.axe_algebra.proofs.ProductLaws.{identity_multiply, multiply_identity}
use Rattle.axe_algebra.proofs.products.identity_is_neutral.Goals as goal

pub returns-clause-left : goal.returns-clause-left
returns-clause-left c K = identity_multiply (field_of K)

pub returns-clause-right : goal.returns-clause-right
returns-clause-right c K = multiply_identity (field_of K)

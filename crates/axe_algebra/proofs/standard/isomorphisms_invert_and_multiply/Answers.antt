use Rattle.axe_algebra.specs.Bridge.{field_of}
use Rattle.axe_algebra.proofs.IsomorphismLaws.{inverse_is_isomorphism, product_is_isomorphism}
use Rattle.axe_algebra.proofs.standard.isomorphisms_invert_and_multiply.Goals as goal

pub returns-clause-inverse : goal.returns-clause-inverse
returns-clause-inverse c K = inverse_is_isomorphism (field_of K)

pub returns-clause-product : goal.returns-clause-product
returns-clause-product c K = product_is_isomorphism (field_of K)

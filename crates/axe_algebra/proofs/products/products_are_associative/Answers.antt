use Rattle.axe_algebra.specs.Bridge.{field_of}
use Rattle.axe_algebra.proofs.ProductLaws.{multiply_assoc}
use Rattle.axe_algebra.proofs.products.products_are_associative.Goals as goal

pub returns : goal.returns
returns c K = multiply_assoc (field_of K)

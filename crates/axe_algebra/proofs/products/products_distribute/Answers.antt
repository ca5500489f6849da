use Rattle.axe_algebra.specs.Bridge.{field_of}
use Rattle.axe_algebra.proofs.ProductLaws.{multiply-add_left, multiply-add_right}
use Rattle.axe_algebra.proofs.products.products_distribute.Goals as goal

pub returns-clause-left : goal.returns-clause-left
returns-clause-left c K = multiply-add_left (field_of K)

pub returns-clause-right : goal.returns-clause-right
returns-clause-right c K = multiply-add_right (field_of K)

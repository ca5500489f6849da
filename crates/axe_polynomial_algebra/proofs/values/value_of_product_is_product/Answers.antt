use Rattle.axe_algebra.specs.Bridge.{field_of}
use Rattle.axe_polynomial_algebra.proofs.ValueLaws.{value_of_product_is}
use Rattle.axe_polynomial_algebra.proofs.values.value_of_product_is_product.Goals as goal

pub returns : goal.returns
returns c K = value_of_product_is (field_of K)

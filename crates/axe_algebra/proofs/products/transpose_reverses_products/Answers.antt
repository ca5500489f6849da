use Rattle.axe_algebra.specs.Bridge.{field_of}
use Rattle.axe_algebra.proofs.ProductLaws.{transposed_multiply}
use Rattle.axe_algebra.proofs.products.transpose_reverses_products.Goals as goal

pub returns : goal.returns
returns c K = transposed_multiply (field_of K)

use Rattle.axe_algebra.proofs.ListProducts.{matrix_of_product}
use Rattle.axe_algebra.proofs.lists.product_of_lists_is_product.Goals as goal

pub returns : goal.returns
returns c = matrix_of_product

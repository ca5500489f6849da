use Rattle.axe_algebra.proofs.ListProducts.{matrix_of_sum}
use Rattle.axe_algebra.proofs.lists.sum_of_lists_is_sum.Goals as goal

pub returns : goal.returns
returns c = matrix_of_sum

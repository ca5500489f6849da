use Rattle.axe_algebra.proofs.ListProducts.{matrix_of_transpose}
use Rattle.axe_algebra.proofs.lists.transpose_of_list_is_transpose.Goals as goal

pub returns : goal.returns
returns c = matrix_of_transpose

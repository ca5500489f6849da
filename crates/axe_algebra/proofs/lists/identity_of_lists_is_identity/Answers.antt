use Rattle.axe_algebra.proofs.ListProducts.{matrix_of_identity}
use Rattle.axe_algebra.proofs.lists.identity_of_lists_is_identity.Goals as goal

pub returns : goal.returns
returns c = matrix_of_identity

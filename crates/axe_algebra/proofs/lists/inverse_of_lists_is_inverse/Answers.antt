use Rattle.axe_algebra.proofs.ListLaws.{inverse_exactly}
use Rattle.axe_algebra.proofs.lists.inverse_of_lists_is_inverse.Goals as goal

pub returns : goal.returns
returns c = inverse_exactly

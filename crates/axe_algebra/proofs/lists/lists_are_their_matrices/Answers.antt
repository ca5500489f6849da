use Rattle.axe_algebra.proofs.ListEntries.{same_matrix}
use Rattle.axe_algebra.proofs.lists.lists_are_their_matrices.Goals as goal

pub returns : goal.returns
returns c = same_matrix

use Rattle.axe_algebra.proofs.ListReduced.{reduced_basis_list, reduced_basis_list_is_unique}
use Rattle.axe_algebra.proofs.lists.list_has_one_reduced_basis.Goals as goal

pub returns-clause-some : goal.returns-clause-some
returns-clause-some c = reduced_basis_list

pub returns-clause-only : goal.returns-clause-only
returns-clause-only c = reduced_basis_list_is_unique

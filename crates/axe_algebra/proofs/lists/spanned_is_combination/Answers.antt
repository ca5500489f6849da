use Rattle.axe_algebra.proofs.ListSpans.{spanned_exactly}
use Rattle.axe_algebra.proofs.lists.spanned_is_combination.Goals as goal

pub returns : goal.returns
returns c = spanned_exactly

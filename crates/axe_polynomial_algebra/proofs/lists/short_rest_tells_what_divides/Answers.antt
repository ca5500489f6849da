use Rattle.axe_polynomial_algebra.proofs.MonicLists.{short_rest_tells}
use Rattle.axe_polynomial_algebra.proofs.lists.short_rest_tells_what_divides.Goals as goal

pub returns : goal.returns
returns c K = short_rest_tells K

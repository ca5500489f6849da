use Rattle.axe_norton.proofs.UniqueLaws.{poly_says_one}
use Rattle.axe_norton.proofs.laws.a_polynomial_says_one_thing.Goals as goal

pub returns : goal.returns
returns c = poly_says_one

use Rattle.axe_poly.proofs.PolyLaws.{greatest_fits, greatest_is_greatest}
use Rattle.axe_poly.proofs.limits.degrees_are_greatest.Goals as goal

pub returns-clause-fits : goal.returns-clause-fits
returns-clause-fits c = greatest_fits

pub returns-clause-greatest : goal.returns-clause-greatest
returns-clause-greatest c = greatest_is_greatest

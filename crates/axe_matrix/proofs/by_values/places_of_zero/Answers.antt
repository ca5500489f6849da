use Rattle.axe_matrix.proofs.ValueDigits.{no_digit}
use Rattle.axe_matrix.proofs.by_values.places_of_zero.Goals as goal

pub returns : goal.returns
returns c = λ i low. no_digit c.args.ones c.args.twos i low c.ranges.ones.fits c.ranges.twos.fits

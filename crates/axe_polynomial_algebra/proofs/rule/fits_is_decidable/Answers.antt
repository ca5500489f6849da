use Rattle.axe_polynomial_algebra.proofs.VectorFits.{fits_is_decidable, fits_exactly}
use Rattle.axe_polynomial_algebra.proofs.rule.fits_is_decidable.Goals as goal

pub returns-clause-decidable : goal.returns-clause-decidable
returns-clause-decidable c K = fits_is_decidable K

pub returns-clause-nullity : goal.returns-clause-nullity
returns-clause-nullity c K = fits_exactly K

use Rattle.axe_polynomial_algebra.proofs.TrialDivision.{trial_division_is_sound}
use Rattle.axe_polynomial_algebra.proofs.factors.trial_division_is_sound.Goals as goal

pub returns : goal.returns
returns c = trial_division_is_sound

use Rattle.axe_series.proofs.FewPoints.{small_has_a_series}
use Rattle.axe_series.proofs.laws.small_modules_have_a_series.Goals as goal

pub returns : goal.returns
returns c = small_has_a_series

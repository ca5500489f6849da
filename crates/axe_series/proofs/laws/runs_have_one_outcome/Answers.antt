use Rattle.axe_series.proofs.OneOutcome.{outcome_is_one}
use Rattle.axe_series.proofs.laws.runs_have_one_outcome.Goals as goal

pub returns : goal.returns
returns c = outcome_is_one

use Rattle.axe_series.proofs.RunLaws.{runs_are_true}
use Rattle.axe_series.proofs.laws.runs_find_what_is_true.Goals as goal

pub returns : goal.returns
returns c = runs_are_true

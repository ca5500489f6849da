use Rattle.axe_series.proofs.SomeRun.{some_run}
use Rattle.axe_series.proofs.laws.runs_have_an_outcome.Goals as goal

pub returns : goal.returns
returns c = some_run

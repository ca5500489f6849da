use Rattle.axe_execute.proofs.ChopLaws.{plan_of_series, open_section_of_problem}
use Rattle.axe_execute.proofs.HeldSeries.{series_left_by_plan}
use Rattle.axe_execute.proofs.laws.chop_writes_a_series.Goals as goal

pub returns-clause-files : goal.returns-clause-files
returns-clause-files c = series_left_by_plan

pub returns-clause-series : goal.returns-clause-series
returns-clause-series c = plan_of_series

pub returns-clause-open_section : goal.returns-clause-open_section
returns-clause-open_section c = open_section_of_problem

use Rattle.axe_chop.proofs.FormWitnesses.{chopped_has_witnesses}
use Rattle.axe_chop.proofs.SeriesReports.{series_has_report}
use Rattle.axe_chop.proofs.reported.series_have_reports.Goals as goal

pub returns-clause-reports : goal.returns-clause-reports
returns-clause-reports c = series_has_report

pub returns-clause-witnesses : goal.returns-clause-witnesses
returns-clause-witnesses c = λ m seed words chopped is answer. chopped_has_witnesses m is seed words chopped answer

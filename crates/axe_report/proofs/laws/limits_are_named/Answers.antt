use Rattle.std.proofs.Common.{rules}
use Rattle.axe_report.proofs.laws.limits_are_named.Goals as goal

pub returns-clause-report : goal.returns-clause-report
returns-clause-report c = search rules

pub returns-clause-dimension : goal.returns-clause-dimension
returns-clause-dimension c = search rules

pub returns-clause-generators : goal.returns-clause-generators
returns-clause-generators c = search rules

pub returns-clause-words : goal.returns-clause-words
returns-clause-words c = search rules

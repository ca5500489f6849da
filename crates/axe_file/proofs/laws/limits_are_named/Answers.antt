use Rattle.std.proofs.Common.{rules}
use Rattle.axe_file.proofs.laws.limits_are_named.Goals as goal

pub returns-clause-packed : goal.returns-clause-packed
returns-clause-packed c = search rules

pub returns-clause-text : goal.returns-clause-text
returns-clause-text c = search rules

pub returns-clause-line : goal.returns-clause-line
returns-clause-line c = search rules

pub returns-clause-module : goal.returns-clause-module
returns-clause-module c = search rules

pub returns-clause-generators : goal.returns-clause-generators
returns-clause-generators c = search rules

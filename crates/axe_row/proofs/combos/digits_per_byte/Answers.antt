use Rattle.std.proofs.Common.{rules}
use Rattle.axe_row.proofs.combos.digits_per_byte.Goals as goal

pub returns-in-2-clause-value : goal.returns-in-2-clause-value
returns-in-2-clause-value c = search rules

pub returns-in-2-clause-some : goal.returns-in-2-clause-some
returns-in-2-clause-some c = search rules

pub returns-in-3-clause-value : goal.returns-in-3-clause-value
returns-in-3-clause-value c = search rules

pub returns-in-3-clause-some : goal.returns-in-3-clause-some
returns-in-3-clause-some c = search rules

pub returns-in-4-clause-value : goal.returns-in-4-clause-value
returns-in-4-clause-value c = search rules

pub returns-in-4-clause-some : goal.returns-in-4-clause-some
returns-in-4-clause-some c = search rules

pub returns-in-5-clause-value : goal.returns-in-5-clause-value
returns-in-5-clause-value c = search rules

pub returns-in-5-clause-some : goal.returns-in-5-clause-some
returns-in-5-clause-some c = search rules

pub returns-in_default-clause-value : goal.returns-in_default-clause-value
returns-in_default-clause-value c = search rules

pub returns-in_default-clause-some : goal.returns-in_default-clause-some
returns-in_default-clause-some c = search rules

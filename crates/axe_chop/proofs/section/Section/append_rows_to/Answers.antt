use Rattle.std.proofs.Common.{rules}
use Rattle.axe_chop.proofs.section.Section.append_rows_to.Goals as goal

pub returns-clause-rows : goal.returns-clause-rows
returns-clause-rows c = search rules

use Rattle.std.proofs.Common.{rules}
use Rattle.axe_matrix.proofs.vectors.next_in_row.Goals as goal

pub returns-clause-next : goal.returns-clause-next
returns-clause-next c = search rules

pub returns-clause-word : goal.returns-clause-word
returns-clause-word c = search rules

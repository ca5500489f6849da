use Rattle.std.proofs.Common.{rules}
use Rattle.axe_reduction.proofs.augmented_row.AugmentedRow.cancel.Goals as goal

pub returns-clause-cancelled : goal.returns-clause-cancelled
returns-clause-cancelled c = search rules

use Rattle.std.proofs.Common.{rules}
use Rattle.axe_reduction.proofs.augmented_row.AugmentedRow.scale_at.Goals as goal

pub get-requires : goal.get-requires
get-requires c = search rules

pub inv-scalar-requires-clause-nonzero : goal.inv-scalar-requires-clause-nonzero
inv-scalar-requires-clause-nonzero c = search rules

pub returns-clause-scaled : goal.returns-clause-scaled
returns-clause-scaled c = search rules

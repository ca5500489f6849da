use Rattle.std.proofs.Common.{rules}
use Rattle.axe_plan.proofs.draft.Draft.of_generators.Goals as goal

pub returns : goal.returns
returns c = search rules

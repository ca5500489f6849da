use Rattle.std.proofs.Common.{arith}
use Rattle.std.proofs.lemmas.Grind.{common_steps}
use Rattle.axe_plan.proofs.draft.Draft.remove.Goals as goal

pub returns-clause-removed : goal.returns-clause-removed
returns-clause-removed c = grind (arith, common_steps)

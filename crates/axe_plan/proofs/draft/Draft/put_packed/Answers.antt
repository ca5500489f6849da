use Rattle.std.proofs.Common.{rules}
use Rattle.axe_plan.proofs.draft.Draft.put_packed.Goals as goal

pub returns-clause-put : goal.returns-clause-put
returns-clause-put c = search rules

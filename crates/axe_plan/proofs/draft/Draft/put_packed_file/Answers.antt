use Rattle.std.proofs.Common.{rules}
use Rattle.axe_plan.proofs.draft.Draft.put_packed_file.Goals as goal

pub returns-in-Ok-clause-put : goal.returns-in-Ok-clause-put
returns-in-Ok-clause-put c = search rules

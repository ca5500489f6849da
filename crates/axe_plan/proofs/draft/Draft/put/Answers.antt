use Rattle.axe_plan.proofs.Steps.{change_added}
use Rattle.axe_plan.proofs.draft.Draft.put.Goals as goal

pub returns-clause-put : goal.returns-clause-put
returns-clause-put c = change_added c.args.self.now.changes.items _ _ c.args.self.now.text.items c.in_ok-push.ensures.items

use Rattle.std.proofs.Common.{◌∙◌}
use Rattle.axe_plan.specs.Plans.{Put}
use Rattle.axe_plan.specs.Drafts.{plan_in, with_step}
use Rattle.axe_execute.proofs.chopping.put_report.Goals as goal

pub returns-clause-put : goal.returns-clause-put
returns-clause-put c =
    c.in_ok-put.ensures.put ∙ (λ i. with_step (plan_in c.args.draft.now) (Put (c.in_ok-file.ensures i) (c.in_ok-copy.ensures.items i)))

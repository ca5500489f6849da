use Rattle.std.proofs.Common.{◌∙◌, ap}
use Rattle.axe_plan.specs.Plans.{Remove}
use Rattle.axe_plan.specs.Drafts.{plan_in, with_step}
use Rattle.axe_execute.proofs.chopping.remove_report.Goals as goal

pub returns-clause-removed : goal.returns-clause-removed
returns-clause-removed c =
    c.in_ok-remove.ensures.removed ∙ ap (λ name. with_step (plan_in c.args.draft.now) (Remove name)) c.in_ok-report.ensures

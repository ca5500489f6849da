use Rattle.std.proofs.Common.{◌∙◌, ap}
use Rattle.axe_file.specs.Packed.{packed}
use Rattle.axe_plan.specs.Plans.{Put}
use Rattle.axe_plan.specs.Drafts.{plan_in, with_step}
use Rattle.axe_execute.proofs.chopping.put_basis.Goals as goal

pub returns-clause-put : goal.returns-clause-put
returns-clause-put c =
    c.in_ok-put_packed_file.ensures.put
    ∙ ap (λ name. with_step (plan_in c.args.draft.now) (Put name (packed c.args.basis.now))) c.in_ok-file.ensures

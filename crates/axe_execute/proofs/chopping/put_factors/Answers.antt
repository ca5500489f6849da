use Rattle.std.proofs.Common.{◌∙◌, ◌++◌, ap}
use Rattle.axe_plan.specs.Drafts.{plan_in, with_steps}
use Rattle.axe_execute.proofs.ChopDrafts.{put_entries, one_factor_put, all_factors_put}
use Rattle.axe_execute.proofs.chopping.put_factors.Goals as goal

pub loop-constituent-init : goal.loop-constituent-init
loop-constituent-init c =
    ap (λ entries. with_steps (plan_in c.args.draft.now) (put_entries c.args.files.now c.args.name.now entries))
    (c.into_iter-constituent-iterator.ensures.into_iter_gives ∙ c.iter-constituent-items.ensures.rest)

pub loop-constituent-preserved : goal.loop-constituent-preserved
loop-constituent-preserved c =
    one_factor_put c.args.files.now _ _ _ c.args.name.now _ _ _ _ _ c.loop-constituent.invariant c.in-Some.ensures.steps
    (c.deref-in-loop-constituent.ensures ∙ c.in_ok-stem.ensures ∙ ap (λ constituent. c.args.name.now ++ constituent) c.deref.ensures)
    c.matrices.ensures.value c.in_ok-put_module.ensures.put

pub returns-clause-put : goal.returns-clause-put
returns-clause-put c =
    all_factors_put c.args.files.now _ _ c.args.name.now _ c.loop-constituent.invariant c.in-None.ensures.steps.0

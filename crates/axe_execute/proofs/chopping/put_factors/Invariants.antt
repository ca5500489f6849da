use Rattle.std.proofs.Common.{◌≡◌}
use Rattle.axe_plan.specs.Drafts.{plan_in, with_steps}
use Rattle.axe_execute.proofs.ChopDrafts.{put_entries}
use Rattle.axe_execute.proofs.chopping.put_factors.Given as goal

abbrev pub invariant-loop-constituent : goal.invariant-loop-constituent
invariant-loop-constituent l =
    with_steps (plan_in l.draft) (put_entries l.files l.name l.constituent-iterator) ≡ with_steps (plan_in l.fn.draft) (put_entries l.files l.name l.factors.entries)

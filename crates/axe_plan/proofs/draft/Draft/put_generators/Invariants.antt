use Rattle.std.proofs.Common.{◌≡◌}
use Rattle.axe_algebra.specs.Lists.{listed}
use Rattle.axe_plan.specs.Outputs.{put_generator}
use Rattle.axe_plan.specs.Drafts.{plan_in, with_steps}
use Rattle.axe_plan.proofs.draft.Draft.put_generators.Given as goal

abbrev pub invariant-loop-index : goal.invariant-loop-index
invariant-loop-index l = plan_in l.self ≡ with_steps (plan_in l.fn.self) (listed l.index (put_generator l.name l.module))

use Rattle.std.proofs.Common.{rules, ap, sym, ◌∙◌, append_assoc, ◌++◌, [], ◌∷◌}
use Rattle.std.specs.Vec.Iter.{into_iter_items}
use Rattle.axe_plan.specs.Drafts.{step_in}
use Rattle.axe_plan.specs.Plans.{step_applied}
use Rattle.axe_plan.proofs.Steps.{applied_more}
use Rattle.axe_plan.proofs.draft.make_all.Goals as goal

pub loop-change-preserved : goal.loop-change-preserved
loop-change-preserved g c = record {
  items = append_assoc c.loop-change.yielded (c.in-Some.change ∷ []) (into_iter_items c.next.new.self) ∙ ap (λ rest. c.loop-change.yielded ++ rest) (sym c.in-Some.ensures.steps.0) ∙ c.loop-change.invariant.items;
  made = λ tells. c.in_ok-make.ensures.made tells ∙ ap (step_applied (step_in c.in-Some.change)) (c.loop-change.invariant.made tells) ∙ sym (applied_more c.loop-change.yielded c.in-Some.change _);
  counted = λ tells. c.in_ok-make.ensures.counted tells ∙ c.loop-change.invariant.counted tells;
}

pub loop-change-init : goal.loop-change-init
loop-change-init g c = search rules

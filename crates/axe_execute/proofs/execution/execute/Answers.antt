use Rattle.std.proofs.Common.{Err, refl, subst, ap, ◌∙◌, map}
use Rattle.std.specs.Prelude.{⊤}
use Rattle.std.proofs.lemmas.Result.{err_from_is_err_and}
use Rattle.axe_folder.specs.Files.{Files}
use Rattle.axe_fault.specs.Causes.{cause_of}
use Rattle.axe_plan.specs.Drafts.{plan_in, step_in}
use Rattle.axe_plan.specs.Plans.{applied}
use Rattle.axe_plan.specs.Outcome.{Carries, CountsCause}
use Rattle.axe_execute.proofs.Executing.{stopped, broken, counts_as}
use Rattle.axe_execute.proofs.execution.execute.Goals as goal

pub returns-in_err-changes-clause-outcome : goal.returns-in_err-changes-clause-outcome
returns-in_err-changes-clause-outcome g c = λ tells.
    let p = err_from_is_err_and c.from_residual.result c.from_residual.ensures.1 in
    let reads = c.in_err-changes.ensures tells in
    rw (p.1, p.2) (reads.0, reads.1, stopped _ _ _ _ _ reads.2.agrees reads.2.kept)

pub returns-in_err-changes-clause-counted : goal.returns-in_err-changes-clause-counted
returns-in_err-changes-clause-counted g c = λ tells.
    let p = err_from_is_err_and c.from_residual.result c.from_residual.ensures.1 in
    let reads = c.in_err-changes.ensures tells in
    rw (p.1, p.2) (counts_as ⊤ _ (cause_of c.in_err-changes.field-0.0) _ _ (λ any. reads.2.kept) reads.2.counted)

pub returns-in_err-make_all-clause-outcome : goal.returns-in_err-make_all-clause-outcome
returns-in_err-make_all-clause-outcome g c = λ tells.
    let p = err_from_is_err_and c.from_residual-in_err-make_all.result c.from_residual-in_err-make_all.ensures.1 in
    let reads = c.in_ok-changes.ensures tells in
    rw (p.1, p.2) (
      reads.0,
      reads.1,
      broken _ _ _ (plan_in c.in_ok-changes.field-0) _ _ reads.2.agrees
          (subst (λ (files : Files). Carries (Err c.in_err-make_all.field-0.0) (map step_in c.in_ok-changes.field-0.changes.items) files
          (g.F.Folder.files c.make_all.new.folder)) reads.2.kept (c.in_err-make_all.ensures.carried tells)),
    )

pub returns-in_err-make_all-clause-counted : goal.returns-in_err-make_all-clause-counted
returns-in_err-make_all-clause-counted g c = λ tells.
    let p = err_from_is_err_and c.from_residual-in_err-make_all.result c.from_residual-in_err-make_all.ensures.1 in
    rw (p.1, p.2) (counts_as ⊥ _ (cause_of c.in_err-make_all.field-0.0) _ _ (λ never. absurd never)
    (subst (λ tally. CountsCause ⊥ (cause_of c.in_err-make_all.field-0.0) tally (g.F.Folder.tally c.make_all.new.folder)) (c.in_ok-changes.ensures tells).2.counted (c.in_err-make_all.ensures.counted tells)))

pub returns-clause-outcome : goal.returns-clause-outcome
returns-clause-outcome g c = λ tells.
    let reads = c.in_ok-changes.ensures tells in
    (reads.0, reads.1, (plan_in c.in_ok-changes.field-0, reads.2.agrees, (refl, c.in_ok-make_all.ensures.carried tells ∙ ap (applied (map step_in c.in_ok-changes.field-0.changes.items)) reads.2.kept)))

pub returns-clause-counted : goal.returns-clause-counted
returns-clause-counted g c = λ tells. c.in_ok-make_all.ensures.counted tells ∙ (c.in_ok-changes.ensures tells).2.counted

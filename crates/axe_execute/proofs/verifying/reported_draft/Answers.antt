use Rattle.std.proofs.Common.{◌∙◌, ap}
use Rattle.std.proofs.lemmas.Result.{err_from_is_err_and}
use Rattle.axe_spin.specs.Modules.{ModuleValue}
use Rattle.axe_plan.proofs.Sequences.{among_same, among_before}
use Rattle.axe_plan.proofs.ReadCalls.{reads_no_more, reads_on, reads_all, then_computes, fault_computes}
use Rattle.axe_execute.specs.VerifyCommand.{ReportedPlan}
use Rattle.axe_execute.proofs.verifying.reported_draft.Goals as goal

pub returns-in_err-generators : goal.returns-in_err-generators
unfolding ReportedPlan
returns-in_err-generators g c = λ tells.
    let p = err_from_is_err_and c.from_residual-in_err-generators.result c.from_residual-in_err-generators.ensures.1 in
    rw (p.1, p.2) (reads_no_more g.F.Folder.files g.F.Folder.tally _ _ _ _ _ _ _ _ _ (among_before _ _) (c.in_err-generators.ensures.reads tells))

pub returns-in_err-basis-2 : goal.returns-in_err-basis-2
unfolding ReportedPlan
returns-in_err-basis-2 g c = λ tells.
    let p = err_from_is_err_and c.from_residual-in_err-basis-2.result c.from_residual-in_err-basis-2.ensures.1 in
    let read = c.in_err-basis-2.ensures.reads tells in
    rw (p.1, p.2) (reads_on g.F.Folder.files g.F.Folder.tally _ _ _ _ _ _ _ _ _ _ _ (c.in_ok-generators.ensures.reads tells)
    (reads_no_more g.F.Folder.files g.F.Folder.tally _ _ _ _ _ _ _ _ _ (among_before _ _) (rw (c.deref.ensures ∙ c.in_ok-basis.ensures) at read)))

pub returns-in_err-factors : goal.returns-in_err-factors
unfolding ReportedPlan
returns-in_err-factors g c = λ tells.
    let p = err_from_is_err_and c.from_residual-in_err-factors.result c.from_residual-in_err-factors.ensures.1 in
    let read = c.in_ok-basis-2.ensures.reads tells in
    let factors = c.in_err-factors.ensures.reads tells in
    rw (p.1, p.2) (reads_on g.F.Folder.files g.F.Folder.tally _ _ _ _ _ _ _ _ _ _ _ (c.in_ok-generators.ensures.reads tells)
    (reads_on g.F.Folder.files g.F.Folder.tally _ _ _ _ _ _ _ _ _ _ _ (rw (c.deref.ensures ∙ c.in_ok-basis.ensures) at read)
    (reads_no_more g.F.Folder.files g.F.Folder.tally _ _ _ _ _ _ _ _ _ (among_same _) (rw c.factors.ensures.value at factors))))

pub returns-in_err-module : goal.returns-in_err-module
unfolding ReportedPlan
returns-in_err-module g c = λ tells.
    let p = err_from_is_err_and c.from_residual-in_err-module.result c.from_residual-in_err-module.ensures.1 in
    let read = c.in_ok-basis-2.ensures.reads tells in
    let factors = c.in_ok-factors.ensures.reads tells in
    rw (p.1, p.2) (reads_on g.F.Folder.files g.F.Folder.tally _ _ _ _ _ _ _ _ _ _ _ (c.in_ok-generators.ensures.reads tells)
    (reads_on g.F.Folder.files g.F.Folder.tally _ _ _ _ _ _ _ _ _ _ _ (rw (c.deref.ensures ∙ c.in_ok-basis.ensures) at read)
    (reads_all g.F.Folder.files g.F.Folder.tally _ _ _ _ _ _ _ _ _ (rw c.factors.ensures.value at factors)
    (fault_computes (λ (m : ModuleValue). m) _ _ _ _ (record { agrees = c.in_err-module.ensures.made })))))

pub returns : goal.returns
unfolding ReportedPlan
returns g c = λ tells.
    let read = c.in_ok-basis-2.ensures.reads tells in
    let factors = c.in_ok-factors.ensures.reads tells in
    let verified = c.verified_draft.ensures in
    reads_on g.F.Folder.files g.F.Folder.tally _ _ _ _ _ _ _ _ _ _ _ (c.in_ok-generators.ensures.reads tells)
    (reads_on g.F.Folder.files g.F.Folder.tally _ _ _ _ _ _ _ _ _ _ _ (rw (c.deref.ensures ∙ c.in_ok-basis.ensures) at read)
    (reads_all g.F.Folder.files g.F.Folder.tally _ _ _ _ _ _ _ _ _ (rw c.factors.ensures.value at factors)
    (then_computes (λ (m : ModuleValue). m) _ c.in_ok-module.module _ _ _ c.in_ok-module.ensures.made (record { agrees = rw c.deref-2.ensures.value at verified }))))

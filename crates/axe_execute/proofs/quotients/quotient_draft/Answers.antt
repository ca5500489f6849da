use Rattle.std.proofs.lemmas.Result.{err_from_is_err_and}
use Rattle.axe_spin.specs.Modules.{ModuleValue}
use Rattle.axe_execute.specs.ModuleCommands.{QuotientPlan}
use Rattle.axe_plan.proofs.Sequences.{among_same, among_before}
use Rattle.axe_plan.proofs.ReadCalls.{reads_no_more, reads_on, reads_all, then_computes, fault_computes}
use Rattle.axe_execute.proofs.quotients.quotient_draft.Goals as goal

pub returns-in_err-rows : goal.returns-in_err-rows
unfolding QuotientPlan
returns-in_err-rows g c = λ tells.
    let p = err_from_is_err_and c.from_residual.result c.from_residual.ensures.1 in
    rw (p.1, p.2) (reads_no_more g.F.Folder.files g.F.Folder.tally _ _ _ _ _ _ _ _ _ (among_before _ _) (c.in_err-rows.ensures.reads tells))

pub returns-in_err-matrices : goal.returns-in_err-matrices
unfolding QuotientPlan
returns-in_err-matrices g c = λ tells.
    let p = err_from_is_err_and c.from_residual-in_err-matrices.result c.from_residual-in_err-matrices.ensures.1 in
    rw (p.1, p.2) (reads_on g.F.Folder.files g.F.Folder.tally _ _ _ _ _ _ _ _ _ _ _ (c.in_ok-rows.ensures.reads tells)
    (reads_no_more g.F.Folder.files g.F.Folder.tally _ _ _ _ _ _ _ _ _ (among_same _) (c.in_err-matrices.ensures.reads tells)))

pub returns-in_err-module : goal.returns-in_err-module
unfolding QuotientPlan
returns-in_err-module g c = λ tells.
    let p = err_from_is_err_and c.from_residual-in_err-module.result c.from_residual-in_err-module.ensures.1 in
    rw (p.1, p.2) (reads_on g.F.Folder.files g.F.Folder.tally _ _ _ _ _ _ _ _ _ _ _ (c.in_ok-rows.ensures.reads tells)
    (reads_all g.F.Folder.files g.F.Folder.tally _ _ _ _ _ _ _ _ _ (c.in_ok-matrices.ensures.reads tells)
    (fault_computes (λ (m : ModuleValue). m) _ _ _ _ (record { agrees = c.in_err-module.ensures.made }))))

pub returns-in_err-quotient : goal.returns-in_err-quotient
unfolding QuotientPlan
returns-in_err-quotient g c = λ tells.
    let p = err_from_is_err_and c.from_residual-in_err-quotient.result c.from_residual-in_err-quotient.ensures.1 in
    rw (p.1, p.2) (reads_on g.F.Folder.files g.F.Folder.tally _ _ _ _ _ _ _ _ _ _ _ (c.in_ok-rows.ensures.reads tells)
    (reads_all g.F.Folder.files g.F.Folder.tally _ _ _ _ _ _ _ _ _ (c.in_ok-matrices.ensures.reads tells)
    (then_computes (λ (m : ModuleValue). m) _ c.in_ok-module.module _ _ _ c.in_ok-module.ensures.made
    (fault_computes (λ (m : ModuleValue). m) _ _ _ _ (record { agrees = c.in_err-quotient.ensures })))))

pub returns : goal.returns
unfolding QuotientPlan
returns g c = λ tells.
    reads_on g.F.Folder.files g.F.Folder.tally _ _ _ _ _ _ _ _ _ _ _ (c.in_ok-rows.ensures.reads tells)
    (reads_all g.F.Folder.files g.F.Folder.tally _ _ _ _ _ _ _ _ _ (c.in_ok-matrices.ensures.reads tells)
    (then_computes (λ (m : ModuleValue). m) _ c.in_ok-module.module _ _ _ c.in_ok-module.ensures.made
    (then_computes (λ (m : ModuleValue). m) _ c.in_ok-quotient.quotient _ _ _ c.in_ok-quotient.ensures (record { agrees = c.of_generators.ensures }))))

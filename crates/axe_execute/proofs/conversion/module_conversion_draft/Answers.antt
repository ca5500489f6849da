use Rattle.std.proofs.lemmas.Result.{err_from_is_err_and}
use Rattle.axe_spin.specs.Modules.{ModuleValue}
use Rattle.axe_execute.specs.ModuleCommands.{ModuleConversionPlan}
use Rattle.axe_plan.proofs.Sequences.{among_same}
use Rattle.axe_plan.proofs.ReadCalls.{reads_no_more, reads_all, then_computes, fault_computes}
use Rattle.axe_execute.proofs.conversion.module_conversion_draft.Goals as goal

pub returns-in_err-matrices : goal.returns-in_err-matrices
unfolding ModuleConversionPlan
returns-in_err-matrices g c = λ tells.
    let p = err_from_is_err_and c.from_residual.result c.from_residual.ensures.1 in
    rw (p.1, p.2) (reads_no_more g.F.Folder.files g.F.Folder.tally _ _ _ _ _ _ _ _ _ (among_same _) (c.in_err-matrices.ensures.reads tells))

pub returns-in_err-module : goal.returns-in_err-module
unfolding ModuleConversionPlan
returns-in_err-module g c = λ tells.
    let p = err_from_is_err_and c.from_residual-in_err-module.result c.from_residual-in_err-module.ensures.1 in
    rw (p.1, p.2) (reads_all g.F.Folder.files g.F.Folder.tally _ _ _ _ _ _ _ _ _ (c.in_ok-matrices.ensures.reads tells)
    (fault_computes (λ (m : ModuleValue). m) _ _ _ _ (record { agrees = c.in_err-module.ensures.made })))

pub returns : goal.returns
unfolding ModuleConversionPlan
returns g c = λ tells.
    reads_all g.F.Folder.files g.F.Folder.tally _ _ _ _ _ _ _ _ _ (c.in_ok-matrices.ensures.reads tells)
    (then_computes (λ (m : ModuleValue). m) _ c.in_ok-module.module _ _ _ c.in_ok-module.ensures.made (record { agrees = c.of_module.ensures }))

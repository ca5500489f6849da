use Rattle.std.proofs.lemmas.Result.{err_from_is_err_and}
use Rattle.axe_matrix.specs.Matrices.{MatrixValue}
use Rattle.axe_execute.specs.MatrixCommands.{PlanOfOne}
use Rattle.axe_plan.proofs.Sequences.{among_same}
use Rattle.axe_plan.proofs.ReadCalls.{reads_no_more, reads_all, then_computes, fault_computes}
use Rattle.axe_execute.proofs.planning.draft_of_one.Goals as goal

pub returns-in_err-matrix : goal.returns-in_err-matrix
unfolding PlanOfOne
returns-in_err-matrix g c = λ tells.
    let p = err_from_is_err_and c.from_residual.result c.from_residual.ensures.1 in
    rw (p.1, p.2) (reads_no_more g.F.Folder.files g.F.Folder.tally _ _ _ _ _ _ _ _ _ (among_same _) (c.in_err-matrix.ensures.reads tells))

pub returns-in_err-made : goal.returns-in_err-made
unfolding PlanOfOne
returns-in_err-made g c = λ tells.
    let p = err_from_is_err_and c.from_residual-in_err-made.result c.from_residual-in_err-made.ensures.1 in
    rw (p.1, p.2) (reads_all g.F.Folder.files g.F.Folder.tally _ _ _ _ _ _ _ _ _ (c.in_ok-matrix.ensures.reads tells)
    (fault_computes (λ (m : MatrixValue). m) _ _ _ _ (record { agrees = c.in_err-made.ensures })))

pub returns : goal.returns
unfolding PlanOfOne
returns g c = λ tells.
    reads_all g.F.Folder.files g.F.Folder.tally _ _ _ _ _ _ _ _ _ (c.in_ok-matrix.ensures.reads tells)
    (then_computes (λ (m : MatrixValue). m) _ c.in_ok-made.made _ _ _ c.in_ok-made.ensures (record { agrees = c.of_packed.ensures }))

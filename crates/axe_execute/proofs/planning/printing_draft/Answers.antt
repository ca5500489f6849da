use Rattle.std.proofs.lemmas.Result.{err_from_is_err_and}
use Rattle.axe_plan.specs.Drafts.{plan_in}
use Rattle.axe_execute.proofs.MatrixDrafts.{printing_refused, printing_made}
use Rattle.axe_execute.proofs.planning.printing_draft.Goals as goal

pub returns-in_err-matrix : goal.returns-in_err-matrix
returns-in_err-matrix g c = λ tells.
    let p = err_from_is_err_and c.from_residual.result c.from_residual.ensures.1 in
    rw (p.1, p.2) (printing_refused g.F.Folder.files g.F.Folder.tally plan_in _ _ c.args.input.now _ _
    (c.in_err-matrix.ensures.reads tells))

pub returns : goal.returns
returns g c = λ tells.
    printing_made g.F.Folder.files g.F.Folder.tally plan_in _ _ c.args.input.now _ _ _ (c.in_ok-matrix.ensures.reads tells)
    c.of_text.ensures

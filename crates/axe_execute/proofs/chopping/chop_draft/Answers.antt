use Rattle.std.proofs.lemmas.Result.{err_from_is_err_and}
use Rattle.axe_plan.proofs.Sequences.{among_same}
use Rattle.axe_plan.proofs.ReadCalls.{reads_no_more, reads_all}
use Rattle.axe_execute.specs.ChopCommand.{ChopPlan}
use Rattle.axe_execute.proofs.chopping.chop_draft.Goals as goal

pub returns-in_err-module : goal.returns-in_err-module
unfolding ChopPlan
returns-in_err-module g c = λ tells.
    let p = err_from_is_err_and c.from_residual.result c.from_residual.ensures.1 in
    rw (p.1, p.2) (reads_no_more g.F.Folder.files g.F.Folder.tally _ _ _ _ _ _ _ _ _ (among_same _) (c.in_err-module.ensures.reads tells))

pub returns : goal.returns
unfolding ChopPlan
returns g c = λ tells.
    let right = c.found_draft.ensures in
    reads_all g.F.Folder.files g.F.Folder.tally _ _ _ _ _ _ _ _ _ (c.in_ok-module.ensures.reads tells)
    (record { agrees = rw c.get.ensures.number at right })

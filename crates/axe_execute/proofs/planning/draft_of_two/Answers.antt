use Rattle.std.proofs.lemmas.Result.{err_from_is_err_and}
use Rattle.axe_plan.specs.Drafts.{plan_in}
use Rattle.axe_execute.specs.Operations.{MadeOfTwo}
use Rattle.axe_execute.proofs.MatrixDrafts.{left_refused, right_refused, two_refused, two_made}
use Rattle.axe_execute.proofs.planning.draft_of_two.Goals as goal

pub returns-in_err-left : goal.returns-in_err-left
returns-in_err-left g c = λ tells.
    let p = err_from_is_err_and c.from_residual.result c.from_residual.ensures.1 in
    rw (p.1, p.2) (left_refused g.F.Folder.files g.F.Folder.tally plan_in (MadeOfTwo c.args.operation) c.args.left.now c.args.right.now c.args.out.now _ _ _
    (c.in_err-left.ensures.reads tells))

pub returns-in_err-right : goal.returns-in_err-right
returns-in_err-right g c = λ tells.
    let p = err_from_is_err_and c.from_residual-in_err-right.result c.from_residual-in_err-right.ensures.1 in
    rw (p.1, p.2) (right_refused g.F.Folder.files g.F.Folder.tally plan_in (MadeOfTwo c.args.operation) c.args.left.now c.args.right.now c.args.out.now _ _ _ _ _
    (c.in_ok-left.ensures.reads tells) (c.in_err-right.ensures.reads tells))

pub returns-in_err-made : goal.returns-in_err-made
returns-in_err-made g c = λ tells.
    let p = err_from_is_err_and c.from_residual-in_err-made.result c.from_residual-in_err-made.ensures.1 in
    rw (p.1, p.2) (two_refused g.F.Folder.files g.F.Folder.tally plan_in (MadeOfTwo c.args.operation) c.args.left.now c.args.right.now c.args.out.now _ _ _ _ _ _
    (c.in_ok-left.ensures.reads tells) (c.in_ok-right.ensures.reads tells) c.in_err-made.ensures)

pub returns : goal.returns
returns g c = λ tells.
    two_made g.F.Folder.files g.F.Folder.tally plan_in (MadeOfTwo c.args.operation) c.args.left.now c.args.right.now c.args.out.now _ _ _ _ _ c.in_ok-made.made _
    (c.in_ok-left.ensures.reads tells) (c.in_ok-right.ensures.reads tells) c.in_ok-made.ensures c.of_packed.ensures

use Rattle.std.proofs.Common.{◌∙◌, ap, ◌+◌, ◌<◌, arith, Vec, Global}
use Rattle.std.proofs.lemmas.Result.{err_from_is_err_and}
use Rattle.axe_matrix.specs.declared.Matrix.{Matrix}
use Rattle.axe_plan.specs.Inputs.{numbered}
use Rattle.axe_plan.proofs.NumberedFiles.{read_next, fault_of_next, length_of_more}
use Rattle.axe_plan.proofs.ReadCalls.{reads_after}
use Rattle.axe_plan.proofs.modules.read_numbered.Goals as goal

pub returns-in_err-matrix-clause-reads : goal.returns-in_err-matrix-clause-reads
returns-in_err-matrix-clause-reads g c = λ tells.
    let p = err_from_is_err_and c.from_residual-in_err-matrix.result c.from_residual-in_err-matrix.ensures.1 in
    let below : c.loop-index.index < c.args.count = omega (arith, c.loop-index-test.true, c.from-index-end.ensures, c.get.ensures.number) in
    rw (p.1, p.2) (reads_after g.F.Folder.files g.F.Folder.tally _ _ _ _ _ _ (λ (matrices : Vec Matrix Global). matrices.items) _ _ _
    (c.loop-index.invariant.kept tells) (c.loop-index.invariant.counted tells)
    (fault_of_next {U = Vec Matrix Global} c.args.spelling _ _ c.loop-index.matrices.items c.args.name.now _ c.loop-index.index c.args.count
    (λ matrices. matrices.items) _ below (c.loop-index.invariant.kept tells)
    (c.deref.ensures ∙ c.in_ok-file.ensures) (c.loop-index.invariant.read tells) (c.in_err-matrix.ensures.reads tells).agrees)
    (c.in_err-matrix.ensures.reads tells))

pub loop-index-preserved : goal.loop-index-preserved
loop-index-preserved g c =
    let below : c.loop-index.index < c.args.count = omega (arith, c.loop-index-test.true, c.from-index-end.ensures, c.get.ensures.number) in
    record {
      read = λ tells. read_next c.args.spelling _ _ c.loop-index.matrices.items _ c.args.name.now _ c.loop-index.index c.args.count c.in_ok-matrix.matrix below
          (c.loop-index.invariant.kept tells) (c.deref.ensures ∙ c.in_ok-file.ensures) (c.loop-index.invariant.read tells)
          (c.in_ok-matrix.ensures.reads tells).agrees c.in_ok-push.ensures.items;
      kept = λ tells. (c.in_ok-matrix.ensures.reads tells).kept ∙ c.loop-index.invariant.kept tells;
      counted = λ tells. (c.in_ok-matrix.ensures.reads tells).counted ∙ c.loop-index.invariant.counted tells;
      many = length_of_more c.loop-index.matrices.items _ c.in_ok-matrix.matrix c.loop-index.index c.in_ok-push.ensures.items c.loop-index.invariant.many;
    }

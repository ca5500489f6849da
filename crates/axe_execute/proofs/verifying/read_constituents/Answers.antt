use Rattle.std.proofs.Common.{◌≡◌, ◌∙◌, ap, sym, ◌+◌, ◌<◌, length, Vec, Global, arith}
use Rattle.std.proofs.lemmas.Result.{err_from_is_err_and}
use Rattle.axe_matrix.specs.declared.Matrix.{Matrix}
use Rattle.axe_check.specs.Certificates.{lists_of}
use Rattle.axe_plan.proofs.ReadCalls.{reads_after}
use Rattle.axe_execute.specs.SeriesFiles.{factor_name}
use Rattle.axe_execute.proofs.VerifyReadings.{next_read, constituent_fault}
use Rattle.axe_execute.proofs.verifying.read_constituents.Goals as goal

pub returns-in_err-list-clause-reads : goal.returns-in_err-list-clause-reads
returns-in_err-list-clause-reads g c = λ tells.
    let p = err_from_is_err_and c.from_residual-in_err-list.result c.from_residual-in_err-list.ensures.1 in
    rw (p.1, p.2) (reads_after g.F.Folder.files g.F.Folder.tally _ _ _ _ _ _ (λ (lists : Vec (Vec Matrix Global) Global). lists_of lists.items) _ _ _
    (c.loop-factor.invariant.kept tells) (c.loop-factor.invariant.counted tells)
    (constituent_fault {U = Vec (Vec Matrix Global) Global} c.args.files.now _ _ (lists_of c.loop-factor.lists.items) c.args.name.now _ c.args.factors.now c.loop-factor.factor-index c.factor-item.result
    (λ lists. lists_of lists.items) _ (omega (arith, c.loop-factor-test.true)) c.factor-item.is (c.loop-factor.invariant.kept tells)
    (c.deref.ensures ∙ c.in_ok-stem.ensures ∙ ap (λ text. factor_name c.args.name.now text) c.name.ensures) (c.loop-factor.invariant.read tells) (c.in_err-list.ensures.reads tells).agrees)
    (c.in_err-list.ensures.reads tells))

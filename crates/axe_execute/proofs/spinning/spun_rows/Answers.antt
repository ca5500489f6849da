use Rattle.std.proofs.Common.{true, false}
use Rattle.axe_spin.proofs.SubmoduleLaws.{spun_is_submodule}
use Rattle.std.proofs.lemmas.Result.{err_from_is_err_and}
use Rattle.axe_matrix.specs.Matrices.{IsMatrix}
use Rattle.axe_spin.specs.Spinning.{seed_refusal, HasSpunRows}
use Rattle.axe_execute.specs.ModuleCommands.{RowsOf}
use Rattle.axe_plan.proofs.Refused.{answered_value, refused_fault}
use Rattle.axe_execute.proofs.spinning.spun_rows.Goals as goal

pub returns-in_err-standard_rows-clause-rows : goal.returns-in_err-standard_rows-clause-rows
unfolding RowsOf
returns-in_err-standard_rows-clause-rows c =
    let p = err_from_is_err_and c.from_residual.result c.from_residual.ensures.1 in
    rw (p.1, p.2) (refused_fault _ (λ rows. HasSpunRows c.args.standard c.args.module.now c.args.seed.now rows × IsMatrix rows)
    (seed_refusal c.args.module.now c.args.seed.now) c.in_err-standard_rows.field-0.0 c.in_err-standard_rows.ensures.basis)

pub returns-in_err-generate-clause-rows : goal.returns-in_err-generate-clause-rows
unfolding RowsOf
returns-in_err-generate-clause-rows c =
    let p = err_from_is_err_and c.from_residual-in_err-generate.result c.from_residual-in_err-generate.ensures.1 in
    rw (p.1, p.2) (refused_fault _ (λ rows. HasSpunRows c.args.standard c.args.module.now c.args.seed.now rows × IsMatrix rows)
    (seed_refusal c.args.module.now c.args.seed.now) c.in_err-generate.field-0.0 c.in_err-generate.ensures.basis)

pub returns-in_ok-standard_rows-clause-submodule :
    goal.returns-in_ok-standard_rows-clause-submodule
returns-in_ok-standard_rows-clause-submodule c =
    let right = answered_value _ _ c.in_ok-standard_rows.field-0 c.in_ok-standard_rows.ensures.basis in
    spun_is_submodule true c.args.module.now c.args.seed.now c.in_ok-standard_rows.field-0 c.requires.is_module.over.square c.requires.is_matrix right.0 right.1

pub returns-in_ok-generate-clause-submodule : goal.returns-in_ok-generate-clause-submodule
returns-in_ok-generate-clause-submodule c =
    let right = answered_value _ _ c.in_ok-generate.field-0 c.in_ok-generate.ensures.basis in
    spun_is_submodule false c.args.module.now c.args.seed.now c.in_ok-generate.field-0 c.requires.is_module.over.square c.requires.is_matrix right.0 right.1

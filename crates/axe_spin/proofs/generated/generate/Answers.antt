use Rattle.std.proofs.lemmas.Result.{IfOk-from_err}
use Rattle.axe_matrix.specs.Matrices.{IsMatrix}
use Rattle.axe_echelon.proofs.Exits.{answers_more}
use Rattle.axe_spin.specs.Spinning.{seed_refusal}
use Rattle.axe_spin.proofs.SeedLaws.{handed_on_refusal, goes_on}
use Rattle.axe_spin.proofs.GeneratedLaws.{generated_matrix}
use Rattle.axe_spin.proofs.generated.generate.Goals as goal

pub returns-in_err-generated_space-clause-basis : goal.returns-in_err-generated_space-clause-basis
returns-in_err-generated_space-clause-basis c =
    handed_on_refusal (seed_refusal c.args.module.now c.args.seed.now) _ _ c.from_residual.result _ c.in_err-generated_space.ensures c.from_residual.ensures.1

pub returns-in_err-generated_space-clause-well_formed : goal.returns-in_err-generated_space-clause-well_formed
returns-in_err-generated_space-clause-well_formed c = IfOk-from_err c.from_residual.result IsMatrix c.from_residual.ensures.0

pub returns-clause-basis : goal.returns-clause-basis
returns-clause-basis c =
    let space = c.in_ok-generated_space.field-0 in
    goes_on (seed_refusal c.args.module.now c.args.seed.now) _ _ space c.into_reduced.result c.in_ok-generated_space.ensures
    (λ is. answers_more c.into_reduced.result _ _ c.into_reduced.ensures.basis
    (λ basis reduced. generated_matrix c.args.module.now c.args.seed.now basis space is reduced))

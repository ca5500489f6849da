use Rattle.std.proofs.Common.{refl, subst}
use Rattle.axe_row.specs.declared.refusals.Refusal.TheVariants.{ZeroSeed}
use Rattle.axe_matrix.specs.Matrices.{has_only_zeros}
use Rattle.axe_echelon.proofs.Exits.{not_refused, refused_at_once, answers_early}
use Rattle.axe_echelon.proofs.Exits.{answers_more}
use Rattle.axe_spin.specs.Modules.{rows_refusal}
use Rattle.axe_spin.specs.Spinning.{seed_refusal, IsStandardMatrix}
use Rattle.axe_spin.proofs.SeedLaws.{zeros_refusal, refused_first, seed_taken, zero_seed_refused}
use Rattle.axe_spin.proofs.standard.standard_rows.Goals as goal

pub returns-in_err-check_rows-clause-basis : goal.returns-in_err-check_rows-clause-basis
returns-in_err-check_rows-clause-basis c =
    refused_at_once (seed_refusal c.args.module.now c.args.seed.now) tt _ c.from_residual.result _
    (refused_first (rows_refusal c.args.module.now c.args.seed.now) (zeros_refusal (has_only_zeros c.args.seed.now.rows) ZeroSeed) tt _ c.in_err-check_rows.ensures.refusal)
    c.from_residual.ensures.1

pub returns-in-None-clause-basis : goal.returns-in-None-clause-basis
returns-in-None-clause-basis c =
    let none = not_refused (rows_refusal c.args.module.now c.args.seed.now) tt c.in_ok-check_rows.field-0 c.in_ok-check_rows.ensures.refusal in
    rw (zero_seed_refused c.args.module.now c.args.seed.now none c.in-None.ensures) refl

pub returns-in-Some-clause-basis : goal.returns-in-Some-clause-basis
returns-in-Some-clause-basis c =
    let none = not_refused (rows_refusal c.args.module.now c.args.seed.now) tt c.in_ok-check_rows.field-0 c.in_ok-check_rows.ensures.refusal in
    let first = c.in-Some.ensures in
    answers_early (seed_refusal c.args.module.now c.args.seed.now) _ c.standard_basis.result
    (seed_taken c.args.module.now c.args.seed.now first.0 none first.1)
    (answers_more c.standard_basis.result _ _ c.standard_basis.ensures.basis
    (λ rows standard. (first.0, first.1, subst (λ v. IsStandardMatrix c.args.module.now v rows) first.2 standard)))

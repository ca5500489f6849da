use Rattle.std.proofs.lemmas.Result.{IfOk-from_err}
use Rattle.axe_row.specs.Refusals.{RefusedAs}
use Rattle.axe_row.specs.declared.refusals.Refusal.TheVariants.{Singular}
use Rattle.axe_reduction.specs.Solutions.{IsInverseMatrix, IsInvertibleMatrix}
use Rattle.axe_echelon.proofs.Exits.{not_refused, refused_early, refused_late, answered_or}
use Rattle.axe_spin.specs.Modules.{IsModule}
use Rattle.axe_action.specs.Actions.{conjugate_refusal, IsConjugateModule}
use Rattle.axe_action.proofs.ConjugateLaws.{IsBasisFor, basis_if_accepted, conjugate_accepted, asked_inverse}
use Rattle.axe_action.proofs.conjugates.conjugate.Goals as goal

pub returns-in_err-inverse-clause-conjugate : goal.returns-in_err-inverse-clause-conjugate
returns-in_err-inverse-clause-conjugate c =
    let fits : IsBasisFor c.args.module.now c.args.basis.now =
    basis_if_accepted _ _ (not_refused (conjugate_refusal c.args.module.now c.args.basis.now) tt c.in_ok-check_basis.field-0 c.in_ok-check_basis.ensures) in
    refused_late (conjugate_refusal c.args.module.now c.args.basis.now) (IsInverseMatrix c.args.basis.now) _ (RefusedAs Singular (¬ (IsInvertibleMatrix c.args.basis.now))) _
    c.from_residual-in_err-inverse.result _ (conjugate_accepted c.args.module.now c.args.basis.now fits) (λ refusal stands. stands)
    (asked_inverse c.args.module.now c.args.basis.now _ fits c.in_err-inverse.ensures.inverse) c.from_residual-in_err-inverse.ensures.1

pub returns-in_err-inverse-clause-well_formed : goal.returns-in_err-inverse-clause-well_formed
returns-in_err-inverse-clause-well_formed c = IfOk-from_err c.from_residual-in_err-inverse.result IsModule c.from_residual-in_err-inverse.ensures.0

pub returns-in_err-check_basis-clause-conjugate : goal.returns-in_err-check_basis-clause-conjugate
returns-in_err-check_basis-clause-conjugate c =
    refused_early (conjugate_refusal c.args.module.now c.args.basis.now) tt _ _ c.from_residual.result _ c.in_err-check_basis.ensures c.from_residual.ensures.1

pub returns-in_err-check_basis-clause-well_formed : goal.returns-in_err-check_basis-clause-well_formed
returns-in_err-check_basis-clause-well_formed c = IfOk-from_err c.from_residual.result IsModule c.from_residual.ensures.0

pub conjugate_by-requires-clause-field : goal.conjugate_by-requires-clause-field
conjugate_by-requires-clause-field c =
    let fits : IsBasisFor c.args.module.now c.args.basis.now =
    basis_if_accepted _ _ (not_refused (conjugate_refusal c.args.module.now c.args.basis.now) tt c.in_ok-check_basis.field-0 c.in_ok-check_basis.ensures) in
    fits.field

pub conjugate_by-requires-clause-square : goal.conjugate_by-requires-clause-square
conjugate_by-requires-clause-square c =
    let fits : IsBasisFor c.args.module.now c.args.basis.now =
    basis_if_accepted _ _ (not_refused (conjugate_refusal c.args.module.now c.args.basis.now) tt c.in_ok-check_basis.field-0 c.in_ok-check_basis.ensures) in
    fits.rows

pub conjugate_by-requires-clause-fits : goal.conjugate_by-requires-clause-fits
conjugate_by-requires-clause-fits c =
    let fits : IsBasisFor c.args.module.now c.args.basis.now =
    basis_if_accepted _ _ (not_refused (conjugate_refusal c.args.module.now c.args.basis.now) tt c.in_ok-check_basis.field-0 c.in_ok-check_basis.ensures) in
    fits.columns

pub conjugate_by-requires-clause-inverse : goal.conjugate_by-requires-clause-inverse
conjugate_by-requires-clause-inverse c =
    let fits : IsBasisFor c.args.module.now c.args.basis.now =
    basis_if_accepted _ _ (not_refused (conjugate_refusal c.args.module.now c.args.basis.now) tt c.in_ok-check_basis.field-0 c.in_ok-check_basis.ensures) in
    asked_inverse c.args.module.now c.args.basis.now _ fits c.in_ok-inverse.ensures.inverse

pub returns-clause-conjugate : goal.returns-clause-conjugate
returns-clause-conjugate c =
    let fits : IsBasisFor c.args.module.now c.args.basis.now =
    basis_if_accepted _ _ (not_refused (conjugate_refusal c.args.module.now c.args.basis.now) tt c.in_ok-check_basis.field-0 c.in_ok-check_basis.ensures) in
    answered_or (conjugate_refusal c.args.module.now c.args.basis.now) (IsConjugateModule c.args.module.now c.args.basis.now)
    (IsConjugateModule c.args.module.now c.args.basis.now) (RefusedAs Singular (¬ (IsInvertibleMatrix c.args.basis.now))) c.conjugate_by.result
    (conjugate_accepted c.args.module.now c.args.basis.now fits) (λ conjugate made. made) c.conjugate_by.ensures.conjugate

pub returns-clause-well_formed : goal.returns-clause-well_formed
returns-clause-well_formed c = c.conjugate_by.ensures.well_formed

use Rattle.std.proofs.Common.{length, sym, subst}
use Rattle.axe_algebra.specs.Spans.{IsIndependent}
use Rattle.axe_algebra.specs.Bridge.{field_of, matrix_of}
use Rattle.axe_field.specs.NumberFields.{number_field}
use Rattle.axe_echelon.proofs.Exits.{no_memory}
use Rattle.axe_action.specs.Actions.{IsBasisAction}
use Rattle.axe_iso.specs.Forms.{IsFormFrom}
use Rattle.axe_iso.proofs.FormAnswers.{basis_accepted, basis_invariant, action_refused, action_given}
use Rattle.axe_iso.proofs.Forming.{form_made, form_is_kept}
use Rattle.axe_iso.proofs.form.form_by_basis.Goals as goal

pub basis_action-requires : goal.basis_action-requires
basis_action-requires c = record {
  independent =
      subst (λ o. IsIndependent (field_of (number_field o)) (length c.args.basis.rows) (matrix_of (number_field o) c.args.basis.rows))
      (sym c.requires.basis.field) c.requires.basis.standard.independent;
}

pub returns-in_err-matrices-clause-form : goal.returns-in_err-matrices-clause-form
returns-in_err-matrices-clause-form c =
    no_memory _ c.from_residual-in_err-matrices.result _ c.from_residual-in_err-matrices.ensures.1
    (action_refused c.args.module.now c.args.basis
    (basis_accepted c.args.module.now c.args.vector.now c.dim.ensures.well_formed c.requires.generates c.args.basis c.requires.basis) _
    (basis_invariant c.args.module.now c.args.vector.now c.dim.ensures.well_formed c.requires.generates c.args.basis c.requires.basis)
    c.in_err-matrices.ensures.action)

pub of_parts-requires : goal.of_parts-requires
of_parts-requires c =
    let acts : IsBasisAction c.args.module.now c.args.basis c.in_ok-matrices.matrices =
    action_given c.args.module.now c.args.basis
    (basis_accepted c.args.module.now c.args.vector.now c.dim.ensures.well_formed c.requires.generates c.args.basis c.requires.basis)
    c.in_ok-matrices.matrices c.in_ok-matrices.ensures.action in
    form_is_kept c.args.module.now c.args.seed c.args.word _ c.args.vector.now _ c.dim.ensures.well_formed c.requires.vector c.requires.generates c.requires.null
    c.requires.small
    (form_made c.args.module.now c.args.vector.now c.args.basis c.dim.ensures.well_formed c.requires.vector c.requires.basis c.requires.well_formed
    c.requires.generates c.in_ok-matrices.matrices acts c.args.seed c.args.word _ _ c.in_ok-poly.ensures c.in_ok-matrices.ensures.well_formed)

pub returns-clause-form : goal.returns-clause-form
returns-clause-form c =
    let acts : IsBasisAction c.args.module.now c.args.basis c.in_ok-matrices.matrices =
    action_given c.args.module.now c.args.basis
    (basis_accepted c.args.module.now c.args.vector.now c.dim.ensures.well_formed c.requires.generates c.args.basis c.requires.basis)
    c.in_ok-matrices.matrices c.in_ok-matrices.ensures.action in
    subst (IsFormFrom c.args.module.now c.args.seed c.args.word _ c.args.vector.now) (sym c.of_parts.ensures)
    (form_made c.args.module.now c.args.vector.now c.args.basis c.dim.ensures.well_formed c.requires.vector c.requires.basis c.requires.well_formed
    c.requires.generates c.in_ok-matrices.matrices acts c.args.seed c.args.word _ _ c.in_ok-poly.ensures c.in_ok-matrices.ensures.well_formed)

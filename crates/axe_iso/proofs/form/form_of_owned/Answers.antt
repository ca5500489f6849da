use Rattle.std.proofs.Common.{length, sym, subst}
use Rattle.axe_algebra.specs.Spans.{IsIndependent}
use Rattle.axe_algebra.specs.Bridge.{field_of, matrix_of}
use Rattle.axe_field.specs.NumberFields.{number_field}
use Rattle.axe_spin.specs.Origins.{HaveOrigins}
use Rattle.axe_iso.specs.Forms.{IsFormFrom}
use Rattle.axe_iso.proofs.FormAnswers.{row-nonzero}
use Rattle.axe_iso.proofs.Forming.{basis_is_square, form_made, form_is_kept}
use Rattle.axe_iso.proofs.form.form_of_owned.Goals as goal

pub standard_basis_with_origins-requires-clause-nonzero : goal.standard_basis_with_origins-requires-clause-nonzero
standard_basis_with_origins-requires-clause-nonzero c = row-nonzero c.args.module c.args.vector.now c.dim.ensures.well_formed c.requires.generates

pub change_standard_basis-requires-clause-field : goal.change_standard_basis-requires-clause-field
change_standard_basis-requires-clause-field c = c.in_ok-basis.ensures.basis.field

pub change_standard_basis-requires-clause-square : goal.change_standard_basis-requires-clause-square
change_standard_basis-requires-clause-square c =
    basis_is_square c.args.module c.args.vector.now c.in_ok-basis.basis c.dim.ensures.well_formed c.requires.vector c.in_ok-basis.ensures.basis
    c.in_ok-basis.ensures.well_formed c.requires.generates

pub change_standard_basis-requires-clause-fits : goal.change_standard_basis-requires-clause-fits
change_standard_basis-requires-clause-fits c = c.in_ok-basis.ensures.basis.columns

pub change_standard_basis-requires-clause-independent : goal.change_standard_basis-requires-clause-independent
change_standard_basis-requires-clause-independent c =
    subst (λ o. IsIndependent (field_of (number_field o)) (length c.in_ok-basis.basis.rows) (matrix_of (number_field o) c.in_ok-basis.basis.rows))
    (sym c.in_ok-basis.ensures.basis.field) c.in_ok-basis.ensures.basis.standard.independent

pub change_standard_basis-requires-clause-origins : goal.change_standard_basis-requires-clause-origins
change_standard_basis-requires-clause-origins c =
    subst (HaveOrigins c.args.module c.in_ok-basis.basis.rows) (sym c.deref.ensures.value) c.in_ok-basis.ensures.origins

pub of_parts-requires : goal.of_parts-requires
of_parts-requires c =
    form_is_kept c.args.module c.args.seed c.args.word _ c.args.vector.now _ c.dim.ensures.well_formed c.requires.vector c.requires.generates c.requires.null
    c.requires.small
    (form_made c.args.module c.args.vector.now c.in_ok-basis.basis c.dim.ensures.well_formed c.requires.vector c.in_ok-basis.ensures.basis
    c.in_ok-basis.ensures.well_formed c.requires.generates c.in_ok-matrices.matrices c.in_ok-matrices.ensures.action c.args.seed c.args.word _ _
    c.in_ok-poly.ensures c.in_ok-matrices.ensures.well_formed)

pub returns-clause-form : goal.returns-clause-form
returns-clause-form c =
    subst (IsFormFrom c.args.module c.args.seed c.args.word _ c.args.vector.now) (sym c.of_parts.ensures)
    (form_made c.args.module c.args.vector.now c.in_ok-basis.basis c.dim.ensures.well_formed c.requires.vector c.in_ok-basis.ensures.basis
    c.in_ok-basis.ensures.well_formed c.requires.generates c.in_ok-matrices.matrices c.in_ok-matrices.ensures.action c.args.seed c.args.word _ _
    c.in_ok-poly.ensures c.in_ok-matrices.ensures.well_formed)

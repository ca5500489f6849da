use Rattle.std.proofs.Common.{◌≡◌, ℕ, sym, ap, subst, ◌∙◌}
use Rattle.std.proofs.lemmas.Result.{IfOk-from_err}
use Rattle.axe_echelon.proofs.Exits.{no_memory}
use Rattle.axe_matrix.specs.Matrices.{matrix_product}
use Rattle.axe_spin.specs.Modules.{ModuleValue}
use Rattle.axe_norton.specs.Verdicts.{Decides}
use Rattle.axe_norton.specs.declared.verdicts.Verdict.TheVariants.{Irreducible}
use Rattle.axe_iso.specs.Forms.{IsFormFrom}
use Rattle.axe_series.specs.Sections.{SectionValue}
use Rattle.axe_chop.specs.Kept.{acting_module}
use Rattle.axe_chop.proofs.Lifting.{IsLift}
use Rattle.axe_chop.proofs.Placing.{form_lift}
use Rattle.axe_chop.proofs.section.Section.into_form.Goals as goal

pub into_form-requires : goal.into_form-requires
into_form-requires c =
    let same : acting_module c.self.inside.action ≡ c.args.self.action = ap (λ (s : SectionValue). s.action) c.self.view_is in
    subst
    (λ (m : ModuleValue).
    (words : ℕ) × Decides m c.args.seed words (Irreducible c.args.witness.now.word c.args.witness.now.poly c.args.witness.now.vector))
    (sym same) c.requires.decided

pub lift_copy-requires-clause-field : goal.lift_copy-requires-clause-field
lift_copy-requires-clause-field c =
    let lift : IsLift (acting_module c.self.inside.action) c.basis.result.now =
    subst (IsLift (acting_module c.self.inside.action)) (sym c.basis.ensures.value)
    (form_lift (acting_module c.self.inside.action) c.args.seed c.args.witness.now.word c.args.witness.now.poly c.args.witness.now.vector
    c.in_ok-form.form c.in_ok-form.ensures.form) in
    lift.field ∙ sym c.self.invariant.section.field

pub lift_copy-requires-clause-fits : goal.lift_copy-requires-clause-fits
lift_copy-requires-clause-fits c =
    let lift : IsLift (acting_module c.self.inside.action) c.basis.result.now =
    subst (IsLift (acting_module c.self.inside.action)) (sym c.basis.ensures.value)
    (form_lift (acting_module c.self.inside.action) c.args.seed c.args.witness.now.word c.args.witness.now.poly c.args.witness.now.vector
    c.in_ok-form.form c.in_ok-form.ensures.form) in
    lift.columns ∙ sym c.self.invariant.section.count

pub returns-clause-form : goal.returns-clause-form
returns-clause-form c =
    let same : acting_module c.self.inside.action ≡ c.args.self.action = ap (λ (s : SectionValue). s.action) c.self.view_is in
    subst
    (λ (m : ModuleValue).
    IsFormFrom m c.args.seed c.args.witness.now.word c.args.witness.now.poly c.args.witness.now.vector c.in_ok-form.form)
    same c.in_ok-form.ensures.form

pub returns-clause-lifted : goal.returns-clause-lifted
returns-clause-lifted c =
    c.in_ok-lifted.ensures.lifted
    ∙ (λ i. matrix_product (c.basis.ensures.value i) (c.self.view_is i).rows)

pub returns-clause-well_formed : goal.returns-clause-well_formed
returns-clause-well_formed c = (c.in_ok-form.ensures.well_formed, c.in_ok-lifted.ensures.well_formed)

pub returns-in_err-form-clause-form : goal.returns-in_err-form-clause-form
returns-in_err-form-clause-form c =
    no_memory _ c.from_residual.result _ c.from_residual.ensures.1 c.in_err-form.ensures.form

pub returns-in_err-form-clause-lifted : goal.returns-in_err-form-clause-lifted
returns-in_err-form-clause-lifted c =
    no_memory _ c.from_residual.result _ c.from_residual.ensures.1 c.in_err-form.ensures.form

pub returns-in_err-form-clause-well_formed : goal.returns-in_err-form-clause-well_formed
returns-in_err-form-clause-well_formed c =
    IfOk-from_err c.from_residual.result _ c.from_residual.ensures.0

pub returns-in_err-lifted-clause-form : goal.returns-in_err-lifted-clause-form
returns-in_err-lifted-clause-form c =
    no_memory _ c.from_residual-in_err-lifted.result _ c.from_residual-in_err-lifted.ensures.1 c.in_err-lifted.ensures.lifted

pub returns-in_err-lifted-clause-lifted : goal.returns-in_err-lifted-clause-lifted
returns-in_err-lifted-clause-lifted c =
    no_memory _ c.from_residual-in_err-lifted.result _ c.from_residual-in_err-lifted.ensures.1 c.in_err-lifted.ensures.lifted

pub returns-in_err-lifted-clause-well_formed : goal.returns-in_err-lifted-clause-well_formed
returns-in_err-lifted-clause-well_formed c =
    IfOk-from_err c.from_residual-in_err-lifted.result _ c.from_residual-in_err-lifted.ensures.0

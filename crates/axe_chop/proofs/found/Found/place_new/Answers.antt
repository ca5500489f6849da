use Rattle.std.proofs.Common.{refl, sym, ◌∙◌, arith}
use Rattle.axe_row.specs.declared.refusals.Refusal.TheVariants.{Memory}
use Rattle.axe_echelon.proofs.Exits.{no_memory}
use Rattle.axe_chop.specs.Searches.{found_value}
use Rattle.axe_chop.proofs.Lifting.{IsLifted, lifted_by}
use Rattle.axe_chop.proofs.Placing.{form_lift, lifted_as_new}
use Rattle.axe_chop.proofs.found.Found.place_new.Goals as goal

pub append_place-requires-clause-field : goal.append_place-requires-clause-field
append_place-requires-clause-field c =
    let lifted : IsLifted c.args.section c.in_ok-form.form.basis c.in_ok-form.rows =
    lifted_by c.args.section c.in_ok-form.form.basis c.in_ok-form.rows c.into_form.ensures.of_section
    (form_lift c.args.section.action c.args.seed c.args.witness.now.word c.args.witness.now.poly c.args.witness.now.vector
    c.in_ok-form.form c.in_ok-form.ensures.form) c.in_ok-form.ensures.lifted in
    lifted.field ∙ sym c.requires.field

pub append_place-requires-clause-fits : goal.append_place-requires-clause-fits
append_place-requires-clause-fits c =
    let lifted : IsLifted c.args.section c.in_ok-form.form.basis c.in_ok-form.rows =
    lifted_by c.args.section c.in_ok-form.form.basis c.in_ok-form.rows c.into_form.ensures.of_section
    (form_lift c.args.section.action c.args.seed c.args.witness.now.word c.args.witness.now.poly c.args.witness.now.vector
    c.in_ok-form.form c.in_ok-form.ensures.form) c.in_ok-form.ensures.lifted in
    lifted.columns ∙ sym c.requires.fits

pub append_place-requires-clause-room : goal.append_place-requires-clause-room
append_place-requires-clause-room c =
    let lifted : IsLifted c.args.section c.in_ok-form.form.basis c.in_ok-form.rows =
    lifted_by c.args.section c.in_ok-form.form.basis c.in_ok-form.rows c.into_form.ensures.of_section
    (form_lift c.args.section.action c.args.seed c.args.witness.now.word c.args.witness.now.poly c.args.witness.now.vector
    c.in_ok-form.form c.in_ok-form.ensures.form) c.in_ok-form.ensures.lifted in
    omega (arith, lifted.count, c.requires.room)

pub returns-clause-placed : goal.returns-clause-placed
returns-clause-placed c =
    lifted_as_new (found_value c.args.self.now) (found_value c.append_place.new.self) c.args.section c.in_ok-form.form.basis
    c.in_ok-form.rows c.len-number.result c.in_ok-form.ensures.lifted c.in_ok-append_place.ensures.placed c.args.seed
    c.args.witness.now.word c.args.witness.now.poly c.args.witness.now.vector c.in_ok-form.form c.push.new.self.items c.requires.others
    (record { is_form = c.in_ok-form.ensures.well_formed.0; from = c.in_ok-form.ensures.form }) refl
    (omega (arith, c.len-number.ensures)) c.in_ok-push.ensures.items

pub returns-in_err-form-clause-placed : goal.returns-in_err-form-clause-placed
returns-in_err-form-clause-placed c =
    no_memory _ c.from_residual.result _ c.from_residual.ensures.1 c.in_err-form.ensures.form

pub returns-in_err-form-clause-basis : goal.returns-in_err-form-clause-basis
returns-in_err-form-clause-basis c =
    no_memory _ c.from_residual.result _ c.from_residual.ensures.1 c.in_err-form.ensures.form

pub returns-in_err-form-clause-well_formed : goal.returns-in_err-form-clause-well_formed
returns-in_err-form-clause-well_formed c =
    no_memory _ c.from_residual.result _ c.from_residual.ensures.1 c.in_err-form.ensures.form

pub returns-in_err-append_place-clause-placed : goal.returns-in_err-append_place-clause-placed
returns-in_err-append_place-clause-placed c =
    no_memory _ c.from_residual-in_err-append_place.result _ c.from_residual-in_err-append_place.ensures.1 c.in_err-append_place.ensures.placed

pub returns-in_err-append_place-clause-basis : goal.returns-in_err-append_place-clause-basis
returns-in_err-append_place-clause-basis c =
    no_memory _ c.from_residual-in_err-append_place.result _ c.from_residual-in_err-append_place.ensures.1 c.in_err-append_place.ensures.placed

pub returns-in_err-append_place-clause-well_formed : goal.returns-in_err-append_place-clause-well_formed
returns-in_err-append_place-clause-well_formed c =
    no_memory _ c.from_residual-in_err-append_place.result _ c.from_residual-in_err-append_place.ensures.1 c.in_err-append_place.ensures.placed

pub returns-in_err-push-clause-placed : goal.returns-in_err-push-clause-placed
returns-in_err-push-clause-placed c =
    no_memory _ c.from_residual-in_err-push.result Memory c.from_residual-in_err-push.ensures.1 refl

pub returns-in_err-push-clause-basis : goal.returns-in_err-push-clause-basis
returns-in_err-push-clause-basis c =
    no_memory _ c.from_residual-in_err-push.result Memory c.from_residual-in_err-push.ensures.1 refl

pub returns-in_err-push-clause-well_formed : goal.returns-in_err-push-clause-well_formed
returns-in_err-push-clause-well_formed c =
    no_memory _ c.from_residual-in_err-push.result Memory c.from_residual-in_err-push.ensures.1 refl

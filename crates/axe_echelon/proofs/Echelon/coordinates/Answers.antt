use Rattle.std.proofs.Common.{◌≡◌, sym, ◌∙◌, ap, subst}
use Rattle.axe_echelon.specs.Echelons.{EchelonValue, IsEchelon}
use Rattle.axe_echelon.specs.Steps.{HasSteps, echelon_of}
use Rattle.axe_echelon.proofs.Exits.{answers_more, no_memory}
use Rattle.axe_echelon.proofs.InsertedRows.{coordinates_of_row}
use Rattle.axe_echelon.proofs.StepLaws.{echelon_of_steps, over_of_row}
use Rattle.axe_echelon.proofs.Echelon.coordinates.Goals as goal

pub left_of-requires-clause-field : goal.left_of-requires-clause-field
left_of-requires-clause-field c = c.requires.field ∙ sym (ap (λ (e : EchelonValue). e.order) c.self.view_is)

pub left_of-requires-clause-fits : goal.left_of-requires-clause-fits
left_of-requires-clause-fits c = c.requires.fits ∙ sym (ap (λ (e : EchelonValue). e.cols) c.self.view_is)

pub coordinates_of-requires-clause-steps : goal.coordinates_of-requires-clause-steps
coordinates_of-requires-clause-steps c = rw c.deref.ensures.value c.self.invariant

pub coordinates_of-requires-clause-field : goal.coordinates_of-requires-clause-field
coordinates_of-requires-clause-field c = c.in_ok-left.ensures.cleared.multipliers_field

pub coordinates_of-requires-clause-fits : goal.coordinates_of-requires-clause-fits
coordinates_of-requires-clause-fits c = c.in_ok-left.ensures.cleared.multipliers_over.length_is

pub returns-clause-coefficients : goal.returns-clause-coefficients
returns-clause-coefficients c =
    let has : HasSteps c.self.inside.space c.deref.result.now = rw c.deref.ensures.value c.self.invariant in
    let view : echelon_of c.self.inside.space c.deref.result.now ≡ c.args.self.now = rw c.deref.ensures.value c.self.view_is in
    let field = c.requires.field ∙ sym (ap (λ (e : EchelonValue). e.order) view) in
    let fits = c.requires.fits ∙ sym (ap (λ (e : EchelonValue). e.cols) view) in
    answers_more c.coordinates_of.result _ _ c.coordinates_of.ensures
    (λ found solved. rw (← view) (
    coordinates_of_row c.self.inside.space c.deref.result.now has c.args.row.now c.in_ok-left.left.rest c.in_ok-left.left.multipliers
    c.in_ok-left.ensures.cleared (over_of_row _ _ c.args.row.now field c.in_ok-left.ensures.row_well_formed fits)
    c.coordinates_of.new.left.multipliers found solved))

pub returns-clause-well_formed : goal.returns-clause-well_formed
returns-clause-well_formed c = subst IsEchelon c.self.view_is (echelon_of_steps _ _ c.self.invariant)

pub returns-in_err-left-clause-coefficients : goal.returns-in_err-left-clause-coefficients
returns-in_err-left-clause-coefficients c = no_memory _ c.from_residual.result _ c.from_residual.ensures.1 c.in_err-left.ensures.cleared

pub returns-in_err-left-clause-well_formed : goal.returns-in_err-left-clause-well_formed
returns-in_err-left-clause-well_formed c = subst IsEchelon c.self.view_is (echelon_of_steps _ _ c.self.invariant)

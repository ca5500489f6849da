use Rattle.std.proofs.Common.{◌≡◌, ◌++◌, ◌∷◌, [], None, refl, sym, ◌∙◌, inr}
use Rattle.axe_algebra.specs.SpansOfLists.{IsSpanned}
use Rattle.axe_field.specs.NumberFields.{number_field}
use Rattle.axe_row.specs.Refusals.{RefusedAs}
use Rattle.axe_row.specs.declared.refusals.Refusal.TheVariants.{NotInvariant}
use Rattle.axe_echelon.specs.Echelons.{AreCoordinates}
use Rattle.axe_echelon.proofs.Exits.{no_memory_late, answered_or}
use Rattle.axe_action.specs.Coordinates.{HasCoefficientsToo}
use Rattle.axe_action.proofs.subspaces.append_coefficients.Goals as goal

pub coordinates-requires-clause-field : goal.coordinates-requires-clause-field
coordinates-requires-clause-field c = c.requires.image_field

pub coordinates-requires-clause-fits : goal.coordinates-requires-clause-fits
coordinates-requires-clause-fits c = c.requires.image_fits

pub append-requires-clause-field : goal.append-requires-clause-field
append-requires-clause-field c =
    let are : AreCoordinates c.args.span.now c.args.image.now.entries c.in-Some.coefficients =
    rw c.in-Some.is at c.in_ok-coefficients.ensures.coefficients in
    are.field ∙ sym c.requires.field

pub append-requires-clause-fits : goal.append-requires-clause-fits
append-requires-clause-fits c =
    let are : AreCoordinates c.args.span.now c.args.image.now.entries c.in-Some.coefficients =
    rw c.in-Some.is at c.in_ok-coefficients.ensures.coefficients in
    are.over.length_is ∙ sym c.requires.width

pub append-requires-clause-room : goal.append-requires-clause-room
append-requires-clause-room c = c.requires.room

pub returns-in_err-coefficients : goal.returns-in_err-coefficients
returns-in_err-coefficients c = no_memory_late None _ _ c.from_residual.result _ refl c.in_err-coefficients.ensures.coefficients c.from_residual.ensures.1

pub returns-in_default : goal.returns-in_default
returns-in_default c = inr (refl, rw c.in_default.is at c.in_ok-coefficients.ensures.coefficients)

pub returns : goal.returns
returns c =
    let are : AreCoordinates c.args.span.now c.args.image.now.entries c.in-Some.coefficients =
    rw c.in-Some.is at c.in_ok-coefficients.ensures.coefficients in
    answered_or None (λ _. c.append.new.self ≡ record c.args.action.now { rows = c.args.action.now.rows ++ c.in-Some.coefficients.entries ∷ [] })
    (λ _. HasCoefficientsToo c.args.span.now c.args.image.now.entries c.args.action.now c.append.new.self)
    (RefusedAs NotInvariant (¬ (IsSpanned (number_field c.args.span.now.order) c.args.span.now.rows c.args.image.now.entries)))
    c.append.result refl
    (λ _ appended. record {
      coefficients = c.in-Some.coefficients;
      are = are;
      appended = appended;
      well_formed = c.append.ensures.well_formed;
    })
    c.append.ensures.appended

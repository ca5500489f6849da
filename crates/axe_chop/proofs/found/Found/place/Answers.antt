use Rattle.axe_echelon.proofs.Exits.{answers_more, no_memory}
use Rattle.axe_chop.specs.Searches.{found_value}
use Rattle.axe_chop.proofs.Placing.{known_in, others_in, placed_as_known}
use Rattle.axe_chop.proofs.found.Found.place.Goals as goal

pub place_known-requires-clause-known : goal.place_known-requires-clause-known
place_known-requires-clause-known c =
    known_in c.args.self.now.forms.items c.deref.result.now c.args.section.action c.action.result.now c.in-Some.number c.in-Some.isomorphism
    c.deref.ensures.value c.action.ensures.value (rw c.in-Some.is at c.in_ok-number.ensures)

pub place_known-requires-clause-field : goal.place_known-requires-clause-field
place_known-requires-clause-field c = c.requires.field

pub place_known-requires-clause-fits : goal.place_known-requires-clause-fits
place_known-requires-clause-fits c = c.requires.fits

pub place_known-requires-clause-room : goal.place_known-requires-clause-room
place_known-requires-clause-room c = c.requires.room

pub place_known-requires-clause-few_forms : goal.place_known-requires-clause-few_forms
place_known-requires-clause-few_forms c = c.requires.few_forms

pub returns-in-Some-clause-placed : goal.returns-in-Some-clause-placed
returns-in-Some-clause-placed c =
    answers_more c.place_known.result _ _ c.place_known.ensures.placed
    (λ _ placed. placed_as_known (found_value c.args.self.now) (found_value c.place_known.new.self) c.args.section c.args.seed
    c.args.witness.now.word c.args.witness.now.poly c.args.witness.now.vector c.in-Some.number c.in-Some.isomorphism
    (known_in c.args.self.now.forms.items c.deref.result.now c.args.section.action c.action.result.now c.in-Some.number c.in-Some.isomorphism
    c.deref.ensures.value c.action.ensures.value (rw c.in-Some.is at c.in_ok-number.ensures))
    placed)

pub place_new-requires-clause-others : goal.place_new-requires-clause-others
place_new-requires-clause-others c =
    others_in c.args.self.now.forms.items c.deref.result.now c.args.section.action c.action.result.now c.deref.ensures.value
    c.action.ensures.value (rw c.in-None.is at c.in_ok-number.ensures)

pub place_new-requires-clause-decided : goal.place_new-requires-clause-decided
place_new-requires-clause-decided c = c.requires.decided

pub place_new-requires-clause-field : goal.place_new-requires-clause-field
place_new-requires-clause-field c = c.requires.field

pub place_new-requires-clause-fits : goal.place_new-requires-clause-fits
place_new-requires-clause-fits c = c.requires.fits

pub place_new-requires-clause-room : goal.place_new-requires-clause-room
place_new-requires-clause-room c = c.requires.room

pub place_new-requires-clause-few_forms : goal.place_new-requires-clause-few_forms
place_new-requires-clause-few_forms c = c.requires.few_forms

pub returns-in-Some-clause-basis : goal.returns-in-Some-clause-basis
returns-in-Some-clause-basis c = c.place_known.ensures.basis

pub returns-in-Some-clause-well_formed : goal.returns-in-Some-clause-well_formed
returns-in-Some-clause-well_formed c = c.place_known.ensures.well_formed

pub returns-in-None-clause-placed : goal.returns-in-None-clause-placed
returns-in-None-clause-placed c = c.place_new.ensures.placed

pub returns-in-None-clause-basis : goal.returns-in-None-clause-basis
returns-in-None-clause-basis c = c.place_new.ensures.basis

pub returns-in-None-clause-well_formed : goal.returns-in-None-clause-well_formed
returns-in-None-clause-well_formed c = c.place_new.ensures.well_formed

pub returns-in_err-number-clause-placed : goal.returns-in_err-number-clause-placed
returns-in_err-number-clause-placed c =
    no_memory _ c.from_residual.result _ c.from_residual.ensures.1 c.in_err-number.ensures

pub returns-in_err-number-clause-basis : goal.returns-in_err-number-clause-basis
returns-in_err-number-clause-basis c =
    no_memory _ c.from_residual.result _ c.from_residual.ensures.1 c.in_err-number.ensures

pub returns-in_err-number-clause-well_formed : goal.returns-in_err-number-clause-well_formed
returns-in_err-number-clause-well_formed c =
    no_memory _ c.from_residual.result _ c.from_residual.ensures.1 c.in_err-number.ensures

use Rattle.axe_chop.proofs.found.Found.place_owned.Goals as goal

pub place-requires-clause-decided : goal.place-requires-clause-decided
place-requires-clause-decided c = c.requires.decided

pub place-requires-clause-like : goal.place-requires-clause-like
place-requires-clause-like c = c.requires.like

pub place-requires-clause-field : goal.place-requires-clause-field
place-requires-clause-field c = c.requires.field

pub place-requires-clause-fits : goal.place-requires-clause-fits
place-requires-clause-fits c = c.requires.fits

pub place-requires-clause-room : goal.place-requires-clause-room
place-requires-clause-room c = c.requires.room

pub place-requires-clause-few_forms : goal.place-requires-clause-few_forms
place-requires-clause-few_forms c = c.requires.few_forms

pub returns-clause-placed : goal.returns-clause-placed
returns-clause-placed c = c.place.ensures.placed

pub returns-clause-basis : goal.returns-clause-basis
returns-clause-basis c = c.place.ensures.basis

pub returns-clause-well_formed : goal.returns-clause-well_formed
returns-clause-well_formed c = c.place.ensures.well_formed

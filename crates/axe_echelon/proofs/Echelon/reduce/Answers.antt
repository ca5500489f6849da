use Rattle.std.proofs.Common.{sym, ◌∙◌, ap}
use Rattle.axe_echelon.specs.Echelons.{EchelonValue}
use Rattle.axe_echelon.proofs.InsertedRows.{represents_by_inserted}
use Rattle.axe_echelon.proofs.StepLaws.{echelon_of_steps}
use Rattle.axe_echelon.proofs.Echelon.reduce.Goals as goal

pub reduce-requires-clause-field : goal.reduce-requires-clause-field
reduce-requires-clause-field c = c.requires.field ∙ sym (ap (λ (e : EchelonValue). e.order) c.self.view_is)

pub reduce-requires-clause-fits : goal.reduce-requires-clause-fits
reduce-requires-clause-fits c = c.requires.fits ∙ sym (ap (λ (e : EchelonValue). e.cols) c.self.view_is)

pub returns-clause-representative : goal.returns-clause-representative
returns-clause-representative c = rw (← c.self.view_is) (represents_by_inserted _ _ c.self.invariant _ _ c.reduce.ensures.representative)

pub returns-clause-same_field : goal.returns-clause-same_field
returns-clause-same_field c = c.reduce.ensures.same_field ∙ ap (λ (e : EchelonValue). e.order) c.self.view_is

pub returns-clause-as_long : goal.returns-clause-as_long
returns-clause-as_long c = c.reduce.ensures.as_long ∙ ap (λ (e : EchelonValue). e.cols) c.self.view_is

pub returns-clause-well_formed : goal.returns-clause-well_formed
returns-clause-well_formed c = rw (← c.self.view_is) (echelon_of_steps _ _ c.self.invariant)

use Rattle.std.proofs.Common.{◌∙◌, ap}
use Rattle.axe_echelon.specs.Echelons.{EchelonValue}
use Rattle.axe_echelon.proofs.StepLaws.{echelon_of_steps}
use Rattle.axe_echelon.proofs.Echelon.cols.Goals as goal

pub returns-clause-well_formed : goal.returns-clause-well_formed
returns-clause-well_formed c = rw (← c.self.view_is) (echelon_of_steps _ _ c.self.invariant)

pub returns-clause-count : goal.returns-clause-count
returns-clause-count c = c.cols.ensures.count ∙ ap (λ (e : EchelonValue). e.cols) c.self.view_is

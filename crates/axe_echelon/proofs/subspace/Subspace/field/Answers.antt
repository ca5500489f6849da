use Rattle.std.proofs.Common.{ap}
use Rattle.axe_echelon.specs.Echelons.{EchelonValue}
use Rattle.axe_echelon.proofs.PivotRowLaws.{echelon_of_rows}
use Rattle.axe_echelon.proofs.subspace.Subspace.field.Goals as goal

pub returns-clause-well_formed : goal.returns-clause-well_formed
returns-clause-well_formed c = rw (← c.self.view_is) (echelon_of_rows _ _ _ c.self.invariant.are_rows)

pub returns-clause-order : goal.returns-clause-order
returns-clause-order c = ap (λ (e : EchelonValue). e.order) c.self.view_is

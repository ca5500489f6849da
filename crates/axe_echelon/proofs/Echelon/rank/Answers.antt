use Rattle.std.proofs.Common.{◌∙◌}
use Rattle.axe_echelon.proofs.InsertedRows.{rank_of_space}
use Rattle.axe_echelon.proofs.StepLaws.{echelon_of_steps}
use Rattle.axe_echelon.proofs.Echelon.rank.Goals as goal

pub returns-clause-well_formed : goal.returns-clause-well_formed
returns-clause-well_formed c = rw (← c.self.view_is) (echelon_of_steps _ _ c.self.invariant)

pub returns-clause-count : goal.returns-clause-count
returns-clause-count c = c.dim.ensures.count ∙ rank_of_space _ _ c.self.invariant _ c.self.view_is

use Rattle.axe_reduction.proofs.BesideLaws.{view-IsAugmented}
use Rattle.axe_reduction.proofs.augmented.Augmented.field.Goals as goal

pub returns-clause-well_formed : goal.returns-clause-well_formed
returns-clause-well_formed c = view-IsAugmented _ _ _ c.self.view_is c.self.invariant

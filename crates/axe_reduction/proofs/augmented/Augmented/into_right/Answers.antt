use Rattle.axe_reduction.proofs.BesideLaws.{view-right}
use Rattle.axe_reduction.proofs.augmented.Augmented.into_right.Goals as goal

pub returns-clause-right : goal.returns-clause-right
returns-clause-right c = view-right _ _ _ c.self.view_is c.self.invariant

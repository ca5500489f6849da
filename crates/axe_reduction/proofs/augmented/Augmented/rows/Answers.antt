use Rattle.std.proofs.Common.{sym, ◌∙◌}
use Rattle.axe_reduction.proofs.BesideLaws.{view-IsAugmented, view-count}
use Rattle.axe_reduction.proofs.augmented.Augmented.rows.Goals as goal

pub returns-clause-count : goal.returns-clause-count
returns-clause-count c = c.rows.ensures.count ∙ sym (view-count c.self.inside.left c.self.inside.right _ c.self.view_is)

pub returns-clause-well_formed : goal.returns-clause-well_formed
returns-clause-well_formed c = view-IsAugmented _ _ _ c.self.view_is c.self.invariant

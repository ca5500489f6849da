use Rattle.axe_reduction.proofs.BesideLaws.{augmented-IsAugmented}
use Rattle.axe_reduction.proofs.BesideParts.{split-AreBeside, split_rows_first, split_rows_after}
use Rattle.axe_reduction.proofs.augmented.Augmented.split.Goals as goal

pub invariant_of-first : goal.invariant_of-first
invariant_of-first c =
    (split-AreBeside _ _ _ _ _ _ _ c.self.invariant c.in_ok-left.ensures.parts c.in_ok-right.ensures.parts
    c.in_ok-left.ensures.well_formed c.in_ok-right.ensures.well_formed).0

pub invariant_of-after : goal.invariant_of-after
invariant_of-after c =
    (split-AreBeside _ _ _ _ _ _ _ c.self.invariant c.in_ok-left.ensures.parts c.in_ok-right.ensures.parts
    c.in_ok-left.ensures.well_formed c.in_ok-right.ensures.well_formed).1

pub returns-clause-first : goal.returns-clause-first
returns-clause-first c =
    split_rows_first _ _ _ _ _ _ _ _ c.self.view_is c.self.invariant c.requires c.in_ok-left.ensures.parts c.in_ok-right.ensures.parts

pub returns-clause-after : goal.returns-clause-after
returns-clause-after c =
    split_rows_after _ _ _ _ _ _ _ _ c.self.view_is c.self.invariant c.requires c.in_ok-left.ensures.parts c.in_ok-right.ensures.parts

pub returns-clause-well_formed : goal.returns-clause-well_formed
returns-clause-well_formed c =
    (augmented-IsAugmented _ _ (invariant_of-first c), augmented-IsAugmented _ _ (invariant_of-after c))

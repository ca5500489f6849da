use Rattle.axe_echelon.proofs.PivotRowLaws.{echelon_of_rows}
use Rattle.axe_echelon.proofs.subspace.Subspace.reduce_with.Goals as goal

pub returns-in-5-clause-well_formed : goal.returns-in-5-clause-well_formed
returns-in-5-clause-well_formed c = rw (← c.self.view_is) (echelon_of_rows _ _ _ c.self.invariant.are_rows)

pub returns-in-2-clause-well_formed : goal.returns-in-2-clause-well_formed
returns-in-2-clause-well_formed c = rw (← c.self.view_is) (echelon_of_rows _ _ _ c.self.invariant.are_rows)

pub returns-in-3-clause-well_formed : goal.returns-in-3-clause-well_formed
returns-in-3-clause-well_formed c = rw (← c.self.view_is) (echelon_of_rows _ _ _ c.self.invariant.are_rows)

pub returns-in-4-clause-well_formed : goal.returns-in-4-clause-well_formed
returns-in-4-clause-well_formed c = rw (← c.self.view_is) (echelon_of_rows _ _ _ c.self.invariant.are_rows)

pub returns-in-5-2-clause-well_formed : goal.returns-in-5-2-clause-well_formed
returns-in-5-2-clause-well_formed c = rw (← c.self.view_is) (echelon_of_rows _ _ _ c.self.invariant.are_rows)

pub returns-in-7-clause-well_formed : goal.returns-in-7-clause-well_formed
returns-in-7-clause-well_formed c = rw (← c.self.view_is) (echelon_of_rows _ _ _ c.self.invariant.are_rows)

pub returns-in-8-clause-well_formed : goal.returns-in-8-clause-well_formed
returns-in-8-clause-well_formed c = rw (← c.self.view_is) (echelon_of_rows _ _ _ c.self.invariant.are_rows)

pub returns-in_default-clause-well_formed : goal.returns-in_default-clause-well_formed
returns-in_default-clause-well_formed c = rw (← c.self.view_is) (echelon_of_rows _ _ _ c.self.invariant.are_rows)

pub returns-in-2-2-clause-well_formed : goal.returns-in-2-2-clause-well_formed
returns-in-2-2-clause-well_formed c = rw (← c.self.view_is) (echelon_of_rows _ _ _ c.self.invariant.are_rows)

pub returns-in-4-2-clause-well_formed : goal.returns-in-4-2-clause-well_formed
returns-in-4-2-clause-well_formed c = rw (← c.self.view_is) (echelon_of_rows _ _ _ c.self.invariant.are_rows)

pub returns-in-8-2-clause-well_formed : goal.returns-in-8-2-clause-well_formed
returns-in-8-2-clause-well_formed c = rw (← c.self.view_is) (echelon_of_rows _ _ _ c.self.invariant.are_rows)

pub returns-in-3-2-clause-well_formed : goal.returns-in-3-2-clause-well_formed
returns-in-3-2-clause-well_formed c = rw (← c.self.view_is) (echelon_of_rows _ _ _ c.self.invariant.are_rows)

pub returns-in-9-clause-well_formed : goal.returns-in-9-clause-well_formed
returns-in-9-clause-well_formed c = rw (← c.self.view_is) (echelon_of_rows _ _ _ c.self.invariant.are_rows)

use Rattle.std.proofs.Common.{subst}
use Rattle.axe_row.specs.Combinations.{IsTableOfRows}
use Rattle.axe_row.proofs.TablePlanes.{IsTableOfRows-of_planes}
use Rattle.axe_row.proofs.combos.Combos.field.Goals as goal

pub returns-clause-well_formed : goal.returns-clause-well_formed
returns-clause-well_formed c = subst IsTableOfRows c.self.view_is (IsTableOfRows-of_planes _ _ _ _ _ _ c.self.invariant)

use Rattle.std.proofs.Common.{subst}
use Rattle.axe_row.specs.Rows.{IsRow}
use Rattle.axe_row.proofs.KeptPlanes.{alone_order}
use Rattle.axe_row.proofs.RowPlanes.{IsRow-of_planes}
use Rattle.axe_row.proofs.Row.entry_from.Goals as goal

pub entry_of_plane-requires-clause-prime : goal.entry_of_plane-requires-clause-prime
entry_of_plane-requires-clause-prime c = alone_order _ _ _ _ _ _ c.self.invariant c.self.view_is c.in_default.is

pub returns-in_default-clause-well_formed : goal.returns-in_default-clause-well_formed
returns-in_default-clause-well_formed c = subst IsRow c.self.view_is (IsRow-of_planes _ _ _ _ _ c.self.invariant.planes)

pub returns-clause-well_formed : goal.returns-clause-well_formed
returns-clause-well_formed c = subst IsRow c.self.view_is (IsRow-of_planes _ _ _ _ _ c.self.invariant.planes)

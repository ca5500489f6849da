use Rattle.std.proofs.Common.{refl}
use Rattle.axe_row.proofs.KeptPlanes.{kept_alone}
use Rattle.axe_row.proofs.PrimeRows.{one_plane}
use Rattle.axe_row.proofs.RowLaws.{same_row}
use Rattle.axe_row.proofs.RowPlanes.{IsRow-of_planes}
use Rattle.axe_row.proofs.Row.of_plane.Goals as goal

pub invariant_of-result : goal.invariant_of-result
invariant_of-result c = kept_alone _ _ _ c.requires.prime c.requires.plane

pub returns-clause-entries : goal.returns-clause-entries
returns-clause-entries c = same_row _ _ refl (one_plane _ _ _ _ _ c.requires.prime (invariant_of-result c).planes)

pub returns-clause-well_formed : goal.returns-clause-well_formed
returns-clause-well_formed c = IsRow-of_planes _ _ _ _ _ (invariant_of-result c).planes

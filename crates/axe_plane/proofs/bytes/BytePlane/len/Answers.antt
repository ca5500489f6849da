use Rattle.std.proofs.Common.{rules}
use Rattle.axe_plane.proofs.bytes.BytePlane.len.Goals as goal

pub returns-clause-count : goal.returns-clause-count
returns-clause-count c = search rules

use Rattle.std.proofs.Common.{rules}
use Rattle.axe_plane.proofs.bytes.BytePlane.first_nonzero.Goals as goal

pub returns : goal.returns
returns c = search rules

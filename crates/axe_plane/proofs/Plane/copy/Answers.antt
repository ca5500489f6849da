use Rattle.std.proofs.Common.{rules}
use Rattle.axe_plane.proofs.Plane.copy.Goals as goal

pub returns : goal.returns
returns c = search rules

use Rattle.std.proofs.Common.{rules}
use Rattle.axe_plane.proofs.Plane.bytes.Goals as goal

pub returns-clause-value : goal.returns-clause-value
returns-clause-value c = search rules

pub returns-clause-digits : goal.returns-clause-digits
returns-clause-digits c = search rules

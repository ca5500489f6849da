use Rattle.std.proofs.Common.{rules}
use Rattle.axe_plane.proofs.Plane.words.Goals as goal

pub returns-clause-holds : goal.returns-clause-holds
returns-clause-holds c = search rules

pub returns-clause-digits : goal.returns-clause-digits
returns-clause-digits c = search rules

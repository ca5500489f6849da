use Rattle.std.proofs.Common.{rules}
use Rattle.axe_plane.proofs.primes.BytePrime.number.Goals as goal

pub returns-in-Five : goal.returns-in-Five
returns-in-Five c = search rules

pub returns-in-Seven : goal.returns-in-Seven
returns-in-Seven c = search rules

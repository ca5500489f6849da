use Rattle.std.proofs.Common.{arith}
use Rattle.std.proofs.lemmas.Grind.{common_steps}
use Rattle.axe_plane.proofs.bytes.BytePlane.get.Goals as goal

pub returns-else-index-len : goal.returns-else-index-len
returns-else-index-len c = grind (arith, common_steps)

use Rattle.std.proofs.Common.{rules}
use Rattle.axe_plane.proofs.Plane.copy_to.Goals as goal

pub returns-in-Trits : goal.returns-in-Trits
returns-in-Trits c = search rules

pub returns-in-Bytes : goal.returns-in-Bytes
returns-in-Bytes c = search rules

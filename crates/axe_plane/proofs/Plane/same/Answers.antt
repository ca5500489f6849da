use Rattle.std.proofs.Common.{rules}
use Rattle.axe_plane.proofs.Plane.same.Goals as goal

pub returns-in-Bits-Bits : goal.returns-in-Bits-Bits
returns-in-Bits-Bits c = search rules

pub returns-in-Trits-Trits : goal.returns-in-Trits-Trits
returns-in-Trits-Trits c = search rules

pub returns-in-Bytes-Bytes : goal.returns-in-Bytes-Bytes
returns-in-Bytes-Bytes c = search rules

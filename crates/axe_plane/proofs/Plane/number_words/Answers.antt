use Rattle.std.proofs.Common.{rules}
use Rattle.axe_plane.proofs.Plane.number_words.Goals as goal

pub returns-in-Bits : goal.returns-in-Bits
returns-in-Bits c = search rules

pub returns-in-Trits : goal.returns-in-Trits
returns-in-Trits c = search rules

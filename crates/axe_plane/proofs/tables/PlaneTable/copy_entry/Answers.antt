use Rattle.std.proofs.Common.{refl}
use Rattle.axe_plane.proofs.tables.PlaneTable.copy_entry.Goals as goal

pub returns-in-Bits : goal.returns-in-Bits
returns-in-Bits c = rw c.in-Bits.is (record { prime = refl; entries_are = c.copy_entry.ensures })

pub returns-in-Trits : goal.returns-in-Trits
returns-in-Trits c = rw c.in-Trits.is (record { prime = refl; entries_are = c.copy_entry-in-Trits.ensures })

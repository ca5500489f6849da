use Rattle.axe_plane.proofs.tables.PlaneTable.bytes_of.Goals as goal

pub returns-clause-value : goal.returns-clause-value
returns-clause-value c = rw c.in-Bytes.is c.entry.ensures.value

pub returns-clause-digits : goal.returns-clause-digits
returns-clause-digits c = rw c.in-Bytes.is c.entry.ensures.digits

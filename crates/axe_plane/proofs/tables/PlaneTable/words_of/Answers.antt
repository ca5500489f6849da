use Rattle.axe_plane.proofs.tables.PlaneTable.words_of.Goals as goal

pub returns-clause-holds : goal.returns-clause-holds
returns-clause-holds c = rw c.in-Bits.is c.entry.ensures.holds

pub returns-clause-digits : goal.returns-clause-digits
returns-clause-digits c = rw c.in-Bits.is c.entry.ensures.digits

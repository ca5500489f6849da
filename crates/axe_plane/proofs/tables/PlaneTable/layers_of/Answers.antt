use Rattle.axe_plane.proofs.tables.PlaneTable.layers_of.Goals as goal

pub returns-clause-holds : goal.returns-clause-holds
returns-clause-holds c = rw c.in-Trits.is c.entry.ensures.holds

pub returns-clause-digits : goal.returns-clause-digits
returns-clause-digits c = rw c.in-Trits.is c.entry.ensures.digits

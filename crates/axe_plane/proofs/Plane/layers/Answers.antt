use Rattle.axe_plane.proofs.Plane.layers.Goals as goal

pub returns-clause-holds : goal.returns-clause-holds
returns-clause-holds c = rw c.in-Trits.is c.layers.ensures.holds

pub returns-clause-digits : goal.returns-clause-digits
returns-clause-digits c = rw c.in-Trits.is c.layers.ensures.digits

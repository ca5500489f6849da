use Rattle.axe_plane.proofs.Plane.add_scaled.Goals as goal

pub returns : goal.returns
returns c = c.add_scaled_from.ensures

pub add_scaled_from-requires-clause-fits : goal.add_scaled_from-requires-clause-fits
add_scaled_from-requires-clause-fits c = c.requires.fits

use Rattle.axe_plane.proofs.bytes.BytePlane.add_scaled.Goals as goal

pub returns : goal.returns
returns c = c.add_scaled_from.ensures

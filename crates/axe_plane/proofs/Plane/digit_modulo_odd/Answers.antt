use Rattle.axe_plane.proofs.Plane.digit_modulo_odd.Goals as goal

pub returns : goal.returns
returns c = c.digit.ensures

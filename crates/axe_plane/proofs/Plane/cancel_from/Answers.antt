use Rattle.axe_plane.proofs.Plane.cancel_from.Goals as goal

pub returns-clause-factor : goal.returns-clause-factor
returns-clause-factor c = c.cancel_where_zeros.ensures.factor

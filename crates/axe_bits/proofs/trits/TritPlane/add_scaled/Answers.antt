use Rattle.axe_bits.proofs.trits.TritPlane.add_scaled.Goals as goal

pub returns : goal.returns
returns c = c.add_scaled_from.ensures

use Rattle.axe_bits.proofs.bits.BitPlane.add.Goals as goal

pub returns : goal.returns
returns c = c.add_from.ensures

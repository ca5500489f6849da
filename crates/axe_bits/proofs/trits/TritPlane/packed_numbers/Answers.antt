use Rattle.axe_bits.proofs.TritNumbers.{packed_layers}
use Rattle.axe_bits.proofs.trits.TritPlane.packed_numbers.Goals as goal

pub returns-clause-value : goal.returns-clause-value
returns-clause-value c =
    packed_layers _ _ _ _ _ _ _ _ c.layers.ensures.holds c.layers.ensures.digits c.requires.within c.packed_numbers.ensures.value
    c.packed_numbers-2.ensures.value

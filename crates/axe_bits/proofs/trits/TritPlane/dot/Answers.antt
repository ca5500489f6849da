use Rattle.std.proofs.Common.{◌∙◌}
use Rattle.axe_bits.proofs.TritDots.{dot_of_planes}
use Rattle.axe_bits.proofs.trits.TritPlane.dot.Goals as goal

pub returns : goal.returns
returns c =
    c.dot_trits.ensures
    ∙ dot_of_planes _ _ _ _ _ _ c.layers.ensures.holds c.layers.ensures.digits c.layers-2.ensures.holds c.layers-2.ensures.digits c.requires

use Rattle.axe_iso.specs.Images.{AreProductsUpTo}
use Rattle.axe_iso.proofs.images.multiply_layers.Given as goal

abbrev pub invariant-loop-index : goal.invariant-loop-index
invariant-loop-index l = AreProductsUpTo l.kept l.fn.layers.items l.layers.items l.index

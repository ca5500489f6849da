use Rattle.axe_iso.proofs.ImageLaws.{AreImagesUpTo}
use Rattle.axe_iso.proofs.images.images_of_first.Given as goal

abbrev pub invariant-loop-source : goal.invariant-loop-source
invariant-loop-source l = AreImagesUpTo l.module l.matrices l.space l.layers.items l.source

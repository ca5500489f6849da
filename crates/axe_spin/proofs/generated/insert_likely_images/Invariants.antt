use Rattle.axe_spin.specs.Postponed.{AreImagesSpannedBut}
use Rattle.axe_spin.specs.Spaces.{IsEnlarged}
use Rattle.axe_spin.proofs.generated.insert_likely_images.Given as goal

abbrev pub invariant-loop-number : goal.invariant-loop-number
invariant-loop-number l = record {
  enlarged : IsEnlarged l.module l.fn.space l.space;
  images : AreImagesSpannedBut l.module l.space.rows l.postponed l.source l.number;
}

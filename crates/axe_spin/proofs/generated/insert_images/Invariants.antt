use Rattle.axe_spin.specs.Spaces.{IsEnlarged, AreImagesSpanned}
use Rattle.axe_spin.proofs.generated.insert_images.Given as goal

abbrev pub invariant-loop-generator : goal.invariant-loop-generator
invariant-loop-generator l = record {
  enlarged : IsEnlarged l.module l.fn.space l.space;
  images : AreImagesSpanned l.module l.space.rows l.source l.generator;
}

use Rattle.std.proofs.Common.{ℕ, ◌+◌, ◌≤◌, ◌<◌}
use Rattle.axe_spin.specs.Spaces.{IsEnlarged, AreImagesSpanned}
use Rattle.axe_spin.proofs.generated.insert_images_of_block.Given as goal

abbrev pub invariant-loop-index : goal.invariant-loop-index
invariant-loop-index l = record {
  enlarged : IsEnlarged l.module l.fn.space l.space;
  images : (r : ℕ) → l.source ≤ r → r < l.source + l.count → AreImagesSpanned l.module l.space.rows r l.index;
}

use Rattle.std.proofs.Common.{◌<◌, ◌≤◌, ℕ, length}
use Rattle.axe_spin.specs.Spaces.{IsEnlarged, AreImagesSpanned}
use Rattle.axe_spin.proofs.generated.take_images_from.Given as goal

abbrev pub invariant-loop : goal.invariant-loop
invariant-loop l = record {
  enlarged : IsEnlarged l.module l.fn.space l.space;
  steps : l.counter ≤ l.taken;
  within : l.taken ≤ length l.space.rows;
  images : (r : ℕ) → r < l.taken → AreImagesSpanned l.module l.space.rows r (length l.module.generators);
}

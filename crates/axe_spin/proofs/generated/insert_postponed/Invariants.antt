use Rattle.std.proofs.Common.{◌<◌, ℕ, length}
use Rattle.axe_spin.specs.Spaces.{IsEnlarged, AreImagesSpanned}
use Rattle.axe_spin.proofs.generated.insert_postponed.Given as goal

abbrev pub invariant-loop-source : goal.invariant-loop-source
invariant-loop-source l = record {
  enlarged : IsEnlarged l.module l.fn.space l.space;
  done : (r : ℕ) → r < l.source → AreImagesSpanned l.module l.space.rows r (length l.module.generators);
}

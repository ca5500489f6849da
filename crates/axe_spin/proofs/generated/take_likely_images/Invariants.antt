use Rattle.std.proofs.Common.{◌≡◌, ◌≤◌, length}
use Rattle.axe_spin.specs.Spaces.{IsEnlarged}
use Rattle.axe_spin.specs.Postponed.{AreTakenBut}
use Rattle.axe_spin.proofs.generated.take_likely_images.Given as goal

abbrev pub invariant-loop-source : goal.invariant-loop-source
invariant-loop-source l = record {
  enlarged : IsEnlarged l.module l.fn.space l.space;
  count : length l.postponed.items ≡ l.source;
  within : l.source ≤ length l.space.rows;
  taken : AreTakenBut l.module l.space.rows l.postponed.items;
}

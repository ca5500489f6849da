use Rattle.std.proofs.Common.{◌≡◌, ◌/◌, ◌%◌, ◌^◌, ◌<◌, ℕ}
use Rattle.axe_poly.specs.Lanes.{lane_base, meaning}
use Rattle.axe_poly.proofs.windows.are_zeros.Given as goal

abbrev pub invariant-loop-index : goal.invariant-loop-index
invariant-loop-index l = record {
  left_is : l.left ≡ l.word / lane_base l.field ^ l.index;
  zeros : (j : ℕ) → j < l.index → meaning l.field (l.word / lane_base l.field ^ j % lane_base l.field) ≡ 0;
}

use Rattle.std.proofs.Common.{◌≡◌, ◌^◌}
use Rattle.axe_poly.specs.Lanes.{lane_base, packed, term}
use Rattle.axe_poly.proofs.windows.multiple.Given as goal

abbrev pub invariant-loop-index : goal.invariant-loop-index
invariant-loop-index l = record {
  word : l.word ≡ packed (lane_base l.field) l.index (term l.field l.divisor l.constant);
  place : l.place ≡ lane_base l.field ^ l.index;
}

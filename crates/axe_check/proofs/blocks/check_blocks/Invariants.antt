use Rattle.std.proofs.Common.{◌≡◌}
use Rattle.axe_algebra.specs.Blocks.{block_start}
use Rattle.axe_series.specs.Series.{sizes_of_places}
use Rattle.axe_check.proofs.PlaceLaws.{HasBlocksTo}
use Rattle.axe_check.proofs.blocks.check_blocks.Given as goal

abbrev pub invariant-loop-number : goal.invariant-loop-number
invariant-loop-number l = record {
  start : l.start ≡ block_start (sizes_of_places l.factors l.series) l.number-index;
  has : HasBlocksTo l.conjugates l.factors l.series l.number-index;
}

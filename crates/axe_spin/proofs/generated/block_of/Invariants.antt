use Rattle.std.proofs.Common.{◌≡◌, ◌-◌, ◌≤◌}
use Rattle.axe_matrix.specs.Matrices.{IsMatrix}
use Rattle.axe_spin.specs.Blocks.{block_of_rows}
use Rattle.axe_spin.proofs.generated.block_of.Given as goal

abbrev pub invariant-loop-index : goal.invariant-loop-index
invariant-loop-index l = record {
  begun : l.source ≤ l.index;
  block : l.block ≡ block_of_rows l.space l.source (l.index - l.source);
  well_formed : IsMatrix l.block;
}

use Rattle.std.proofs.Common.{◌≡◌, take}
use Rattle.std.specs.List.{All}
use Rattle.axe_matrix.specs.Matrices.{IsMatrix}
use Rattle.axe_check.proofs.shapes.module_of.Given as goal

abbrev pub invariant-loop-matrix : goal.invariant-loop-matrix
invariant-loop-matrix l = record {
  copied : l.copies.items ≡ take l.matrix-index l.matrices;
  formed : All IsMatrix l.copies.items;
}

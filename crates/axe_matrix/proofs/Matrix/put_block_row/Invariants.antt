use Rattle.std.proofs.Common.{◌+◌, ◌*◌}
use Rattle.axe_matrix.specs.Matrices.{IsMatrix}
use Rattle.axe_matrix.specs.Transposes.{HasTransposed}
use Rattle.axe_matrix.proofs.Matrix.put_block_row.Given as goal

abbrev pub invariant-loop-column_block : goal.invariant-loop-column_block
invariant-loop-column_block l = record {
  part : HasTransposed l.power l.matrix (l.row_block * 64) (l.row_block * 64 + 64) 0 (l.column_block * 64) l.fn.self l.self;
  well_formed : IsMatrix l.self;
}

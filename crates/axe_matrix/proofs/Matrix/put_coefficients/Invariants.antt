use Rattle.std.proofs.Common.{◌*◌}
use Rattle.axe_matrix.specs.Matrices.{IsMatrix}
use Rattle.axe_matrix.specs.Transposes.{HasTransposed}
use Rattle.axe_matrix.proofs.Matrix.put_coefficients.Given as goal

abbrev pub invariant-loop-row_block : goal.invariant-loop-row_block
invariant-loop-row_block l = record {
  part : HasTransposed l.power l.matrix 0 (l.row_block * 64) 0 l.fn.self.cols l.fn.self l.self;
  well_formed : IsMatrix l.self;
}

use Rattle.std.proofs.Common.{◌+◌, ◌*◌}
use Rattle.axe_matrix.specs.Matrices.{IsMatrix}
use Rattle.axe_matrix.specs.Transposes.{HasCoefficients}
use Rattle.axe_matrix.proofs.TransposedBlocks.{digits_from}
use Rattle.axe_matrix.proofs.Matrix.put_words.Given as goal

abbrev pub invariant-loop-index : goal.invariant-loop-index
invariant-loop-index l = record {
  part : HasCoefficients l.power (digits_from (l.row_block * 64) l.ones l.twos) (l.row_block * 64) l.index (l.at * 64) (l.at * 64 + 64) l.fn.self l.self;
  well_formed : IsMatrix l.self;
}

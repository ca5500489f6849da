use Rattle.std.proofs.Common.{◌*◌}
use Rattle.axe_matrix.specs.Transposes.{coefficients_of}
use Rattle.axe_matrix.proofs.TransposedBlocks.{HaveWordsBelow}
use Rattle.axe_matrix.proofs.lines.Lines.words_of_block.Given as goal

abbrev pub invariant-loop-index : goal.invariant-loop-index
invariant-loop-index l = HaveWordsBelow (coefficients_of l.power l.self) (l.row_block * 64) l.at l.index l.ones l.twos

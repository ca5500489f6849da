use Rattle.std.proofs.Common.{◌*◌, ◌≤◌, length, sym, arith}
use Rattle.axe_matrix.proofs.CoefficientWrites.{length-coefficients, HasCoefficients-no_row, HasCoefficients-count, HasCoefficients-all_rows}
use Rattle.axe_matrix.proofs.TransposedBlocks.{IsShapedAsTranspose-after, zeros_after_rows, HasTransposed-row_block}
use Rattle.axe_matrix.proofs.Matrix.put_coefficients.Goals as goal

pub loop-row_block-init : goal.loop-row_block-init
loop-row_block-init c = record {
  part = HasCoefficients-no_row _ _ _ _ _ c.args.self.now;
  well_formed = c.rows.ensures.well_formed;
}

pub put_block_row-requires-clause-shape : goal.put_block_row-requires-clause-shape
put_block_row-requires-clause-shape c =
    IsShapedAsTranspose-after _ _ _ _ _ _ _ c.args.self.now _ c.loop-row_block.invariant.part c.requires.shape

pub put_block_row-requires-clause-within : goal.put_block_row-requires-clause-within
put_block_row-requires-clause-within c =
    omega (arith, c.loop-row_block-test.true, c.div_ceil-row_block-end.ensures, c.rows.ensures.count, HasCoefficients-count _ _ _ _ _ _ _ _ c.loop-row_block.invariant.part)

pub put_block_row-requires-clause-zeros : goal.put_block_row-requires-clause-zeros
put_block_row-requires-clause-zeros c =
    zeros_after_rows _ _ _ _ _ _ _ _ c.loop-row_block.invariant.part.power (sym (length-coefficients c.args.power c.args.self.now)) c.requires.zeros

pub loop-row_block-preserved : goal.loop-row_block-preserved
loop-row_block-preserved c = record {
  part = HasTransposed-row_block _ c.args.matrix.now _ _ _ c.loop-row_block.row_block c.loop-row_block.invariant.part c.put_block_row.ensures.transposed;
  well_formed = c.put_block_row.ensures.well_formed;
}

pub returns-clause-transposed : goal.returns-clause-transposed
returns-clause-transposed c =
    let all : length c.args.self.now.rows ≤ c.loop-row_block.row_block * 64 =
    omega (arith, c.loop-row_block-test.false, c.div_ceil-row_block-end.ensures, c.rows.ensures.count) in
    HasCoefficients-all_rows _ _ _ _ _ _ c.args.self.now _ c.loop-row_block.invariant.part all

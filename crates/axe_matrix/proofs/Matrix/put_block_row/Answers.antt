use Rattle.std.proofs.Common.{arith}
use Rattle.axe_matrix.proofs.CoefficientWrites.{HasCoefficients-no_column, HasCoefficients-right, HasCoefficients-count}
use Rattle.axe_matrix.proofs.TransposedBlocks.{IsShapedAsTranspose-after, zeros_after_columns, HasTransposed-column_block}
use Rattle.axe_matrix.proofs.Matrix.put_block_row.Goals as goal

pub loop-column_block-init : goal.loop-column_block-init
loop-column_block-init c = record {
  part = HasCoefficients-no_column _ _ _ _ _ c.args.self.now;
  well_formed = c.cols.ensures.well_formed;
}

pub put_block-requires-clause-shape : goal.put_block-requires-clause-shape
put_block-requires-clause-shape c =
    IsShapedAsTranspose-after _ _ _ _ _ _ _ c.args.self.now _ c.loop-column_block.invariant.part c.requires.shape

pub put_block-requires-clause-row : goal.put_block-requires-clause-row
put_block-requires-clause-row c = omega (arith, c.requires.within, HasCoefficients-count _ _ _ _ _ _ _ _ c.loop-column_block.invariant.part)

pub put_block-requires-clause-column : goal.put_block-requires-clause-column
put_block-requires-clause-column c =
    omega (arith, c.loop-column_block-test.true, c.div_ceil-column_block-end.ensures, c.cols.ensures.count, c.loop-column_block.invariant.part.power.cols)

pub put_block-requires-clause-zeros : goal.put_block-requires-clause-zeros
put_block-requires-clause-zeros c =
    zeros_after_columns _ _ _ _ _ _ _ c.loop-column_block.invariant.part.power c.requires.zeros

pub loop-column_block-preserved : goal.loop-column_block-preserved
loop-column_block-preserved c = record {
  part = HasTransposed-column_block _ c.args.matrix.now _ _ _ _ _ c.loop-column_block.column_block c.loop-column_block.invariant.part c.put_block.ensures.transposed;
  well_formed = c.put_block.ensures.well_formed;
}

pub returns-clause-transposed : goal.returns-clause-transposed
returns-clause-transposed c =
    HasCoefficients-right _ _ _ _ _ _ c.args.self.now _ c.loop-column_block.invariant.part
    (omega (arith, c.loop-column_block-test.false, c.div_ceil-column_block-end.ensures, c.cols.ensures.count))

pub returns-clause-well_formed : goal.returns-clause-well_formed
returns-clause-well_formed c = c.loop-column_block.invariant.well_formed

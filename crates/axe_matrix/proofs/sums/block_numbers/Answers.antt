use Rattle.std.proofs.Common.{arith}
use Rattle.axe_matrix.proofs.PieceLaws.{AreBlockNumbersBelow-none, AreBlockNumbersBelow-more, AreBlockNumbersBelow-all}
use Rattle.axe_matrix.proofs.sums.block_numbers.Goals as goal

pub loop-column-init : goal.loop-column-init
loop-column-init c = AreBlockNumbersBelow-none _ _ _ c.in_ok-blocks.ensures.items

pub loop-column-preserved : goal.loop-column-preserved
loop-column-preserved c =
    AreBlockNumbersBelow-more _ _ _ _ _ _ c.loop-column.invariant c.in_ok-push.ensures.items
    c.in_ok-numbers.ensures.numbers

pub loop-column-smaller : goal.loop-column-smaller
loop-column-smaller c = omega (arith, c.loop-column-test.true, c.cols-in-loop-column.ensures.count, c.requires.some)

pub returns : goal.returns
returns c = record {
  numbers =
      AreBlockNumbersBelow-all _ _ _ _ c.loop-column.invariant
      (omega (arith, c.loop-column-test.false, c.cols-in-loop-column.ensures.count));
}

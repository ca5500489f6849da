use Rattle.std.proofs.Common.{◌≡◌, ◌+◌, ◌*◌, true, arith}
use Rattle.axe_lane.proofs.ZeroLaws.{zeros_more}
use Rattle.axe_lane.proofs.words.zero_words.Goals as goal

pub loop-block-preserved : goal.loop-block-preserved
loop-block-preserved c =
    let is_zero : c.is_zero_block-is_zero.result ≡ true = c.if-not-is_zero.false in
    zeros_more (c.loop-block.block * 8) 8 ((c.loop-block.block + 1) * 8) c.args.words.now (omega arith) c.loop-block.invariant (c.is_zero_block-is_zero.ensures is_zero)

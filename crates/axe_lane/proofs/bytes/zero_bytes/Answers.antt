use Rattle.std.proofs.Common.{◌≡◌, ◌+◌, ◌*◌, true, arith}
use Rattle.axe_lane.proofs.ZeroLaws.{zeros_more}
use Rattle.axe_lane.proofs.bytes.zero_bytes.Goals as goal

pub loop-block-preserved : goal.loop-block-preserved
loop-block-preserved c =
    let is_zero : c.is_zero_block-is_zero.result ≡ true = c.if-not-is_zero.false in
    zeros_more (c.loop-block.block * 32) 32 ((c.loop-block.block + 1) * 32) c.args.bytes.now (omega arith) c.loop-block.invariant (c.is_zero_block-is_zero.ensures is_zero)

use Rattle.std.proofs.Common.{arith}
use Rattle.axe_row.proofs.BitBlockLaws.{zeros_marked}
use Rattle.axe_row.proofs.bit_block.places_of_bit.Goals as goal

pub returns-else-bit-eq1 : goal.returns-else-bit-eq1
returns-else-bit-eq1 c = λ small i low. zeros_marked c.args.word c.args.bit i (omega arith) small c.if-bit-eq1.false low

use Rattle.std.proofs.Common.{arith}
use Rattle.std.proofs.lemmas.Grind.{common_steps}
use Rattle.axe_bits.proofs.bits.BitPlane.of_numbers.Goals as goal

pub returns : goal.returns
returns c = grind (arith, common_steps)

use Rattle.std.proofs.Common.{arith}
use Rattle.axe_layer.proofs.parts.add_spread.Goals as goal

pub returns-then-numbers-eq-WORD-clause-sums : goal.returns-then-numbers-eq-WORD-clause-sums
returns-then-numbers-eq-WORD-clause-sums c i low = omega (arith, c.add_bits.ensures.sums i (omega (arith, low, c.if-numbers-eq-WORD.true)), c.requires.small i low)

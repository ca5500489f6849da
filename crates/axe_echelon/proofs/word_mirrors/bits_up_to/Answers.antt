use Rattle.axe_echelon.proofs.ReversedBits.{bits_of_first, bits_of_second}
use Rattle.axe_echelon.proofs.word_mirrors.bits_up_to.Goals as goal

pub returns-clause-first : goal.returns-clause-first
returns-clause-first c = bits_of_first c.args.first c.args.second c.args.last

pub returns-clause-second : goal.returns-clause-second
returns-clause-second c = λ i. bits_of_second c.args.first c.args.second c.args.last i c.ranges.first.fits c.requires

use Rattle.axe_file.proofs.Unpacking.{unpacked_packed}
use Rattle.axe_file.proofs.Spellings.{packed_faultless}
use Rattle.axe_file.proofs.laws.spellings_are_read.Goals as goal

pub returns-clause-faultless : goal.returns-clause-faultless
returns-clause-faultless c = packed_faultless

pub returns-clause-matrix : goal.returns-clause-matrix
returns-clause-matrix c = unpacked_packed

use Rattle.axe_file.proofs.Spellings.{packed_within}
use Rattle.axe_file.proofs.laws.spellings_keep_the_limit.Goals as goal

pub returns : goal.returns
returns c = packed_within

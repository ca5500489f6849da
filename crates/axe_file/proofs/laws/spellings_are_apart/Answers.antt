use Rattle.axe_file.proofs.Spellings.{packed_apart}
use Rattle.axe_file.proofs.laws.spellings_are_apart.Goals as goal

pub returns : goal.returns
returns c = packed_apart

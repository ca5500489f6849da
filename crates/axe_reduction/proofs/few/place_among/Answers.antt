use Rattle.std.proofs.Common.{rules}
use Rattle.axe_reduction.proofs.few.place_among.Goals as goal

pub returns : goal.returns
returns c = search rules

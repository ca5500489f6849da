use Rattle.std.proofs.Common.{rules}
use Rattle.axe_word.proofs.word.all_fit.Goals as goal

pub returns : goal.returns
returns c = search rules

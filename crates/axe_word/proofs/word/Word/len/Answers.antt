use Rattle.std.proofs.Common.{rules}
use Rattle.axe_word.proofs.word.Word.len.Goals as goal

pub returns-clause-count : goal.returns-clause-count
returns-clause-count c = search rules

pub returns-clause-well_formed : goal.returns-clause-well_formed
returns-clause-well_formed c = search rules

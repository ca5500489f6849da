use Rattle.std.proofs.Common.{arith}
use Rattle.std.proofs.lemmas.Grind.{common_steps}
use Rattle.axe_word.proofs.word.Word.term.Goals as goal

pub returns-clause-coefficient : goal.returns-clause-coefficient
returns-clause-coefficient c = grind (arith, common_steps)

pub returns-clause-numbers : goal.returns-clause-numbers
returns-clause-numbers c = grind (arith, common_steps)

use Rattle.axe_execute.proofs.OneMeaning.{some_meaning, at_most_one_meaning}
use Rattle.axe_execute.proofs.laws.commands_have_one_meaning.Goals as goal

pub returns-clause-some : goal.returns-clause-some
returns-clause-some c = some_meaning

pub returns-clause-only : goal.returns-clause-only
returns-clause-only c = at_most_one_meaning

use Rattle.std.proofs.Common.{rules}
use Rattle.axe_check.proofs.checking.check.Goals as goal

pub returns-in-Err-Because-clause-answer : goal.returns-in-Err-Because-clause-answer
returns-in-Err-Because-clause-answer c = search rules

pub returns-in-Ok-clause-answer : goal.returns-in-Ok-clause-answer
returns-in-Ok-clause-answer c = search rules

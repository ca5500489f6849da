use Rattle.axe_check.proofs.SomeReason.{some_answer}
use Rattle.axe_check.proofs.laws.certificates_have_an_answer.Goals as goal

pub returns : goal.returns
returns c = some_answer

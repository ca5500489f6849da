use Rattle.axe_check.proofs.OneReason.{one_reason}
use Rattle.axe_check.proofs.RightCertificates.{no_reason}
use Rattle.axe_check.proofs.laws.certificates_have_one_answer.Goals as goal

pub returns-clause-certified : goal.returns-clause-certified
returns-clause-certified c = no_reason

pub returns-clause-reason : goal.returns-clause-reason
returns-clause-reason c = one_reason

use Rattle.axe_algebra.specs.Bridge.{field_of}
use Rattle.axe_algebra.proofs.Quotients.{quotient_action_exists, quotient_size_is_unique, quotient_action_is_unique}
use Rattle.axe_algebra.proofs.modules.span_has_one_quotient_action.Goals as goal

pub returns-clause-some : goal.returns-clause-some
returns-clause-some c K = quotient_action_exists (field_of K)

pub returns-clause-size : goal.returns-clause-size
returns-clause-size c K = quotient_size_is_unique (field_of K)

pub returns-clause-only : goal.returns-clause-only
returns-clause-only c K = quotient_action_is_unique (field_of K)

use Rattle.axe_algebra.specs.Bridge.{field_of}
use Rattle.axe_algebra.proofs.SubActions.{sub_action_exists, sub_action_is_unique}
use Rattle.axe_algebra.proofs.modules.rows_have_one_sub_action.Goals as goal

pub returns-clause-some : goal.returns-clause-some
returns-clause-some c K = sub_action_exists (field_of K)

pub returns-clause-only : goal.returns-clause-only
returns-clause-only c K = sub_action_is_unique (field_of K)

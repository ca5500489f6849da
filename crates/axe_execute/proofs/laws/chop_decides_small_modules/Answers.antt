use Rattle.axe_execute.proofs.ChopLaws.{small_module_has_plan, small_module_is_decided}
use Rattle.axe_execute.proofs.laws.chop_decides_small_modules.Goals as goal

pub returns-clause-plan : goal.returns-clause-plan
returns-clause-plan c = small_module_has_plan

pub returns-clause-decided : goal.returns-clause-decided
returns-clause-decided c = small_module_is_decided

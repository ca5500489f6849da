use Rattle.std.proofs.Common.{ap, subst}
use Rattle.axe_spin.specs.Modules.{ModuleValue, IsModule}
use Rattle.axe_spin.proofs.module.Module.field.Goals as goal

pub returns-clause-order : goal.returns-clause-order
returns-clause-order c = ap (λ (m : ModuleValue). m.order) c.self.view_is

pub returns-clause-well_formed : goal.returns-clause-well_formed
returns-clause-well_formed c = subst IsModule c.self.view_is c.self.invariant.well_formed

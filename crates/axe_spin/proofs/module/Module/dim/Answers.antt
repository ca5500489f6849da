use Rattle.std.proofs.Common.{ap, subst}
use Rattle.axe_spin.specs.Modules.{ModuleValue, IsModule}
use Rattle.axe_spin.proofs.module.Module.dim.Goals as goal

pub returns-clause-count : goal.returns-clause-count
returns-clause-count c = ap (λ (m : ModuleValue). m.dim) c.self.view_is

pub returns-clause-well_formed : goal.returns-clause-well_formed
returns-clause-well_formed c = subst IsModule c.self.view_is c.self.invariant.well_formed

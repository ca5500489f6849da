use Rattle.std.proofs.Common.{subst, ap, All}
use Rattle.axe_spin.specs.Modules.{ModuleValue, IsModule}
use Rattle.axe_spin.specs.Generators.{IsGeneratorMatrix}
use Rattle.axe_spin.proofs.module.Module.into_generators.Goals as goal

pub returns-clause-generators : goal.returns-clause-generators
returns-clause-generators c = ap (λ (m : ModuleValue). m.generators) c.self.view_is

pub returns-clause-each : goal.returns-clause-each
returns-clause-each c =
    subst (λ (m : ModuleValue). All (IsGeneratorMatrix m.order m.dim) c.self.inside.generators.items) c.self.view_is
    c.self.invariant.each

pub returns-clause-well_formed : goal.returns-clause-well_formed
returns-clause-well_formed c = subst IsModule c.self.view_is c.self.invariant.well_formed

use Rattle.std.proofs.Common.{[], get_or, ◌≡◌}
use Rattle.axe_algebra.specs.ListArithmetic.{transpose}
use Rattle.axe_action.proofs.GeneratorLists.{AreNewGenerators}
use Rattle.axe_action.proofs.duals.dual.Given as goal

abbrev pub invariant-loop-index : goal.invariant-loop-index
invariant-loop-index l =
    AreNewGenerators l.module.order l.module.dim (λ i rows. rows ≡ transpose l.module.dim (get_or l.module.generators i [])) l.index l.transposes.items

use Rattle.std.proofs.Common.{length}
use Rattle.axe_action.proofs.GeneratorLists.{AreNewGenerators}
use Rattle.axe_action.proofs.SubRows.{IsActionOf}
use Rattle.axe_action.proofs.subspaces.action_on_basis.Given as goal

abbrev pub invariant-loop-number : goal.invariant-loop-number
invariant-loop-number l = AreNewGenerators l.module.order (length l.basis.rows) (IsActionOf l.module l.basis.rows) l.number l.actions.items

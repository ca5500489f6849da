use Rattle.std.proofs.Common.{length}
use Rattle.axe_action.proofs.GeneratorLists.{AreNewGenerators}
use Rattle.axe_action.proofs.QuotientRows.{IsQuotientOf}
use Rattle.axe_action.proofs.quotients.action_modulo.Given as goal

abbrev pub invariant-loop-number : goal.invariant-loop-number
invariant-loop-number l = AreNewGenerators l.module.order (length l.columns) (IsQuotientOf l.module l.rows l.columns) l.number l.actions.items

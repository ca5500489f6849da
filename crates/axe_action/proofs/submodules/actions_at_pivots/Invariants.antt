use Rattle.std.proofs.Common.{◌++◌, length}
use Rattle.std.specs.Vec.Iter.{into_iter_items}
use Rattle.axe_action.proofs.GeneratorLists.{AreNewGenerators, AreGeneratorsOf}
use Rattle.axe_action.proofs.SubRows.{IsActionOf}
use Rattle.axe_action.proofs.QuotientRows.{IsQuotientOf}
use Rattle.axe_action.proofs.submodules.actions_at_pivots.Given as goal

abbrev pub invariant-loop-generator : goal.invariant-loop-generator
invariant-loop-generator l = record {
  left : AreGeneratorsOf l.fn.module (l.yielded ++ into_iter_items l.generator-iterator);
  subs : AreNewGenerators l.fn.module.order (length l.rows.rows) (IsActionOf l.fn.module l.rows.rows) (length l.yielded) l.actions.subs.items;
  quotients : AreNewGenerators l.fn.module.order (length l.columns) (IsQuotientOf l.fn.module l.rows l.columns) (length l.yielded) l.actions.quotients.items;
}

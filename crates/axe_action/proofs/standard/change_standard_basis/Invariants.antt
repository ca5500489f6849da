use Rattle.std.proofs.Common.{◌++◌, length}
use Rattle.std.specs.Vec.Iter.{into_iter_items}
use Rattle.axe_action.proofs.ChangedBases.{IsConjugateOf}
use Rattle.axe_action.proofs.GeneratorLists.{AreGeneratorsOf, AreNewGenerators}
use Rattle.axe_action.proofs.standard.change_standard_basis.Given as goal

abbrev pub invariant-loop-generator : goal.invariant-loop-generator
invariant-loop-generator l = record {
  left : AreGeneratorsOf l.fn.module (l.yielded ++ into_iter_items l.generator-iterator);
  conjugates : AreNewGenerators l.fn.module.order l.fn.module.dim (IsConjugateOf l.fn.module l.basis) (length l.yielded) l.conjugates.items;
}

use Rattle.std.proofs.Common.{◌≡◌, ◌≤◌, IfSome}
use Rattle.axe_norton.specs.Misfits.{IsBasisLike}
use Rattle.axe_norton.proofs.FactorLaws.{NoneUpTo}
use Rattle.axe_norton.proofs.factors.first_fitting_divisor.Given as goal

abbrev pub invariant-loop-below : goal.invariant-loop-below
invariant-loop-below l = record {
  field : l.table.order ≡ l.matrix.order;
  reached : l.below ≤ l.table.degree;
  none : NoneUpTo l.matrix l.first.minimal l.below;
  second : IfSome l.second (IsBasisLike l.matrix);
}

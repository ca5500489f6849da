use Rattle.std.proofs.Common.{IfSome}
use Rattle.axe_norton.specs.Misfits.{IsBasisLike}
use Rattle.axe_norton.proofs.FactorLaws.{NoneBefore}
use Rattle.axe_norton.proofs.factors.first_that_fits.Given as goal

abbrev pub invariant-loop-index : goal.invariant-loop-index
invariant-loop-index l = record {
  none : NoneBefore l.matrix l.polys l.index;
  second : IfSome l.second (IsBasisLike l.matrix);
}

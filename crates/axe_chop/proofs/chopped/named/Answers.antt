use Rattle.std.proofs.Common.{refl}
use Rattle.std.proofs.lemmas.Result.{IfOk-from_err}
use Rattle.axe_echelon.proofs.Exits.{no_memory}
use Rattle.axe_chop.proofs.chopped.named.Goals as goal

pub returns-clause-named : goal.returns-clause-named
returns-clause-named c = record {
  rows = refl;
  factors = rw c.deref.ensures.value at c.in_ok-factors.ensures;
  series = refl;
}

pub returns-clause-basis : goal.returns-clause-basis
returns-clause-basis c = refl

pub returns-in_err-factors-clause-named : goal.returns-in_err-factors-clause-named
returns-in_err-factors-clause-named c =
    no_memory _ c.from_residual.result _ c.from_residual.ensures.1 c.in_err-factors.ensures

pub returns-in_err-factors-clause-basis : goal.returns-in_err-factors-clause-basis
returns-in_err-factors-clause-basis c =
    IfOk-from_err c.from_residual.result _ c.from_residual.ensures.0

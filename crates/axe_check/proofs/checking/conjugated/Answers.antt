use Rattle.axe_check.proofs.OneConjugate.{basis_of_conjugate}
use Rattle.axe_check.proofs.checking.conjugated.Goals as goal

pub returns-in-Ok-clause-conjugates : goal.returns-in-Ok-clause-conjugates
returns-in-Ok-clause-conjugates c =
    basis_of_conjugate c.args.module.now c.args.basis.now _ c.in-Ok.conjugates c.dim.ensures.well_formed c.in-Ok.ensures.conjugate

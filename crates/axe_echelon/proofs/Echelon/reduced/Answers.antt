use Rattle.std.proofs.Common.{subst}
use Rattle.axe_echelon.specs.Echelons.{EchelonValue, IsReducedMatrix}
use Rattle.axe_echelon.proofs.Exits.{answers_more}
use Rattle.axe_echelon.proofs.InsertedRows.{reduced_by_inserted}
use Rattle.axe_echelon.proofs.StepLaws.{echelon_of_steps}
use Rattle.axe_echelon.proofs.Echelon.reduced.Goals as goal

pub returns-clause-basis : goal.returns-clause-basis
returns-clause-basis c = answers_more c.reduced.result _ _ c.reduced.ensures.basis
    (λ m basis. subst (λ (e : EchelonValue). IsReducedMatrix e m) c.self.view_is (reduced_by_inserted _ _ c.self.invariant m basis))

pub returns-clause-well_formed : goal.returns-clause-well_formed
returns-clause-well_formed c = rw (← c.self.view_is) (echelon_of_steps _ _ c.self.invariant)

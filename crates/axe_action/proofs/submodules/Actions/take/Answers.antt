use Rattle.std.proofs.Common.{◌++◌, ◌∷◌, [], ap, ◌∙◌, subst}
use Rattle.axe_matrix.specs.Matrices.{IsMatrix}
use Rattle.axe_echelon.proofs.Exits.{no_memory}
use Rattle.axe_action.proofs.submodules.Actions.take.Goals as goal

pub returns-in_err-sub-clause-sub : goal.returns-in_err-sub-clause-sub
returns-in_err-sub-clause-sub c = no_memory _ c.from_residual.result _ c.from_residual.ensures.1 c.in_err-sub.ensures.sub

pub returns-in_err-sub-clause-quotient : goal.returns-in_err-sub-clause-quotient
returns-in_err-sub-clause-quotient c = no_memory _ c.from_residual.result _ c.from_residual.ensures.1 c.in_err-sub.ensures.sub

pub returns-clause-sub : goal.returns-clause-sub
returns-clause-sub c = c.in_ok-push.ensures.items ∙ ap (λ m. c.args.self.now.subs.items ++ m ∷ []) c.in_ok-sub.ensures.sub

pub returns-clause-quotient : goal.returns-clause-quotient
returns-clause-quotient c = c.in_ok-push-2.ensures.items ∙ ap (λ m. c.args.self.now.quotients.items ++ m ∷ []) c.in_ok-sub.ensures.quotient

pub returns-clause-well_formed : goal.returns-clause-well_formed
returns-clause-well_formed c = (
  subst IsMatrix c.in_ok-sub.ensures.sub c.in_ok-sub.ensures.well_formed.0,
  subst IsMatrix c.in_ok-sub.ensures.quotient c.in_ok-sub.ensures.well_formed.1,
)

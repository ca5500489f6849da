use Rattle.std.proofs.Common.{◌≡◌, length, sym, ◌∙◌, arith}
use Rattle.axe_echelon.proofs.Exits.{answers_more, answers_if_ok}
use Rattle.axe_echelon.proofs.WholeSpace.{identity_is_reduced}
use Rattle.axe_echelon.proofs.subspace.Subspace.reduced.Goals as goal

pub returns-then-dim-cols-clause-basis : goal.returns-then-dim-cols-clause-basis
returns-then-dim-cols-clause-basis c =
    let full : length c.args.self.now.rows ≡ c.args.self.now.cols = sym c.dim.ensures.count ∙ c.if-dim-cols.true ∙ c.cols.ensures.count in
    answers_more c.identity.result _ _ c.identity.ensures.identity
    (λ m is. identity_is_reduced c.args.self.now m _ _ c.dim.ensures.well_formed c.field.ensures.order c.cols-then-dim-cols.ensures.count full is)

pub returns-then-dim-cols-clause-matrix_well_formed : goal.returns-then-dim-cols-clause-matrix_well_formed
returns-then-dim-cols-clause-matrix_well_formed c = answers_if_ok c.identity.result _ _ c.identity.ensures.identity c.identity.ensures.well_formed

pub returns-then-dim-cols-clause-well_formed : goal.returns-then-dim-cols-clause-well_formed
returns-then-dim-cols-clause-well_formed c = c.dim.ensures.well_formed

pub identity-requires-clause-some_row : goal.identity-requires-clause-some_row
identity-requires-clause-some_row c = omega (arith, c.cols-then-dim-cols.ensures.count, c.dim.ensures.well_formed.some_column)

pub returns-clause-basis : goal.returns-clause-basis
returns-clause-basis c = c.reduced_rows.ensures.basis

pub returns-clause-matrix_well_formed : goal.returns-clause-matrix_well_formed
returns-clause-matrix_well_formed c = c.reduced_rows.ensures.matrix_well_formed

pub returns-clause-well_formed : goal.returns-clause-well_formed
returns-clause-well_formed c = c.dim.ensures.well_formed

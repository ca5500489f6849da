use Rattle.std.proofs.Common.{sym, ap, subst, ◌∙◌}
use Rattle.axe_matrix.specs.Matrices.{MatrixValue, IsMatrix}
use Rattle.axe_matrix.proofs.ReversedRows.{lines_of-order, IsMatrix-lines}
use Rattle.axe_matrix.proofs.lines.Lines.field.Goals as goal

pub returns-clause-order : goal.returns-clause-order
returns-clause-order c =
    c.field.ensures.order ∙ sym (lines_of-order c.self.inside.from_last c.self.inside.matrix.now) ∙ ap (λ (m : MatrixValue). m.order) c.self.view_is

pub returns-clause-well_formed : goal.returns-clause-well_formed
returns-clause-well_formed c = subst IsMatrix c.self.view_is (IsMatrix-lines c.self.inside.from_last _ c.field.ensures.well_formed)

use Rattle.std.proofs.Common.{◌≡◌, sym, ap, subst, ◌∙◌, arith, rules}
use Rattle.axe_matrix.specs.Matrices.{MatrixValue, IsMatrix}
use Rattle.axe_matrix.proofs.ReversedRows.{lines_of-cols, IsMatrix-lines}
use Rattle.axe_matrix.proofs.lines.Lines.cols.Goals as goal

pub returns-clause-count : goal.returns-clause-count
returns-clause-count c =
    let same : c.self.inside.matrix.now.cols ≡ c.args.self.now.cols =
    sym (lines_of-cols c.self.inside.from_last c.self.inside.matrix.now) ∙ ap (λ (m : MatrixValue). m.cols) c.self.view_is in
    omega (arith, same)

pub returns-clause-well_formed : goal.returns-clause-well_formed
returns-clause-well_formed c = subst IsMatrix c.self.view_is (IsMatrix-lines c.self.inside.from_last c.self.inside.matrix.now (search rules))

use Rattle.std.proofs.Common.{◌≡◌, length, sym, ap, subst, ◌∙◌, arith, rules}
use Rattle.axe_matrix.specs.Matrices.{MatrixValue, IsMatrix}
use Rattle.axe_matrix.proofs.ReversedRows.{lines_of-count, IsMatrix-lines}
use Rattle.axe_matrix.proofs.lines.Lines.rows.Goals as goal

pub returns-clause-count : goal.returns-clause-count
returns-clause-count c =
    let same : length c.self.inside.matrix.now.rows ≡ length c.args.self.now.rows =
    sym (lines_of-count c.self.inside.from_last c.self.inside.matrix.now) ∙ ap (λ (m : MatrixValue). length m.rows) c.self.view_is in
    omega (arith, same)

pub returns-clause-well_formed : goal.returns-clause-well_formed
returns-clause-well_formed c = subst IsMatrix c.self.view_is (IsMatrix-lines c.self.inside.from_last c.self.inside.matrix.now (search rules))

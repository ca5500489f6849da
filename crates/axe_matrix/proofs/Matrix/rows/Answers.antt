use Rattle.std.proofs.Common.{◌≡◌, length, sym, ap, ◌∙◌, arith}
use Rattle.std.proofs.lemmas.List.{length-map}
use Rattle.axe_row.specs.Rows.{RowValue}
use Rattle.axe_matrix.specs.Matrices.{MatrixValue}
use Rattle.axe_matrix.proofs.Matrix.rows.Goals as goal

pub returns-clause-count : goal.returns-clause-count
returns-clause-count c =
    let same : length c.args.self.now.rows ≡ length c.self.inside.rows.items =
    ap (λ (m : MatrixValue). length m.rows) (sym c.self.view_is) ∙ length-map c.self.inside.rows.items (λ (row : RowValue). row.entries) in
    omega (arith, same, c.self.inside.rows.ok.0)

use Rattle.std.proofs.Common.{ap, get_or, ◌∙◌}
use Rattle.axe_row.specs.Rows.{RowValue}
use Rattle.axe_matrix.proofs.Matrix.get.Goals as goal

-- the row's entry is the matrix's
pub returns-clause-value : goal.returns-clause-value
returns-clause-value c = c.get.ensures.entry ∙ ap (λ (row : RowValue). get_or row.entries c.args.column 0) c.row.ensures.value

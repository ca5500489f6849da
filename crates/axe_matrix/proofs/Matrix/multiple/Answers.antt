use Rattle.std.proofs.Common.{length, sym, ap, ◌∙◌}
use Rattle.axe_algebra.proofs.ListEntries.{table_length}
use Rattle.axe_matrix.specs.Matrices.{MatrixValue}
use Rattle.axe_matrix.specs.Multiples.{matrix_with_multiple}
use Rattle.axe_matrix.proofs.ScaledFactors.{zero_with_multiple}
use Rattle.axe_matrix.proofs.Matrix.multiple.Goals as goal

pub add_scaled-requires-clause-rows_fit : goal.add_scaled-requires-clause-rows_fit
add_scaled-requires-clause-rows_fit c =
    sym (ap (λ (m : MatrixValue). length m.rows) c.in_ok-multiple.ensures.zeros ∙ table_length _ _ _ ∙ c.rows.ensures.count)

pub returns-clause-multiple : goal.returns-clause-multiple
returns-clause-multiple c =
    c.add_scaled.ensures.sum
    ∙ ap (λ m. matrix_with_multiple m c.args.scalar c.args.self.now) c.in_ok-multiple.ensures.zeros
    ∙ zero_with_multiple _ _ _ c.args.scalar c.args.self.now c.field.ensures.well_formed c.field.ensures.order c.rows.ensures.count c.cols.ensures.count c.requires.element

use Rattle.axe_matrix.specs.Matrices.{matrix_product}
use Rattle.axe_chop.specs.Vectors.{matrix_of_unit_vectors}
use Rattle.axe_chop.proofs.Choosing.{AreFirstRows}
use Rattle.axe_chop.proofs.lifted.rows_with_entries_at.Given as goal

abbrev pub invariant-loop-index : goal.invariant-loop-index
invariant-loop-index l =
    AreFirstRows (matrix_product l.coordinates (matrix_of_unit_vectors l.coordinates.order l.dim l.columns)) l.index l.product

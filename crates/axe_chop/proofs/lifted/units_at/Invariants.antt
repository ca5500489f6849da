use Rattle.axe_chop.specs.Vectors.{matrix_of_unit_vectors}
use Rattle.axe_chop.proofs.Choosing.{AreFirstRows}
use Rattle.axe_chop.proofs.lifted.units_at.Given as goal

abbrev pub invariant-loop-column : goal.invariant-loop-column
invariant-loop-column l = AreFirstRows (matrix_of_unit_vectors l.field l.dim l.columns) l.column-index l.units

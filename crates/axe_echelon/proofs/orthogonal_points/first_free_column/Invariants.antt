use Rattle.std.proofs.Common.{ℕ, ◌<◌}
use Rattle.axe_algebra.specs.SpansOfLists.{IsPivot}
use Rattle.axe_field.specs.NumberFields.{number_field}
use Rattle.axe_echelon.proofs.orthogonal_points.first_free_column.Given as goal

abbrev pub invariant-loop-column : goal.invariant-loop-column
invariant-loop-column l = (j : ℕ) → j < l.column → IsPivot (number_field l.space.order) l.space.rows j

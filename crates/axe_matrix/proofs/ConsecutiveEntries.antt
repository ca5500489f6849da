-- The entries of a row at consecutive columns are a part of it.
use Rattle.std.specs.Prelude.{◌≡◌, ℕ, ◌+◌, List, length, map, slice_index}
use Rattle.std.proofs.lemmas.List.{length-map, get_or-map}
use Rattle.axe_row.specs.Rows.{RowValue, part_of}
use Rattle.axe_row.proofs.RowLaws.{same_row}
use Rattle.axe_matrix.proofs.VectorLaws.{is_listed}
use Rattle.axe_matrix.specs.ConsecutiveColumns.{AreConsecutive}
use mathlib.Core.Path.{refl, sym, ◌∙◌, ap}

-- the part of a row that begins at the first of consecutive columns, and is as long as they are many
pub part_is : (columns : List ℕ) (row : RowValue) → AreConsecutive columns →
    part_of row (slice_index columns 0) (length columns) ≡ record { order = row.order; entries = map (slice_index row.entries) columns }
part_is columns row consecutive =
    same_row _ _ refl (sym (is_listed (length columns) (λ j. slice_index row.entries (slice_index columns 0 + j)) (map (slice_index row.entries) columns)
    (length-map columns (slice_index row.entries))
    (λ j below. get_or-map (slice_index row.entries) columns j 0 0 below ∙ ap (slice_index row.entries) (consecutive.each j below))))

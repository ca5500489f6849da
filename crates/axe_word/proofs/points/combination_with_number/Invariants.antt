use Rattle.std.proofs.Common.{◌≡◌, ◌-◌, ◌^◌, length}
use Rattle.axe_algebra.specs.Digits.{digits}
use Rattle.axe_field.specs.Order.{order_number}
use Rattle.axe_field.specs.NumberFields.{number_field}
use Rattle.axe_row.specs.Rows.{IsRow}
use Rattle.axe_matrix.proofs.VectorLaws.{partial_combination}
use Rattle.axe_word.proofs.points.combination_with_number.Given as goal

abbrev pub invariant-loop-index : goal.invariant-loop-index
invariant-loop-index l = record {
  field : l.point.order ≡ l.basis.order;
  so_far : l.point.entries
      ≡ partial_combination (number_field l.basis.order) l.basis.cols (digits (order_number l.basis.order) (length l.basis.rows) l.number) l.basis.rows l.index;
  place : l.place ≡ order_number l.basis.order ^ (length l.basis.rows - l.index);
  well_formed : IsRow l.point;
}

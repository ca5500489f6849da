use Rattle.std.proofs.Common.{◌≡◌, ◌≤◌, ◌-◌, ◌/◌, length}
use Rattle.axe_layer.specs.Supports.{IsSupportWord}
use Rattle.axe_field.specs.NumberFields.{number_field}
use Rattle.axe_row.specs.Rows.{IsRow}
use Rattle.axe_matrix.specs.Products.{row_with_terms}
use Rattle.axe_matrix.proofs.Matrix.add_vec_mul_by_sums.Given as goal

abbrev pub invariant-loop-four : goal.invariant-loop-four
invariant-loop-four l = record {
  fits : l.next ≤ length l.vector.entries;
  field : l.sum.order ≡ l.self.order;
  so_far : l.sum.entries ≡ row_with_terms (number_field l.self.order) l.self.cols l.fn.row.entries 1 l.vector.entries l.self.rows 0 l.next;
  word : IsSupportWord l.vector.entries (l.next / 64) l.word;
  well_formed : IsRow l.sum;
}

abbrev pub decreases-loop-four : goal.decreases-loop-four
decreases-loop-four l = length l.vector.entries - l.next

use Rattle.std.proofs.Common.{◌≡◌, ◌≤◌, ◌-◌, length}
use Rattle.axe_field.specs.NumberFields.{number_field}
use Rattle.axe_row.specs.Rows.{IsRow}
use Rattle.axe_matrix.specs.Products.{row_with_terms}
use Rattle.axe_matrix.proofs.Matrix.add_last_terms.Given as goal

abbrev pub invariant-loop-index : goal.invariant-loop-index
invariant-loop-index l = record {
  begun : l.start ≤ l.place;
  fits : l.place ≤ length l.vector.entries;
  field : l.sum.order ≡ l.self.order;
  so_far : l.sum.entries ≡ row_with_terms (number_field l.self.order) l.self.cols l.fn.sum.entries 1 l.vector.entries l.self.rows l.start (l.place - l.start);
  well_formed : IsRow l.sum;
}

abbrev pub decreases-loop-index : goal.decreases-loop-index
decreases-loop-index l = length l.vector.entries - l.place

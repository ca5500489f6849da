use Rattle.std.proofs.Common.{◌≡◌, ◌+◌, ◌*◌, ◌≤◌, ◌-◌}
use Rattle.axe_field.specs.NumberFields.{number_field}
use Rattle.axe_row.specs.Rows.{IsRow}
use Rattle.axe_matrix.specs.Products.{row_with_terms}
use Rattle.axe_matrix.proofs.Matrix.add_terms_of_word.Given as goal

abbrev pub invariant-loop-found : goal.invariant-loop-found
invariant-loop-found l = record {
  begun : l.start ≤ l.place;
  fits : l.place ≤ 64;
  field : l.row.order ≡ l.self.order;
  so_far : l.row.entries ≡ row_with_terms (number_field l.self.order) l.self.cols l.fn.row.entries l.scalar l.vector.entries l.self.rows
      (l.word * 64 + l.start) (l.place - l.start);
  well_formed : IsRow l.row;
}

abbrev pub decreases-loop-found : goal.decreases-loop-found
decreases-loop-found l = 64 - l.place

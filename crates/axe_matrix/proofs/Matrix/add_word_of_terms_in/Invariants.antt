use Rattle.std.proofs.Common.{◌≡◌, ◌+◌, ◌*◌, ◌≤◌, ◌-◌}
use Rattle.axe_field.specs.NumberFields.{number_field}
use Rattle.axe_row.specs.Rows.{IsRow}
use Rattle.axe_matrix.specs.Products.{row_with_terms}
use Rattle.axe_matrix.proofs.Matrix.add_word_of_terms_in.Given as goal

abbrev pub invariant-loop-found : goal.invariant-loop-found
invariant-loop-found g l = record {
  fits : l.place ≤ 64;
  field : l.row.order ≡ l.self.order;
  so_far : l.row.entries ≡ row_with_terms (number_field l.self.order) l.self.cols l.fn.row.entries l.scalar l.vector.entries l.self.rows
      (l.word * 64 + 0) (l.place - 0);
  well_formed : IsRow l.row;
}

abbrev pub decreases-loop-found : goal.decreases-loop-found
decreases-loop-found g l = 64 - l.place

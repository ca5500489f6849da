use Rattle.std.proofs.Common.{◌≡◌, ◌+◌, ◌*◌}
use Rattle.axe_field.specs.NumberFields.{number_field}
use Rattle.axe_row.specs.Rows.{IsRow}
use Rattle.axe_matrix.specs.Products.{row_with_terms}
use Rattle.axe_matrix.proofs.Matrix.add_terms_in.Given as goal

abbrev pub invariant-loop-word : goal.invariant-loop-word
invariant-loop-word g l = record {
  field : l.row.order ≡ l.self.order;
  so_far : l.row.entries ≡ row_with_terms (number_field l.self.order) l.self.cols l.fn.row.entries l.scalar l.vector.entries l.self.rows 0
      (l.word * 64 + 0);
  well_formed : IsRow l.row;
}

use Rattle.std.proofs.Common.{◌≡◌, ◌≤◌, ◌-◌}
use Rattle.axe_matrix.specs.Matrices.{IsMatrix}
use Rattle.axe_matrix.specs.Strips.{first_columns}
use Rattle.axe_matrix.proofs.lines.Lines.transpose_by_strips.Given as goal

abbrev pub invariant-loop-start : goal.invariant-loop-start
invariant-loop-start l = record {
  fits : l.start ≤ l.self.cols;
  columns : l.transpose ≡ first_columns l.self l.start;
  well_formed : IsMatrix l.transpose;
}

abbrev pub decreases-loop-start : goal.decreases-loop-start
decreases-loop-start l = l.self.cols - l.start

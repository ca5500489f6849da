use Rattle.std.proofs.Common.{◌≡◌, ◌≤◌, length}
use Rattle.axe_row.specs.Rows.{IsRow}
use Rattle.axe_matrix.proofs.DigitTerms.{HasDigits}
use Rattle.axe_matrix.proofs.Matrix.add_digits_held.Given as goal

abbrev pub invariant-loop-digit : goal.invariant-loop-digit
invariant-loop-digit g l = record {
  some : 1 ≤ l.digit;
  as_long : length l.held.entries ≡ length l.fn.held.entries;
  so_far : HasDigits l.self l.fn.held.entries l.vector.entries l.digit l.held;
  well_formed : IsRow l.held;
}

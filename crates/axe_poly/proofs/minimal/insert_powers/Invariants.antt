use Rattle.std.proofs.Common.{◌≡◌}
use Rattle.axe_poly.specs.Powers.{matrix_of_rows}
use Rattle.axe_poly.proofs.PowerLaws.{HasPowers}
use Rattle.axe_poly.proofs.minimal.insert_powers.Given as goal

abbrev pub invariant-loop-count : goal.invariant-loop-count
invariant-loop-count l = record {
  powers : HasPowers l.matrix l.vector.entries l.count l.powers l.power;
  rows : l.rows ≡ matrix_of_rows l.powers;
}

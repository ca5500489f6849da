use Rattle.std.proofs.Common.{◌≤◌, length}
use Rattle.axe_matrix.specs.Matrices.{IsMatrix}
use Rattle.axe_spin.specs.Origins.{HaveOrigins}
use Rattle.axe_spin.specs.Spun.{IsSpanOf, SpinsOn}
use Rattle.axe_spin.proofs.spinning.spin.Given as goal

abbrev pub invariant-loop : goal.invariant-loop
invariant-loop l = record {
  spins : SpinsOn l.module l.fn.rows l.rows 0 0 l.taken 0;
  span : IsSpanOf l.span l.rows;
  well_formed : IsMatrix l.rows;
  origins : HaveOrigins l.module l.rows.rows l.origins.items;
  within : l.taken ≤ length l.rows.rows;
  counted : l.counter ≤ l.taken;
}

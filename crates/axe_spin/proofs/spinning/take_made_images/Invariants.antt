use Rattle.axe_matrix.specs.Matrices.{IsMatrix}
use Rattle.axe_echelon.specs.Subspaces.{BeginWith}
use Rattle.axe_spin.specs.Origins.{HaveOrigins}
use Rattle.axe_spin.specs.Spun.{IsSpanOf, SpinsOn}
use Rattle.axe_spin.proofs.spinning.take_made_images.Given as goal

abbrev pub invariant-loop-generator : goal.invariant-loop-generator
invariant-loop-generator l = record {
  spins : SpinsOn l.module l.fn.rows l.rows l.source 0 l.source l.generator;
  begins : BeginWith l.fn.rows.rows l.rows.rows;
  span : IsSpanOf l.span l.rows;
  well_formed : IsMatrix l.rows;
  origins : HaveOrigins l.module l.rows.rows l.origins.items;
}

use Rattle.std.proofs.Common.{arith}
use Rattle.axe_matrix.proofs.StripLaws.{first_columns-none}
use Rattle.axe_matrix.proofs.lines.Lines.transpose_by_strips.Goals as goal

pub loop-start-init : goal.loop-start-init
loop-start-init c = record {
  fits = omega arith;
  columns = first_columns-none c.args.self.now c.field.result.now c.rows.result _ c.in_ok-transpose.ensures.no_rows c.field.ensures.order c.rows.ensures.count;
  well_formed = c.in_ok-transpose.ensures.well_formed;
}

use Rattle.std.proofs.Common.{[], ◌∙◌, arith}
use Rattle.axe_norton.proofs.CyclicLaws.{no_polynomial_rows, polynomial_row_more}
use Rattle.axe_norton.proofs.cyclic.polynomial_rows.Goals as goal

pub loop-start-init : goal.loop-start-init
loop-start-init c = record {
  rows = no_polynomial_rows c.args.basis.now c.args.poly.now c.in_ok-rows.rows
      (c.in_ok-rows.ensures.no_rows ∙ λ t. record {
        order = c.field.ensures.order t;
        cols = c.cols.ensures.count t;
        rows = [];
      });
  within = omega arith;
}

pub loop-start-preserved : goal.loop-start-preserved
loop-start-preserved c = record {
  rows = polynomial_row_more c.args.basis.now c.args.poly.now c.loop-start.start c.loop-start.rows c.append.new.self
      c.in_ok-row.row c.loop-start.invariant.rows
      c.in_ok-row.ensures c.in_ok-append.ensures.appended;
  within = omega (arith, c.loop-start-test.true, c.loop-start.auto.start-end, c.rows.ensures.count, c.degree.ensures.value);
}

use Rattle.std.proofs.Common.{arith}
use Rattle.axe_norton.proofs.CyclicLaws.{row_start, row_more, row_all}
use Rattle.axe_norton.proofs.cyclic.polynomial_row.Goals as goal

pub loop-exponent-init : goal.loop-exponent-init
loop-exponent-init c =
    row_start c.args.basis.now c.args.poly.now c.requires.field c.degree-degree.ensures.well_formed c.args.start c.row.result.now c.in_ok-row.row
    (rw c.degree-degree.ensures.value at c.row.ensures.value) c.row.ensures.as_long c.row.ensures.row_well_formed c.in_ok-row.ensures.copied

pub loop-exponent-preserved : goal.loop-exponent-preserved
loop-exponent-preserved c =
    row_more c.args.basis.now c.args.poly.now c.requires.field c.degree-degree.ensures.well_formed c.args.start c.loop-exponent.exponent c.coefficient.result
    c.loop-exponent.row c.row-in-loop-exponent.result.now c.add_scaled.new.self c.loop-exponent.invariant (omega (arith, c.loop-exponent-test.true, c.degree-degree.ensures.value))
    c.coefficient.ensures.value c.coefficient.ensures.element c.row-in-loop-exponent.ensures.value c.row-in-loop-exponent.ensures.as_long c.row-in-loop-exponent.ensures.row_well_formed
    c.add_scaled.ensures.sum c.add_scaled.ensures.as_long c.add_scaled.ensures.well_formed

pub returns : goal.returns
returns c =
    row_all c.args.basis.now c.args.poly.now c.requires.field c.degree-degree.ensures.well_formed c.args.start c.loop-exponent.exponent c.loop-exponent.row
    c.loop-exponent.invariant (omega (arith, c.loop-exponent-test.false, c.degree-degree.ensures.value))

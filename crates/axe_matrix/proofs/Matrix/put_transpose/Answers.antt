use Rattle.std.proofs.Common.{◌<◌, ◌≤◌, arith, ap}
use Rattle.axe_field.specs.Order.{degree_of}
use Rattle.axe_matrix.proofs.TransposedBlocks.{IsTransposedBelow-none, IsTransposedBelow-zeros, IsTransposedBelow-more, IsTransposedBelow-all}
use Rattle.axe_matrix.proofs.Matrix.put_transpose.Goals as goal

pub loop-power-init : goal.loop-power-init
loop-power-init c = IsTransposedBelow-none _ _ c.requires.zeros c.cols.ensures.well_formed

pub put_coefficients-requires-clause-power : goal.put_coefficients-requires-clause-power
put_coefficients-requires-clause-power c = omega (arith, c.loop-power-test.true, c.degree-power-end.ensures, ap degree_of c.field.ensures.order)

pub put_coefficients-requires-clause-zeros : goal.put_coefficients-requires-clause-zeros
put_coefficients-requires-clause-zeros c =
    IsTransposedBelow-zeros _ _ _ _ c.loop-power.invariant (put_coefficients-requires-clause-power c)

pub loop-power-preserved : goal.loop-power-preserved
loop-power-preserved c =
    let power : c.loop-power.power < degree_of c.args.matrix.now.order =
    omega (arith, c.loop-power-test.true, c.degree-power-end.ensures, ap degree_of c.field.ensures.order) in
    IsTransposedBelow-more _ _ c.loop-power.self _ c.loop-power.invariant power c.put_coefficients.ensures.transposed c.put_coefficients.ensures.well_formed

pub returns-clause-transpose : goal.returns-clause-transpose
returns-clause-transpose c =
    let all : degree_of c.args.matrix.now.order ≤ c.loop-power.power =
    omega (arith, c.loop-power-test.false, c.degree-power-end.ensures, ap degree_of c.field.ensures.order) in
    IsTransposedBelow-all _ _ _ c.loop-power.invariant c.rows.ensures.well_formed all

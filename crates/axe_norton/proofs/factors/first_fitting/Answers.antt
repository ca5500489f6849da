use Rattle.std.proofs.Common.{arith}
use Rattle.axe_norton.proofs.FactorLaws.{unit_is, unit_fits, unit_not_zero, basis_of_unit}
use Rattle.axe_norton.proofs.factors.first_fitting.Goals as goal

pub cyclic_basis-requires-clause-fits : goal.cyclic_basis-requires-clause-fits
cyclic_basis-requires-clause-fits c =
    unit_fits c.args.matrix.now c.in_ok-unit.unit (unit_is c.args.matrix.now _ _ c.in_ok-unit.unit c.field.ensures.order c.cols.ensures.count c.in_ok-unit.ensures.unit)

pub cyclic_basis-requires-clause-nonzero : goal.cyclic_basis-requires-clause-nonzero
cyclic_basis-requires-clause-nonzero c =
    unit_not_zero c.args.matrix.now c.in_ok-unit.unit
    (unit_is c.args.matrix.now _ _ c.in_ok-unit.unit c.field.ensures.order c.cols.ensures.count c.in_ok-unit.ensures.unit)
    (omega (arith, c.cols.ensures.well_formed.some_column))

pub first_fitting_divisor-requires-clause-first : goal.first_fitting_divisor-requires-clause-first
first_fitting_divisor-requires-clause-first c =
    basis_of_unit c.args.matrix.now c.in_ok-unit.unit
    (unit_is c.args.matrix.now _ _ c.in_ok-unit.unit c.field.ensures.order c.cols.ensures.count c.in_ok-unit.ensures.unit) c.in_ok-first.first
    c.in_ok-first.ensures

use Rattle.axe_norton.proofs.MisfitLaws.{second_unit_fits, second_unit_not_zero, basis_like}
use Rattle.axe_norton.proofs.misfits.insert_from_second.Goals as goal

pub cyclic_basis-requires-clause-fits : goal.cyclic_basis-requires-clause-fits
cyclic_basis-requires-clause-fits c =
    second_unit_fits c.args.matrix.now _ _ c.in_ok-unit.unit c.cols.ensures.count
    c.in_ok-unit.ensures.unit

pub cyclic_basis-requires-clause-nonzero : goal.cyclic_basis-requires-clause-nonzero
cyclic_basis-requires-clause-nonzero c =
    second_unit_not_zero c.args.matrix.now _ _ c.in_ok-unit.unit c.cols.ensures.count
    c.in_ok-unit.ensures.unit c.requires.two

pub insert_from_basis-requires-2-clause-basis : goal.insert_from_basis-requires-2-clause-basis
insert_from_basis-requires-2-clause-basis c =
    basis_like c.args.matrix.now c.in_ok-unit.unit c.in_ok-basis.basis c.in_ok-basis.ensures

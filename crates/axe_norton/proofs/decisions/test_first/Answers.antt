use Rattle.axe_norton.proofs.SearchLaws.{transposed_point_field, transposed_point_fits, transposed_point_nonzero}
use Rattle.axe_norton.proofs.FirstLaws.{many_square, many_orthogonal, many_field, many_fits, many_nonzero, many_proper, many_transposed, many_left}
use Rattle.axe_norton.proofs.decisions.test_first.Goals as goal

pub proper_space-requires-clause-field : goal.proper_space-requires-clause-field
proper_space-requires-clause-field c = many_field c.args.module.now c.args.matrix.now c.args.point c.requires.value

pub proper_space-requires-clause-fits : goal.proper_space-requires-clause-fits
proper_space-requires-clause-fits c = many_fits c.args.module.now c.args.matrix.now c.args.point c.requires.value

pub proper_space-requires-clause-nonzero : goal.proper_space-requires-clause-nonzero
proper_space-requires-clause-nonzero c = many_nonzero c.args.module.now c.args.matrix.now c.args.point c.requires.value

pub returns-in-Some-clause-tells : goal.returns-in-Some-clause-tells
returns-in-Some-clause-tells c =
    many_proper c.args.module.now c.args.matrix.now c.args.point c.requires.value c.in-Some.space (rw c.in-Some.is at c.in_ok-space.ensures)

pub transposed_point-requires : goal.transposed_point-requires
transposed_point-requires c = many_orthogonal c.args.module.now c.args.matrix.now c.args.point c.requires.value

pub transposed_space-requires-clause-field : goal.transposed_space-requires-clause-field
transposed_space-requires-clause-field c =
    transposed_point_field c.args.module.now c.args.matrix.now (many_square c.args.module.now c.args.matrix.now c.args.point c.requires.value)
    c.in_ok-transposed.transposed c.in_ok-transposed.ensures

pub transposed_space-requires-clause-fits : goal.transposed_space-requires-clause-fits
transposed_space-requires-clause-fits c =
    transposed_point_fits c.args.module.now c.args.matrix.now (many_square c.args.module.now c.args.matrix.now c.args.point c.requires.value)
    c.in_ok-transposed.transposed c.in_ok-transposed.ensures

pub transposed_space-requires-clause-nonzero : goal.transposed_space-requires-clause-nonzero
transposed_space-requires-clause-nonzero c =
    transposed_point_nonzero c.args.module.now c.args.matrix.now (many_square c.args.module.now c.args.matrix.now c.args.point c.requires.value)
    c.in_ok-transposed.transposed c.in_ok-transposed.ensures

pub returns-in-Some-2-clause-tells : goal.returns-in-Some-2-clause-tells
returns-in-Some-2-clause-tells c =
    many_transposed c.args.module.now c.args.matrix.now c.args.point c.requires.value (rw c.in_default.is at c.in_ok-space.ensures)
    c.in_ok-transposed.transposed c.in_ok-transposed.ensures c.in-Some-2.space (rw c.in-Some-2.is at c.in_ok-space-2.ensures.found)

pub returns-in-None-clause-tells : goal.returns-in-None-clause-tells
returns-in-None-clause-tells c =
    many_left c.args.module.now c.args.matrix.now c.args.point c.requires.value (rw c.in_default.is at c.in_ok-space.ensures)
    c.in_ok-transposed.transposed c.in_ok-transposed.ensures (rw c.in-None.is at c.in_ok-space-2.ensures.found)

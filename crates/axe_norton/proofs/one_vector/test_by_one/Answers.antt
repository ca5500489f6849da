use Rattle.std.proofs.Common.{refl}
use Rattle.axe_echelon.proofs.Exits.{no_memory}
use Rattle.axe_norton.proofs.OneVectorLaws.{null_reduced, null_row, orthogonal_to_rows, second_field, second_fits, second_nonzero, second_generates, second_space, first_field, first_fits, first_nonzero, one_irreducible, one_proper, one_transposed}
use Rattle.axe_norton.proofs.one_vector.test_by_one.Goals as goal

pub first_point-requires-clause-reduced : goal.first_point-requires-clause-reduced
first_point-requires-clause-reduced c = null_reduced c.args.module.now c.requires.spaces.0 c.args.spaces c.requires.spaces.1

pub first_point-requires-clause-some_row : goal.first_point-requires-clause-some_row
first_point-requires-clause-some_row c = null_row c.args.module.now c.requires.spaces.0 c.args.spaces c.requires.spaces.1

pub proper_space-requires-clause-field : goal.proper_space-requires-clause-field
proper_space-requires-clause-field c =
    first_field c.args.module.now c.requires.spaces.0 c.args.spaces c.requires.spaces.1 c.in_ok-point.point c.in_ok-point.ensures.first

pub proper_space-requires-clause-fits : goal.proper_space-requires-clause-fits
proper_space-requires-clause-fits c =
    first_fits c.args.module.now c.requires.spaces.0 c.args.spaces c.requires.spaces.1 c.in_ok-point.point c.in_ok-point.ensures.first

pub proper_space-requires-clause-nonzero : goal.proper_space-requires-clause-nonzero
proper_space-requires-clause-nonzero c =
    first_nonzero c.args.module.now c.requires.spaces.0 c.args.spaces c.requires.spaces.1 c.in_ok-point.point c.in_ok-point.ensures.first

pub returns-in-Some-clause-tells : goal.returns-in-Some-clause-tells
returns-in-Some-clause-tells c = λ t are.
    one_proper c.args.module.now t c.args.spaces are c.in_ok-point.point c.in_ok-point.ensures.first c.args.poly
    c.in-Some.space (rw c.in-Some.is at c.in_ok-space.ensures)

pub transposed_point-requires : goal.transposed_point-requires
transposed_point-requires c = orthogonal_to_rows c.args.module.now c.requires.spaces.0 c.args.spaces c.requires.spaces.1

pub transposed_space-requires-clause-field : goal.transposed_space-requires-clause-field
transposed_space-requires-clause-field c =
    second_field c.args.module.now c.requires.spaces.0 c.args.spaces c.requires.spaces.1 c.cols.ensures.well_formed c.in_ok-transposed.transposed
    c.in_ok-transposed.ensures

pub transposed_space-requires-clause-fits : goal.transposed_space-requires-clause-fits
transposed_space-requires-clause-fits c =
    second_fits c.args.module.now c.requires.spaces.0 c.args.spaces c.requires.spaces.1 c.cols.ensures.well_formed c.in_ok-transposed.transposed
    c.in_ok-transposed.ensures

pub transposed_space-requires-clause-nonzero : goal.transposed_space-requires-clause-nonzero
transposed_space-requires-clause-nonzero c =
    second_nonzero c.args.module.now c.requires.spaces.0 c.args.spaces c.requires.spaces.1 c.cols.ensures.well_formed c.in_ok-transposed.transposed
    c.in_ok-transposed.ensures

pub returns-in-Some-2-clause-tells : goal.returns-in-Some-2-clause-tells
returns-in-Some-2-clause-tells c = λ t are.
    one_transposed c.args.module.now t c.args.spaces are c.in_ok-point.point c.in_ok-point.ensures.first c.args.poly c.in-Some-2.space
    (rw c.in_default.is at c.in_ok-space.ensures)
    (second_space c.args.module.now t c.args.spaces are c.cols.ensures.well_formed c.in_ok-transposed.transposed c.in_ok-transposed.ensures c.in-Some-2.space
    (rw c.in-Some-2.is at c.in_ok-space-2.ensures.found))

pub returns-in_err-space-2-clause-tells : goal.returns-in_err-space-2-clause-tells
returns-in_err-space-2-clause-tells c = λ t are.
    no_memory _ c.from_residual-in_err-space-2.result _ c.from_residual-in_err-space-2.ensures.1 c.in_err-space-2.ensures.found

pub returns-clause-tells : goal.returns-clause-tells
returns-clause-tells c = λ t are.
    one_irreducible c.args.module.now t c.args.spaces are c.in_ok-point.point c.in_ok-point.ensures.first c.args.poly c.args.poly c.in_ok-vector.vector refl
    c.in_ok-vector.ensures.copied (rw c.in_default.is at c.in_ok-space.ensures)
    (second_generates c.args.module.now t c.args.spaces are c.cols.ensures.well_formed c.in_ok-transposed.transposed c.in_ok-transposed.ensures
    (rw c.in_default-2.is at c.in_ok-space-2.ensures.found))

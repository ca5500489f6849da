use Rattle.std.proofs.Common.{◌≡◌, length, arith}
use Rattle.axe_word.proofs.ReducedNullSpaces.{null_is_reduced}
use Rattle.axe_norton.specs.Spaces.{GeneratesModule, point_of}
use Rattle.axe_norton.proofs.TriedLaws.{none_of_one, has_orthogonal, first_fits, first_nonzero, first_generates, first_found}
use Rattle.axe_norton.proofs.spaces.tried_points.Goals as goal

pub first_point-requires-clause-reduced : goal.first_point-requires-clause-reduced
first_point-requires-clause-reduced c = null_is_reduced c.args.matrix.now c.args.null_space.now c.requires.value.is_tested.tested.null_space

pub proper_space-requires-clause-fits : goal.proper_space-requires-clause-fits
proper_space-requires-clause-fits c =
    first_fits c.args.module.now c.args.matrix.now c.args.null_space.now c.requires.value c.requires.some_row c.in_ok-point.point c.in_ok-point.ensures.first

pub proper_space-requires-clause-nonzero : goal.proper_space-requires-clause-nonzero
proper_space-requires-clause-nonzero c =
    first_nonzero c.args.module.now c.args.matrix.now c.args.null_space.now c.requires.value c.requires.some_row c.in_ok-point.point c.in_ok-point.ensures.first

pub returns-in-Some : goal.returns-in-Some
returns-in-Some c =
    first_found c.args.module.now c.args.matrix.now c.args.null_space.now c.requires.value c.requires.some_row c.in_ok-point.point c.in_ok-point.ensures.first
    c.in-Some.space (rw c.in-Some.is at c.in_ok-space.ensures)

pub transposed_point-requires : goal.transposed_point-requires
transposed_point-requires c = has_orthogonal c.args.module.now c.args.matrix.now c.args.null_space.now c.requires.value c.requires.some_row

pub returns : goal.returns
returns c =
    let one : length c.args.null_space.now.rows ≡ 1 = omega (arith, c.rows.ensures.count, c.if-rows-gt1.false, c.requires.some_row) in
    let generates : GeneratesModule c.args.module.now (point_of c.args.null_space.now 0) =
    first_generates c.args.module.now c.args.matrix.now c.args.null_space.now c.requires.value c.requires.some_row c.in_ok-point.point
    c.in_ok-point.ensures.first (rw c.in_default.is at c.in_ok-space.ensures) in
    (none_of_one c.args.module.now c.args.null_space.now one generates, c.in_ok-transposed_point.ensures)

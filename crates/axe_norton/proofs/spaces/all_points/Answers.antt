use Rattle.axe_matrix.specs.Matrices.{transposed_matrix}
use Rattle.axe_word.proofs.ReducedNullSpaces.{null_is_reduced}
use Rattle.axe_norton.proofs.SeenLaws.{some_other}
use Rattle.axe_norton.proofs.TriedLaws.{null_spaces, first_fits, first_nonzero, first_generates, first_found, all_generate}
use Rattle.axe_norton.proofs.spaces.all_points.Goals as goal

pub proper_space-requires-clause-fits : goal.proper_space-requires-clause-fits
proper_space-requires-clause-fits c =
    first_fits c.args.module.now c.args.matrix.now c.args.null_space.now c.requires.value c.requires.some_row c.args.first c.requires.first

pub proper_space-requires-clause-nonzero : goal.proper_space-requires-clause-nonzero
proper_space-requires-clause-nonzero c =
    first_nonzero c.args.module.now c.args.matrix.now c.args.null_space.now c.requires.value c.requires.some_row c.args.first c.requires.first

pub returns-in-Some : goal.returns-in-Some
returns-in-Some c =
    first_found c.args.module.now c.args.matrix.now c.args.null_space.now c.requires.value c.requires.some_row c.args.first c.requires.first c.in-Some.space
    (rw c.in-Some.is at c.in_ok-space.ensures)

pub later_proper_space-requires-clause-spaces : goal.later_proper_space-requires-clause-spaces
later_proper_space-requires-clause-spaces c =
    null_spaces c.args.module.now c.args.matrix.now c.args.null_space.now c.requires.value c.requires.some_row c.in_ok-transposed.transposed
    c.in_ok-transposed.ensures.basis c.in_ok-transposed.ensures.well_formed

pub later_proper_space-requires-clause-first : goal.later_proper_space-requires-clause-first
later_proper_space-requires-clause-first c =
    first_generates c.args.module.now c.args.matrix.now c.args.null_space.now c.requires.value c.requires.some_row c.args.first c.requires.first
    (rw c.in_default.is at c.in_ok-space.ensures)

pub first_point-requires-clause-reduced : goal.first_point-requires-clause-reduced
first_point-requires-clause-reduced c =
    null_is_reduced (transposed_matrix c.args.matrix.now) c.in_ok-transposed.transposed c.in_ok-transposed.ensures.basis

pub first_point-requires-clause-some_row : goal.first_point-requires-clause-some_row
first_point-requires-clause-some_row c =
    some_other c.args.module.now c.args.null_space.now c.in_ok-transposed.transposed
    (null_spaces c.args.module.now c.args.matrix.now c.args.null_space.now c.requires.value c.requires.some_row c.in_ok-transposed.transposed
    c.in_ok-transposed.ensures.basis c.in_ok-transposed.ensures.well_formed)

pub returns : goal.returns
returns c =
    all_generate c.args.module.now c.args.matrix.now c.args.null_space.now c.requires.value c.requires.some_row c.in_ok-transposed.transposed
    c.in_ok-first_point.field-0 c.requires.few (rw c.in_default-2.is at c.in_ok-space-2.ensures) c.in_ok-transposed.ensures.basis
    c.in_ok-transposed.ensures.well_formed c.in_ok-first_point.ensures.first

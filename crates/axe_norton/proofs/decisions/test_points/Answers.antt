use Rattle.std.proofs.Common.{◌<◌, length, None, sym, ◌∙◌, arith}
use Rattle.axe_norton.specs.Searches.{FindsFirst, IsTransposedPointRow}
use Rattle.axe_word.proofs.ReducedNullSpaces.{null_is_reduced}
use Rattle.axe_norton.proofs.TriedLaws.{square_in}
use Rattle.axe_norton.proofs.SearchLaws.{transposed_point_field, transposed_point_fits, transposed_point_nonzero, transpose_generates, transposed_space_is}
use Rattle.axe_norton.proofs.DecisionLaws.{left_without_rows, irreducible_told}
use Rattle.axe_norton.proofs.decisions.test_points.Goals as goal
use mathlib.Core.Logic.{inr}

pub returns-then-rows-eq0-clause-tells : goal.returns-then-rows-eq0-clause-tells
returns-then-rows-eq0-clause-tells c =
    let tested = c.requires.value.is_tested.tested in
    left_without_rows c.args.module.now c.args.matrix.now c.args.null_space.now (square_in c.args.module.now c.args.matrix.now c.args.null_space.now c.requires.value)
    tested.null_space tested.well_formed (sym c.rows.ensures.count ∙ c.if-rows-eq0.true)

pub first_point-requires-clause-reduced : goal.first_point-requires-clause-reduced
first_point-requires-clause-reduced c = null_is_reduced c.args.matrix.now c.args.null_space.now c.requires.value.is_tested.tested.null_space

pub transposed_space-requires-clause-field : goal.transposed_space-requires-clause-field
transposed_space-requires-clause-field c =
    let found : FindsFirst c.args.module.now c.args.null_space.now None × IsTransposedPointRow c.args.matrix.now c.in-Generate.transposed =
    rw c.in-Generate.is at c.in_ok-space.ensures in
    transposed_point_field c.args.module.now c.args.matrix.now
    (square_in c.args.module.now c.args.matrix.now c.args.null_space.now c.requires.value) c.in-Generate.transposed found.1

pub transposed_space-requires-clause-fits : goal.transposed_space-requires-clause-fits
transposed_space-requires-clause-fits c =
    let found : FindsFirst c.args.module.now c.args.null_space.now None × IsTransposedPointRow c.args.matrix.now c.in-Generate.transposed =
    rw c.in-Generate.is at c.in_ok-space.ensures in
    transposed_point_fits c.args.module.now c.args.matrix.now
    (square_in c.args.module.now c.args.matrix.now c.args.null_space.now c.requires.value) c.in-Generate.transposed found.1

pub transposed_space-requires-clause-nonzero : goal.transposed_space-requires-clause-nonzero
transposed_space-requires-clause-nonzero c =
    let found : FindsFirst c.args.module.now c.args.null_space.now None × IsTransposedPointRow c.args.matrix.now c.in-Generate.transposed =
    rw c.in-Generate.is at c.in_ok-space.ensures in
    transposed_point_nonzero c.args.module.now c.args.matrix.now
    (square_in c.args.module.now c.args.matrix.now c.args.null_space.now c.requires.value) c.in-Generate.transposed found.1

pub returns-in-Some-clause-tells : goal.returns-in-Some-clause-tells
returns-in-Some-clause-tells c =
    let found : FindsFirst c.args.module.now c.args.null_space.now None × IsTransposedPointRow c.args.matrix.now c.in-Generate.transposed =
    rw c.in-Generate.is at c.in_ok-space.ensures in
    inr (
      found.0,
      transposed_space_is c.args.module.now c.args.matrix.now (square_in c.args.module.now c.args.matrix.now c.args.null_space.now c.requires.value)
          c.in-Generate.transposed found.1 c.in-Some.space (rw c.in-Some.is at c.in_ok-space-2.ensures.found),
    )

pub returns-in-None-clause-tells : goal.returns-in-None-clause-tells
returns-in-None-clause-tells c =
    let tested = c.requires.value.is_tested.tested in
    let some : 0 < length c.args.null_space.now.rows = omega (arith, c.rows.ensures.count, c.if-rows-eq0.false) in
    let found : FindsFirst c.args.module.now c.args.null_space.now None × IsTransposedPointRow c.args.matrix.now c.in-Generate.transposed =
    rw c.in-Generate.is at c.in_ok-space.ensures in
    irreducible_told c.args.module.now c.args.matrix.now c.args.null_space.now
    (square_in c.args.module.now c.args.matrix.now c.args.null_space.now c.requires.value) tested.null_space tested.well_formed some c.in_ok-first.first
    c.requires.few found.0
    (transpose_generates c.args.module.now c.args.matrix.now (square_in c.args.module.now c.args.matrix.now c.args.null_space.now c.requires.value)
    c.in-Generate.transposed found.1 (rw c.in-None.is at c.in_ok-space-2.ensures.found))
    c.in_ok-first.ensures.first

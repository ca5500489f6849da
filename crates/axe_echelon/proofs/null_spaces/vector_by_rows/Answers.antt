use Rattle.std.proofs.Common.{◌≡◌, ◌<◌, ◌-◌, suc, length, arith}
use Rattle.axe_algebra.specs.Lists.{unit_row}
use Rattle.axe_echelon.proofs.OrthogonalRows.{by_rows_start, by_rows_more, by_rows_all}
use Rattle.axe_echelon.proofs.null_spaces.vector_by_rows.Goals as goal

pub loop-index-init : goal.loop-index-init
loop-index-init c =
    let unit : c.in_ok-vector.vector ≡ record { order = c.args.space.now.order; entries = unit_row c.args.space.now.cols c.args.column } =
    rw (← c.field.ensures.order, ← c.cols.ensures.count) c.in_ok-vector.ensures.unit in
    by_rows_start c.args.space.now c.cols.ensures.well_formed c.args.column c.requires.within c.dim-index.result c.in_ok-vector.vector
    (omega (arith, c.dim-index.ensures.count)) unit c.in_ok-vector.ensures.well_formed

pub loop-index-preserved : goal.loop-index-preserved
loop-index-preserved c =
    let below : c.loop-index.index - 1 < length c.args.space.now.rows =
    omega (arith, c.loop-index-test.true, c.loop-index.auto.index, c.dim-index.ensures.count) in
    let left : c.loop-index.index ≡ suc (c.loop-index.index - 1) = omega (arith, c.loop-index-test.true) in
    by_rows_more c.args.space.now c.cols.ensures.well_formed c.args.column c.requires.within (c.loop-index.index - 1) c.loop-index.index c.pivot.result
    c.dot-product.result c.neg.result c.row.result.now c.loop-index.vector c.set.new.self c.field.result.now c.requires.no_pivot c.loop-index.invariant
    left below c.pivot.ensures.place c.pivot.ensures.within c.row.ensures.value c.dot-product.ensures.value c.dot-product.ensures.element
    c.field.ensures.order c.neg.ensures.value c.set.ensures.replaced c.set.ensures.well_formed

pub returns : goal.returns
returns c =
    let none : c.loop-index.index ≡ 0 = omega (arith, c.loop-index-test.false) in
    by_rows_all c.args.space.now c.cols.ensures.well_formed c.args.column c.requires.within c.loop-index.index c.loop-index.vector c.requires.no_pivot
    c.loop-index.invariant none

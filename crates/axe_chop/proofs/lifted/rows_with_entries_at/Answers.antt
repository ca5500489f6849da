use Rattle.std.proofs.Common.{◌≡◌, length, map, refl, ap, sym, ◌∙◌, arith}
use Rattle.axe_algebra.specs.Lists.{unit_row}
use Rattle.axe_algebra.specs.ListArithmetic.{combination}
use Rattle.axe_field.specs.NumberFields.{number_field}
use Rattle.axe_row.specs.Rows.{RowValue}
use Rattle.axe_matrix.specs.Matrices.{matrix_product}
use Rattle.axe_row.proofs.CombinationLaws.{length-combination}
use Rattle.axe_matrix.proofs.PartialMatrices.{IsPartialMatrix-none, IsPartialMatrix-more}
use Rattle.axe_matrix.proofs.ProductLaws.{length-product, get_or-product}
use Rattle.axe_chop.specs.Vectors.{matrix_of_unit_vectors}
use Rattle.axe_chop.proofs.Choosing.{first_rows_all}
use Rattle.axe_chop.proofs.lifted.rows_with_entries_at.Goals as goal

pub loop-index-init : goal.loop-index-init
loop-index-init c =
    IsPartialMatrix-none _ _ _ _ _ _ c.in_ok-product.ensures.no_rows c.in_ok-product.ensures.well_formed c.field.ensures.order refl

pub append-requires-clause-fits : goal.append-requires-clause-fits
append-requires-clause-fits c =
    ap (λ (r : RowValue). length r.entries) c.in_ok-row.ensures.combination
    ∙ length-combination (number_field c.row.result.now.order) c.args.dim c.row.result.now.entries
    (map (unit_row c.args.dim) c.args.columns.now)
    ∙ sym c.loop-index.invariant.columns

pub loop-index-preserved : goal.loop-index-preserved
loop-index-preserved c =
    IsPartialMatrix-more _ _ _ _ _ _ _ c.loop-index.invariant c.in_ok-append.ensures.appended c.append.ensures.well_formed
    (ap (λ (r : RowValue). r.entries) c.in_ok-row.ensures.combination
    ∙ ap (λ (r : RowValue). combination (number_field r.order) c.args.dim r.entries (map (unit_row c.args.dim) c.args.columns.now))
    c.row.ensures.value
    ∙ sym (get_or-product (number_field c.args.coordinates.now.order) c.args.dim c.args.coordinates.now.rows
    (map (unit_row c.args.dim) c.args.columns.now) c.loop-index.index
    (omega (arith, c.loop-index-test.true, c.rows-count.ensures.count))))

pub returns-clause-product : goal.returns-clause-product
returns-clause-product c =
    let count : length (matrix_product c.args.coordinates.now (matrix_of_unit_vectors c.args.coordinates.now.order c.args.dim c.args.columns.now)).rows
    ≡ length c.args.coordinates.now.rows =
    length-product (number_field c.args.coordinates.now.order) c.args.dim c.args.coordinates.now.rows
    (map (unit_row c.args.dim) c.args.columns.now) in
    first_rows_all (matrix_product c.args.coordinates.now (matrix_of_unit_vectors c.args.coordinates.now.order c.args.dim c.args.columns.now))
    c.loop-index.index c.loop-index.product c.loop-index.invariant
    (omega (arith, c.loop-index-test.false, c.loop-index.auto.index-end, c.rows-count.ensures.count, count))

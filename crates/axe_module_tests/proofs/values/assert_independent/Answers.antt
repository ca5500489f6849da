-- The rows are those of the echelon form, so they are independent.
use Rattle.std.proofs.Common.{rules, true, ◌≡◌, ◌≤◌, ◌<◌, List, ℕ, length, get_or, [], ap, ◌∙◌, subst, arith}
use Rattle.axe_algebra.specs.SpansOfLists.{IsIndependent}
use Rattle.axe_field.specs.NumberFields.{number_field}
use Rattle.axe_row.specs.Rows.{RowValue}
use Rattle.axe_echelon.specs.Echelons.{with_row_where}
use Rattle.axe_echelon.proofs.InverseLaws.{first_rows_more, first_rows_all, HasAllRows}
use Rattle.axe_module_tests.proofs.values.assert_independent.Goals as goal

pub loop-index-preserved : goal.loop-index-preserved
loop-index-preserved g c =
    let row : c.in_ok-row.row.entries ≡ get_or c.args.matrix.now.rows c.loop-index.index [] =
    ap (λ (r : RowValue). r.entries) (c.in_ok-row.ensures.copied ∙ c.row.ensures.value) in
    let below : c.loop-index.index < length c.args.matrix.now.rows = omega (arith, c.loop-index-test.true, c.rows-index-end.ensures.count) in
    let new : c.in_ok-new.new ≡ true = search rules in
    first_rows_more c.args.matrix.now c.loop-index.index c.loop-index.span c.insert.new.self c.in_ok-row.row c.loop-index.invariant below row
    (c.in_ok-new.ensures.inserted ∙ ap (λ b. with_row_where b c.loop-index.span c.in_ok-row.row.entries) new) c.insert.ensures.well_formed

pub returns : goal.returns
returns g c =
    let whole : length c.args.matrix.now.rows ≤ c.loop-index.index = omega (arith, c.loop-index-test.false, c.rows-index-end.ensures.count) in
    let all : HasAllRows c.args.matrix.now c.loop-index.span =
    first_rows_all c.args.matrix.now c.loop-index.index c.loop-index.span c.loop-index.invariant whole in
    subst (λ o. IsIndependent (number_field o) c.args.matrix.now.rows) all.field
    (subst (λ (rows : List (List ℕ)). IsIndependent (number_field c.loop-index.span.order) rows) all.rows all.well_formed.independent)

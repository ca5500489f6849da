use Rattle.std.proofs.Common.{◌≡◌, length, sym, ap, ◌∙◌, arith}
use Rattle.std.proofs.lemmas.List.{length-map}
use Rattle.axe_field.specs.Forms.{prime_order}
use Rattle.axe_row.specs.Rows.{RowValue}
use Rattle.axe_row.specs.FormValues.{values_of_form}
use Rattle.axe_matrix.proofs.FormProducts.{listed_values}
use Rattle.axe_matrix.proofs.PartialMatrices.{IsPartialMatrix-none, IsPartialMatrix-more, IsPartialMatrix-all}
use Rattle.axe_matrix.proofs.Matrix.values_of_form.Goals as goal

pub loop-index-init : goal.loop-index-init
loop-index-init c =
    IsPartialMatrix-none _ _ _ _ _ _ c.in_ok-values.ensures.no_rows c.in_ok-values.ensures.well_formed
    (c.prime_field-field.ensures ∙ ap prime_order c.field.ensures.order) c.cols.ensures.count

pub append-requires-clause-fits : goal.append-requires-clause-fits
append-requires-clause-fits c =
    ap (λ (row : RowValue). length row.entries) c.in_ok-row.ensures.values
    ∙ length-map c.row.result.now.entries _ ∙ c.row.ensures.as_long ∙ sym c.loop-index.invariant.columns

pub loop-index-preserved : goal.loop-index-preserved
loop-index-preserved c =
    let row = c.in_ok-row.ensures.values ∙ ap (values_of_form c.args.form) c.row.ensures.value in
    IsPartialMatrix-more _ _ _ _ _ _ _ c.loop-index.invariant c.in_ok-append.ensures.appended
    c.append.ensures.well_formed (ap (λ (r : RowValue). r.entries) row)

pub returns-clause-values : goal.returns-clause-values
returns-clause-values c =
    let all : c.loop-index.index ≡ length c.args.self.now.rows =
    omega (arith, c.rows-index-end.ensures.count, c.loop-index-test.false, c.loop-index.auto.index-end) in
    IsPartialMatrix-all _ _ _ _ _ _ c.loop-index.invariant all ∙ listed_values c.args.form c.args.self.now

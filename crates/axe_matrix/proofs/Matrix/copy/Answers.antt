use Rattle.std.proofs.Common.{◌≡◌, [], length, get_or, refl, sym, ap, ◌∙◌, arith}
use Rattle.std.proofs.lemmas.List.FromFn.{fill_by_all}
use Rattle.axe_row.specs.Rows.{RowValue}
use Rattle.axe_matrix.proofs.MatrixLaws.{same_matrix}
use Rattle.axe_matrix.proofs.PartialMatrices.{IsPartialMatrix-none, IsPartialMatrix-more, IsPartialMatrix-all}
use Rattle.axe_matrix.proofs.Matrix.copy.Goals as goal

pub loop-index-init : goal.loop-index-init
loop-index-init c = IsPartialMatrix-none _ _ _ _ _ _ c.in_ok-copy.ensures.no_rows c.in_ok-copy.ensures.well_formed c.field.ensures.order c.cols.ensures.count

pub append-requires-clause-fits : goal.append-requires-clause-fits
append-requires-clause-fits c =
    ap (λ (row : RowValue). length row.entries) c.in_ok-row.ensures.copied ∙ c.row.ensures.as_long ∙ sym c.loop-index.invariant.columns

pub loop-index-preserved : goal.loop-index-preserved
loop-index-preserved c =
    let row = c.in_ok-row.ensures.copied ∙ c.row.ensures.value in
    IsPartialMatrix-more _ _ _ _ _ _ _ c.loop-index.invariant c.in_ok-append.ensures.appended c.append.ensures.well_formed (ap (λ (r : RowValue). r.entries) row)

pub returns-clause-copied : goal.returns-clause-copied
returns-clause-copied c =
    let all : c.loop-index.index ≡ length c.args.self.now.rows = omega (arith, c.rows-index-end.ensures.count, c.loop-index-test.false, c.loop-index.auto.index-end) in
    let rows = fill_by_all (λ i. get_or c.args.self.now.rows i []) c.args.self.now.rows (length c.args.self.now.rows) [] refl (λ k below. refl) in
    IsPartialMatrix-all _ _ _ _ _ _ c.loop-index.invariant all ∙ same_matrix _ c.args.self.now refl refl (sym rows)

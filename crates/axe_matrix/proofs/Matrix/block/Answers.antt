use Rattle.std.proofs.Common.{◌+◌, length, get_or, refl, sym, ap, ◌∙◌, arith}
use Rattle.axe_algebra.specs.Lists.{listed}
use Rattle.axe_row.specs.Rows.{RowValue}
use Rattle.axe_algebra.proofs.ListEntries.{listed_length}
use Rattle.axe_matrix.proofs.PartialMatrices.{IsPartialMatrix-none, IsPartialMatrix-more, IsPartialMatrix-all}
use Rattle.axe_matrix.proofs.Matrix.block.Goals as goal

pub loop-index-init : goal.loop-index-init
loop-index-init c = IsPartialMatrix-none _ _ _ _ _ _ c.in_ok-block.ensures.no_rows c.in_ok-block.ensures.well_formed c.field.ensures.order refl

pub append-requires-clause-fits : goal.append-requires-clause-fits
append-requires-clause-fits c =
    ap (λ (row : RowValue). length row.entries) c.in_ok-part.ensures.part ∙ listed_length _ _ ∙ sym c.loop-index.invariant.columns

pub loop-index-preserved : goal.loop-index-preserved
loop-index-preserved c =
    let row = ap (λ (r : RowValue). r.entries) c.in_ok-part.ensures.part ∙ ap (λ (r : RowValue). listed c.args.cols (λ j. get_or r.entries (c.args.column + j) 0)) c.row.ensures.value in
    IsPartialMatrix-more _ _ _ _ _ _ _ c.loop-index.invariant c.in_ok-append.ensures.appended c.append.ensures.well_formed row

pub returns-clause-block : goal.returns-clause-block
returns-clause-block c = IsPartialMatrix-all _ _ _ _ _ _ c.loop-index.invariant (omega (arith, c.loop-index-test.false, c.loop-index.auto.index-end))

use Rattle.std.proofs.Common.{length, refl, sym, ap, ◌∙◌, arith}
use Rattle.axe_row.specs.Rows.{RowValue}
use Rattle.axe_matrix.proofs.TransposeLaws.{identity_matrix-rows}
use Rattle.axe_algebra.proofs.ListEntries.{listed_length}
use Rattle.axe_matrix.proofs.PartialMatrices.{IsPartialMatrix-none, IsPartialMatrix-more, IsPartialMatrix-all}
use Rattle.axe_matrix.proofs.Matrix.identity.Goals as goal

pub loop-index-init : goal.loop-index-init
loop-index-init c = IsPartialMatrix-none _ _ _ _ _ _ c.in_ok-matrix.ensures.no_rows c.in_ok-matrix.ensures.well_formed refl refl

pub append-requires-clause-fits : goal.append-requires-clause-fits
append-requires-clause-fits c =
    ap (λ (row : RowValue). length row.entries) c.in_ok-row.ensures.unit ∙ listed_length _ _ ∙ sym c.loop-index.invariant.columns

pub loop-index-preserved : goal.loop-index-preserved
loop-index-preserved c =
    IsPartialMatrix-more _ _ _ _ _ _ _ c.loop-index.invariant c.in_ok-append.ensures.appended c.append.ensures.well_formed (ap (λ (r : RowValue). r.entries) c.in_ok-row.ensures.unit)

pub returns-clause-identity : goal.returns-clause-identity
returns-clause-identity c =
    IsPartialMatrix-all _ _ _ _ _ _ c.loop-index.invariant (omega (arith, c.loop-index-test.false, c.loop-index.auto.index-end)) ∙ identity_matrix-rows _ _

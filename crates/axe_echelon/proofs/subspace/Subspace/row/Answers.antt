use Rattle.std.proofs.Common.{◌<◌, length, ap, arith}
use Rattle.axe_algebra.specs.Lists.{IsVectorOver}
use Rattle.axe_algebra.proofs.ListEntries.{row_over}
use Rattle.axe_field.specs.NumberFields.{number_field}
use Rattle.axe_row.specs.Rows.{RowValue}
use Rattle.axe_echelon.specs.Echelons.{IsEchelon}
use Rattle.axe_echelon.proofs.PivotRowLaws.{echelon_of_rows, length-rows, row_at}
use Rattle.axe_echelon.proofs.StepLaws.{is_row_of_over}
use Rattle.axe_echelon.proofs.subspace.Subspace.row.Goals as goal

well_formed : (c : goal.After-index) → IsEchelon c.args.self.now
well_formed c = rw (← c.self.view_is) (echelon_of_rows _ _ _ c.self.invariant.are_rows)

pub index-requires : goal.index-requires
index-requires c = omega (arith, length-rows _ _ c.self.inside.rows.items _ c.self.view_is, c.requires, c.self.inside.rows.ok.0)

pub returns-clause-value : goal.returns-clause-value
returns-clause-value c =
    let below : c.args.index < length c.self.inside.rows.items =
    omega (arith, length-rows _ _ c.self.inside.rows.items _ c.self.view_is, c.requires) in
    row_at _ _ c.self.inside.rows.items c.args.index c.index.result.now c.args.self.now c.self.invariant.are_rows c.self.view_is below c.index.ensures

over : (c : goal.After-index) → IsVectorOver (number_field c.args.self.now.order) c.args.self.now.cols c.index.result.now.row.entries
over c = rw (returns-clause-value c)
    (row_over (number_field c.args.self.now.order) c.args.self.now.cols c.args.self.now.rows c.args.index (well_formed c).over c.requires)

pub returns-clause-as_long : goal.returns-clause-as_long
returns-clause-as_long c = (over c).length_is

pub returns-clause-row_well_formed : goal.returns-clause-row_well_formed
returns-clause-row_well_formed c =
    is_row_of_over c.args.self.now.order c.args.self.now.cols c.index.result.now.row (ap (λ (r : RowValue). r.order) (returns-clause-value c)) (over c)

pub returns-clause-well_formed : goal.returns-clause-well_formed
returns-clause-well_formed c = well_formed c

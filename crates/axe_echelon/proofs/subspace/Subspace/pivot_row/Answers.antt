use Rattle.std.proofs.Common.{◌≡◌, length, ap, ◌∙◌}
use Rattle.axe_row.specs.Rows.{RowValue}
use Rattle.axe_algebra.specs.Lists.{unit_row}
use Rattle.axe_algebra.proofs.ListEntries.{listed_length}
use Rattle.axe_echelon.proofs.ReducedLaws.{pivot_row_of}
use Rattle.axe_echelon.proofs.subspace.Subspace.pivot_row.Goals as goal

pub reduce-requires-clause-fits : goal.reduce-requires-clause-fits
reduce-requires-clause-fits c =
    ap (λ (r : RowValue). length r.entries) c.in_ok-row.ensures.unit ∙ listed_length c.cols.result _ ∙ c.cols.ensures.count

pub returns : goal.returns
returns c =
    let unit : c.in_ok-row.row ≡ record { order = c.args.self.now.order; entries = unit_row c.args.self.now.cols c.args.pivot } =
    rw (← c.field.ensures.order, ← c.cols.ensures.count) c.in_ok-row.ensures.unit in
    pivot_row_of c.args.self.now c.cols.ensures.well_formed c.args.pivot c.neg.result c.field.result.now c.in_ok-row.row c.reduce.new.row c.scale.new.self
    c.set.new.self c.requires.within unit c.requires.pivot c.reduce.ensures.representative c.reduce.ensures.same_field c.reduce.ensures.as_long
    c.reduce.ensures.row_well_formed c.field.ensures.order c.neg.ensures.element c.neg.ensures.value c.scale.ensures.multiple c.scale.ensures.well_formed
    c.set.ensures.replaced c.set.ensures.well_formed

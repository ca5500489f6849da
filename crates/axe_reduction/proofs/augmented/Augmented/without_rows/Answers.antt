use Rattle.std.proofs.Common.{rules, [], ◌∙◌}
use Rattle.axe_reduction.proofs.BesideRows.{of_no_rows, rows_are_whole}
use Rattle.axe_reduction.proofs.augmented.Augmented.without_rows.Goals as goal

pub returns : goal.returns
returns c =
    rows_are_whole c.args.self.now [] c.empty.result c.empty-2.result
    (of_no_rows c.self.inside.left c.self.inside.right c.args.self.now c.empty.result c.empty-2.result c.self.view_is c.self.invariant
    (c.empty.ensures.no_rows ∙ λ t. record { order = c.field.ensures.order t; cols = c.cols.ensures.count t; rows = [] })
    (c.empty-2.ensures.no_rows ∙ λ t. record { order = c.field-2.ensures.order t; cols = c.cols-2.ensures.count t; rows = [] })
    c.empty.ensures.well_formed c.empty-2.ensures.well_formed)

pub empty-requires-2-clause-some_column : goal.empty-requires-2-clause-some_column
empty-requires-2-clause-some_column c = search rules

pub invariant_of-result : goal.invariant_of-result
invariant_of-result c = search rules

use Rattle.std.proofs.Common.{◌≡◌, List, ℕ, map, slice_index, None, ap, subst, ◌∙◌}
use Rattle.axe_row.specs.Rows.{RowValue}
use Rattle.axe_row.specs.Refusals.{Answers}
use Rattle.axe_matrix.proofs.ConsecutiveEntries.{part_is}
use Rattle.axe_matrix.proofs.chosen.ChosenColumns.entries.Goals as goal

pub returns-then-self-clause-selected : goal.returns-then-self-clause-selected
returns-then-self-clause-selected c =
    subst (λ (v : RowValue). Answers {T = RowValue} None (λ entries. entries ≡ v) c.part.result)
    (part_is c.self.inside.columns.now c.args.row.now (c.self.invariant.whole c.if-self.true)
    ∙ ap (λ (columns : List ℕ). record { order = c.args.row.now.order; entries = map (slice_index c.args.row.now.entries) columns }) c.self.view_is)
    c.part.ensures.part

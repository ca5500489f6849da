use Rattle.std.proofs.Common.{length}
use Rattle.axe_echelon.proofs.Exits.{no_memory}
use Rattle.axe_action.proofs.BlockLaws.{next_if, not_next, pivot_row_added, other_row_added}
use Rattle.axe_action.proofs.blocks.Blocks.append.Goals as goal

pub append_entries-requires-else-is_next_pivot-clause-room : goal.append_entries-requires-else-is_next_pivot-clause-room
append_entries-requires-else-is_next_pivot-clause-room c =
    (c.requires.room (not_next c.args.pivots.now c.columns.result.now c.rows.result c.rows-2.result (length c.args.self.now.at_pivots.rows) (length c.args.self.now.across.rows)
    c.is_next_pivot.result c.columns.ensures c.rows.ensures.count c.rows-2.ensures.count c.is_next_pivot.ensures c.if-is_next_pivot.false)).0

pub append_entries-requires-else-is_next_pivot-2-clause-room : goal.append_entries-requires-else-is_next_pivot-2-clause-room
append_entries-requires-else-is_next_pivot-2-clause-room c =
    (c.requires.room (not_next c.args.pivots.now c.columns.result.now c.rows.result c.rows-2.result (length c.args.self.now.at_pivots.rows) (length c.args.self.now.across.rows)
    c.is_next_pivot.result c.columns.ensures c.rows.ensures.count c.rows-2.ensures.count c.is_next_pivot.ensures c.if-is_next_pivot.false)).1

pub returns-then-is_next_pivot : goal.returns-then-is_next_pivot
returns-then-is_next_pivot c =
    pivot_row_added c.args.pivots.now c.args.columns.now c.args.row.now.entries c.args.self.now c.append_entries.new.matrix c.append_entries.result
    (next_if c.args.pivots.now c.columns.result.now c.rows.result c.rows-2.result (length c.args.self.now.at_pivots.rows) (length c.args.self.now.across.rows)
    c.is_next_pivot.result c.columns.ensures c.rows.ensures.count c.rows-2.ensures.count c.is_next_pivot.ensures c.if-is_next_pivot.true)
    c.append_entries.ensures.appended c.append_entries.ensures.well_formed

pub returns-in_err-append_entries : goal.returns-in_err-append_entries
returns-in_err-append_entries c = no_memory _ c.from_residual.result _ c.from_residual.ensures.1 c.in_err-append_entries.ensures.appended

pub returns-in_ok-append_entries : goal.returns-in_ok-append_entries
returns-in_ok-append_entries c =
    other_row_added c.args.pivots.now c.args.columns.now c.args.row.now.entries c.args.self.now
    c.append_entries-else-is_next_pivot.new.matrix c.append_entries-else-is_next_pivot-2.new.matrix c.append_entries-else-is_next_pivot-2.result
    (not_next c.args.pivots.now c.columns.result.now c.rows.result c.rows-2.result (length c.args.self.now.at_pivots.rows) (length c.args.self.now.across.rows)
    c.is_next_pivot.result c.columns.ensures c.rows.ensures.count c.rows-2.ensures.count c.is_next_pivot.ensures c.if-is_next_pivot.false)
    c.in_ok-append_entries.ensures.appended c.in_ok-append_entries.ensures.well_formed
    c.append_entries-else-is_next_pivot-2.ensures.appended c.append_entries-else-is_next_pivot-2.ensures.well_formed

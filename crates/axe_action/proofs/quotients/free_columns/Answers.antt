use Rattle.std.proofs.Common.{rules, ◌≡◌, [], ◌∷◌, ◌++◌}
use Rattle.axe_action.specs.FreeColumns.{IsFreeColumn}
use Rattle.axe_action.proofs.QuotientSpans.{test_failed}
use Rattle.axe_action.proofs.ColumnLists.{column_passed, column_taken}
use Rattle.axe_action.proofs.quotients.free_columns.Goals.{then-is_free+in_ok-push, else-is_free}
use Rattle.axe_action.proofs.quotients.free_columns.Goals as goal

pub loop-column-preserved : goal.loop-column-preserved
loop-column-preserved c =
    elim c.if-is_free.branch [
      | then-is_free+in_ok-push w ↦
          let pushed : w.push.new.self.items ≡ c.loop-column.columns.items ++ c.loop-column.column ∷ [] = search rules in
          rw w.columns-is (column_taken (IsFreeColumn c.args.span.now) c.loop-column.column c.loop-column.columns.items w.push.new.self.items c.loop-column.invariant pushed
          (c.is_free.ensures.0 w.if-is_free.true))
      | else-is_free w ↦
          rw w.columns-is (column_passed (IsFreeColumn c.args.span.now) c.loop-column.column c.loop-column.columns.items c.loop-column.invariant
          (test_failed (IsFreeColumn c.args.span.now c.loop-column.column) c.is_free.result c.is_free.ensures w.if-is_free.false))
    ]

use Rattle.std.proofs.Common.{rules, ◌≡◌, ◌≤◌, [], ◌∷◌, ◌++◌, arith}
use Rattle.axe_algebra.specs.SpansOfLists.{IsPivot}
use Rattle.axe_field.specs.NumberFields.{number_field}
use Rattle.axe_action.proofs.QuotientSpans.{test_failed}
use Rattle.axe_action.proofs.ColumnLists.{columns_none, column_passed, column_taken}
use Rattle.axe_action.proofs.ColumnLaws.{pivots_all}
use Rattle.axe_action.proofs.columns.pivot_columns.Goals.{then-is_pivot+in_ok-push, else-is_pivot}
use Rattle.axe_action.proofs.columns.pivot_columns.Goals as goal

pub loop-column-preserved : goal.loop-column-preserved
loop-column-preserved c =
    elim c.if-is_pivot.branch [
      | then-is_pivot+in_ok-push w ↦
          let pushed : w.push.new.self.items ≡ c.loop-column.columns.items ++ c.loop-column.column ∷ [] = search rules in
          rw w.columns-is (column_taken (IsPivot (number_field c.args.span.now.order) c.args.span.now.rows) c.loop-column.column c.loop-column.columns.items
          w.push.new.self.items c.loop-column.invariant pushed (c.is_pivot.ensures.0 w.if-is_pivot.true))
      | else-is_pivot w ↦
          rw w.columns-is (column_passed (IsPivot (number_field c.args.span.now.order) c.args.span.now.rows) c.loop-column.column c.loop-column.columns.items
          c.loop-column.invariant
          (test_failed (IsPivot (number_field c.args.span.now.order) c.args.span.now.rows c.loop-column.column) c.is_pivot.result c.is_pivot.ensures w.if-is_pivot.false))
    ]

pub returns-clause-pivots : goal.returns-clause-pivots
returns-clause-pivots c =
    let whole : c.args.span.now.cols ≤ c.loop-column.column = omega (arith, c.cols-column-end.ensures.count, c.loop-column-test.false) in
    pivots_all c.args.span.now c.loop-column.column c.loop-column.columns.items c.cols-column-end.ensures.well_formed c.loop-column.invariant whole

pub loop-column-init : goal.loop-column-init
loop-column-init c =
    columns_none (IsPivot (number_field c.args.span.now.order) c.args.span.now.rows) c.new-columns.result.items c.new-columns.ensures.items

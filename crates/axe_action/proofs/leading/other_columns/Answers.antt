use Rattle.std.proofs.Common.{rules, ◌≡◌, ◌<◌, [], ◌∷◌, ◌++◌, length, get_or, arith}
use Rattle.axe_action.specs.LeadingColumns.{IsOtherColumn}
use Rattle.axe_action.proofs.ColumnLists.{columns_none, column_passed, column_taken}
use Rattle.axe_action.proofs.LeadingLaws.{passed_none, passed_one, passed_other, listed_is_no_other, next_is_other}
use Rattle.axe_action.proofs.leading.other_columns.Goals.{then-passed-columns+then-columns-passed, else-passed-columns+in_ok-push, else-passed-columns-via-then-passed-columns+else-columns-passed, else-passed-columns-via-else-passed-columns}
use Rattle.axe_action.proofs.leading.other_columns.Goals as goal

pub loop-column-init : goal.loop-column-init
loop-column-init c = record {
  others = columns_none (IsOtherColumn c.args.bound c.args.columns.now) c.new-others.result.items c.new-others.ensures.items;
  passed = passed_none c.args.columns.now;
}

pub loop-column-preserved : goal.loop-column-preserved
loop-column-preserved c =
    elim c.if-passed-columns.branch [
      | then-passed-columns+then-columns-passed w ↦
          rw (w.others-is, w.passed-is) (record {
            others = column_passed (IsOtherColumn c.args.bound c.args.columns.now) c.loop-column.column c.loop-column.others.items
                c.loop-column.invariant.others
                (listed_is_no_other c.args.columns.now c.loop-column.passed c.loop-column.column c.loop-column.invariant.passed c.requires c.args.bound
                (w.if-passed-columns.true, w.if-columns-passed.true));
            passed = passed_one c.args.columns.now c.loop-column.passed c.loop-column.column c.loop-column.invariant.passed c.requires
                (w.if-passed-columns.true, w.if-columns-passed.true);
          })
      | else-passed-columns+in_ok-push w ↦
          let other : ¬ ((c.loop-column.passed < length c.args.columns.now)
          × (get_or c.args.columns.now c.loop-column.passed 0 ≡ c.loop-column.column)) =
          elim w.else-passed-columns.branch [
            | else-passed-columns-via-then-passed-columns+else-columns-passed v ↦ λ at. v.if-columns-passed.false at.1
            | else-passed-columns-via-else-passed-columns v ↦ λ at. omega (arith, at.0, v.if-passed-columns.false)
          ] in
          let pushed : w.push.new.self.items ≡ c.loop-column.others.items ++ c.loop-column.column ∷ [] = search rules in
          rw (w.others-is, w.passed-is) (record {
            others = column_taken (IsOtherColumn c.args.bound c.args.columns.now) c.loop-column.column c.loop-column.others.items
                w.push.new.self.items c.loop-column.invariant.others pushed
                (next_is_other c.args.columns.now c.loop-column.passed c.loop-column.column c.loop-column.invariant.passed c.requires c.args.bound
                c.loop-column-test.true other);
            passed = passed_other c.args.columns.now c.loop-column.passed c.loop-column.column c.loop-column.invariant.passed c.requires other;
          })
    ]

pub returns : goal.returns
returns c = record {
  ascending = c.loop-column.invariant.others.ascending;
  each = c.loop-column.invariant.others.each;
  all = λ j is. c.loop-column.invariant.others.all j (let below = is.below in omega (arith, below, c.loop-column-test.false)) is;
}

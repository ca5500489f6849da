use Rattle.std.proofs.Common.{sym, ◌∙◌, arith}
use Rattle.axe_file.proofs.Bytes.{eight-marks}
use Rattle.axe_file.proofs.Layouts.{column_fits, width_fits, no_unused_mark, an_unused_mark}
use Rattle.axe_file.proofs.MarkTables.{marks_before_last}
use Rattle.axe_file.proofs.layout.Layout.has_unused_mark.Goals as goal

pub overflow_add-place : goal.overflow_add-place
overflow_add-place c = omega (arith, c.requires, width_fits c.args.self.now.field c.args.self.now.columns c.args.self.now.columns_fit)

pub returns-then-place-self : goal.returns-then-place-self
returns-then-place-self c =
    sym (no_unused_mark c.args.self.now.field c.args.self.now.columns c.args.place c.args.self.now.marks c.args.byte c.args.self.now.marks_is
    (λ j lt past.
    absurd (marks_before_last c.args.self.now.field c.args.self.now.columns c.args.place c.args.self.now.marks j c.args.self.now.marks_is
    (rw c.args.self.now.width_is at c.if-place-self.true) lt past)))

pub overflow_mul-column : goal.overflow_mul-column
overflow_mul-column c =
    omega (arith, column_fits c.args.self.now.field c.args.self.now.columns c.args.place c.args.self.now.marks c.args.self.now.columns_fit c.requires c.args.self.now.marks_is)

pub overflow_add-column : goal.overflow_add-column
overflow_add-column c =
    omega (arith, c.args.self.now.marks_is, eight-marks c.args.self.now.field, column_fits c.args.self.now.field c.args.self.now.columns c.args.place c.args.self.now.marks c.args.self.now.columns_fit c.requires c.args.self.now.marks_is)

pub returns-then-mark_of-ne0 : goal.returns-then-mark_of-ne0
returns-then-mark_of-ne0 c =
    sym (an_unused_mark c.args.self.now.field c.args.self.now.columns c.args.place c.args.self.now.marks c.args.byte c.loop-index.index c.args.self.now.marks_is
    c.loop-index-test.true c.if-self-column.true (λ e. c.if-mark_of-ne0.true (c.mark_of.ensures.value ∙ e)))

pub returns : goal.returns
returns c =
    sym (no_unused_mark c.args.self.now.field c.args.self.now.columns c.args.place c.args.self.now.marks c.args.byte c.args.self.now.marks_is
    (λ j lt past. c.loop-index.invariant j (omega arith) past))

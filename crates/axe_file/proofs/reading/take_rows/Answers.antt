use Rattle.std.proofs.Common.{rules, ◌+◌, ◌*◌, ◌≤◌, length, ap, ◌∙◌, arith}
use Rattle.axe_algebra.specs.Lists.{listed}
use Rattle.axe_row.specs.Rows.{RowValue}
use Rattle.axe_file.specs.Packed.{mark_at}
use Rattle.axe_file.proofs.Scans.{rows_before, data_by_layout, marks_at, length-row_marks, pushed, matrix_is, when_ok}
use Rattle.axe_algebra.proofs.ListEntries.{listed_length}
use Rattle.axe_file.proofs.reading.take_rows.Goals as goal

pub overflow_mul-start : goal.overflow_mul-start
overflow_mul-start c =
    let shape = c.args.shape.now in
    omega (arith, rows_before c.loop-index.index shape.rows shape.layout.width c.loop-index-test.true, data_by_layout shape.layout shape.rows, c.requires.inside)

pub overflow_add-start : goal.overflow_add-start
overflow_add-start c =
    let shape = c.args.shape.now in
    omega (arith, rows_before c.loop-index.index shape.rows shape.layout.width c.loop-index-test.true, data_by_layout shape.layout shape.rows, c.requires.inside)

pub overflow_add-start-in-loop-index : goal.overflow_add-start-in-loop-index
overflow_add-start-in-loop-index c =
    let shape = c.args.shape.now in
    omega (arith, rows_before c.loop-index.index shape.rows shape.layout.width c.loop-index-test.true, data_by_layout shape.layout shape.rows, c.requires.inside)

pub slice_bounds-row_of-end : goal.slice_bounds-row_of-end
slice_bounds-row_of-end c =
    let shape = c.args.shape.now in
    let before = rows_before c.loop-index.index shape.rows shape.layout.width c.loop-index-test.true in
    let size = data_by_layout shape.layout shape.rows in
    let end : c.args.offset + c.loop-index.index * shape.layout.width + shape.layout.width ≤ length c.args.bytes.now = omega (arith, c.requires.inside) in
    search rules

pub push_row-requires-clause-fits : goal.push_row-requires-clause-fits
push_row-requires-clause-fits c =
    rw (c.in_ok-row.ensures.value, c.loop-index.invariant) (length-row_marks c.args.shape.now.layout.field c.args.shape.now.layout.columns _)

pub push_row-requires-clause-room : goal.push_row-requires-clause-room
push_row-requires-clause-room c =
    let layout = c.args.shape.now.layout in
    let count = listed_length c.loop-index.index (λ i. listed layout.columns (mark_at layout.field layout.columns c.args.bytes.now c.args.offset i)) in
    rw c.loop-index.invariant (omega (arith, count, c.loop-index-test.true, c.requires.rows_fit))

pub loop-index-preserved : goal.loop-index-preserved
loop-index-preserved c =
    let layout = c.args.shape.now.layout in
    let marks = mark_at layout.field layout.columns c.args.bytes.now c.args.offset in
    let entries = ap (λ (row : RowValue). row.entries) c.in_ok-row.ensures.value ∙ marks_at layout c.args.bytes.now c.args.offset c.loop-index.index in
    pushed c.loop-index.matrix c.push_row.new.self layout.field layout.columns c.loop-index.index (λ i. listed layout.columns (marks i)) c.in_ok-row.row.entries
    c.loop-index.invariant entries (when_ok c.push_row.result c.in_ok-map_err.ensures.variant c.push_row.ensures.appended)

pub returns-clause-value : goal.returns-clause-value
returns-clause-value c =
    let shape = c.args.shape.now in
    c.loop-index.invariant
    ∙ matrix_is shape.layout.field shape.rows shape.layout.columns c.loop-index.index c.args.bytes.now c.args.offset (omega arith)

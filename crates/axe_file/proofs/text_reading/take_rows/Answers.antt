use Rattle.std.proofs.Common.{refl, arith}
use Rattle.axe_file.proofs.Scans.{when_ok}
use Rattle.axe_file.proofs.TextScans.{rows_begun, row_left, rows_more, rows_done}
use Rattle.axe_file.proofs.text_reading.take_rows.Goals as goal

pub loop-init : goal.loop-init
loop-init c = rows_begun c.args.field c.args.rows c.args.columns c.args.bytes.now c.args.start c.args.matrix.now c.requires.no_rows c.requires.within c.requires.elements c.requires.enough

pub next_row-requires-clause-within : goal.next_row-requires-clause-within
next_row-requires-clause-within c = c.loop.invariant.within

pub next_row-requires-clause-elements : goal.next_row-requires-clause-elements
next_row-requires-clause-elements c = c.loop.invariant.elements

pub next_row-requires-clause-enough : goal.next_row-requires-clause-enough
next_row-requires-clause-enough c = row_left c.args.field c.args.rows c.args.columns c.args.bytes.now c.args.start c.loop.counter c.loop.at c.loop.matrix c.loop.invariant c.loop-test.true

pub push_row-requires-clause-field : goal.push_row-requires-clause-field
push_row-requires-clause-field c = rw (c.in_ok-row.ensures.field, c.loop.invariant.order) refl

pub push_row-requires-clause-fits : goal.push_row-requires-clause-fits
push_row-requires-clause-fits c = rw (c.in_ok-row.ensures.columns, c.loop.invariant.cols) refl

pub push_row-requires-clause-room : goal.push_row-requires-clause-room
push_row-requires-clause-room c = omega (arith, c.loop.invariant.counted, c.loop-test.true, c.requires.rows_fit)

pub loop-preserved : goal.loop-preserved
loop-preserved c =
    rows_more c.args.field c.args.rows c.args.columns c.args.bytes.now c.args.start c.loop.counter c.loop.at c.in_ok-row.end c.loop.matrix c.push_row.new.self c.in_ok-row.row.entries c.loop.invariant c.loop-test.true c.in_ok-row.ensures.within
    c.in_ok-row.ensures.columns c.in_ok-row.ensures.digits c.in_ok-row.ensures.elements_left (when_ok c.push_row.result c.in_ok-map_err.ensures.variant c.push_row.ensures.appended)

pub returns-clause-matrix : goal.returns-clause-matrix
returns-clause-matrix c = rows_done c.args.field c.args.rows c.args.columns c.args.bytes.now c.args.start c.loop.counter c.loop.at c.loop.matrix c.loop.invariant c.loop-test.false

use Rattle.std.proofs.Common.{arith}
use Rattle.std.proofs.lemmas.Result.{err_from_is_err_and}
use Rattle.axe_file.proofs.Checks.{truncated, fault_inside, trailing, no_data_fault}
use Rattle.axe_file.proofs.Scans.{rows_take, data_by_layout}
use Rattle.axe_file.proofs.reading.check_data.Goals as goal

pub overflow_mul-count : goal.overflow_mul-count
overflow_mul-count c =
    let shape = c.args.shape.now in
    omega (arith, rows_take shape.layout shape.rows shape.rows_fit)

pub returns-then-room-count-clause-fault : goal.returns-then-room-count-clause-fault
returns-then-room-count-clause-fault c =
    let shape = c.args.shape.now in
    truncated shape.layout.field shape.rows shape.layout.columns c.args.bytes.now c.args.offset _ (data_by_layout shape.layout shape.rows)
    (omega (arith, c.requires.begun, c.if-room-count.true))

pub returns-in_err-check_bytes-clause-fault : goal.returns-in_err-check_bytes-clause-fault
returns-in_err-check_bytes-clause-fault c =
    let shape = c.args.shape.now in
    let p = err_from_is_err_and c.from_residual.result c.from_residual.ensures.1 in
    rw (p.1, p.2) (fault_inside shape.layout.field shape.rows shape.layout.columns c.args.bytes.now c.args.offset _ (data_by_layout shape.layout shape.rows) _
    (omega (arith, c.requires.begun, c.if-room-count.false)) c.in_err-check_bytes.ensures.fault)

pub returns-then-room-count-2-clause-fault : goal.returns-then-room-count-2-clause-fault
returns-then-room-count-2-clause-fault c =
    let shape = c.args.shape.now in
    trailing shape.layout.field shape.rows shape.layout.columns c.args.bytes.now c.args.offset _ (data_by_layout shape.layout shape.rows)
    c.in_ok-check_bytes.ensures.faultless (omega (arith, c.requires.begun, c.if-room-count-2.true))

pub returns-clause-faultless : goal.returns-clause-faultless
returns-clause-faultless c =
    let shape = c.args.shape.now in
    no_data_fault shape.layout.field shape.rows shape.layout.columns c.args.bytes.now c.args.offset _ (data_by_layout shape.layout shape.rows)
    c.in_ok-check_bytes.ensures.faultless (omega (arith, c.requires.begun, c.if-room-count.false, c.if-room-count-2.false))

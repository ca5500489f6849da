use Rattle.std.proofs.Common.{◌≡◌, subst, zero-add, arith, []}
use Rattle.std.specs.List.{flat_map, range_with_len}
use Rattle.std.proofs.lemmas.Result.{err_from_is_err_and}
use Rattle.axe_file.specs.Packed.{byte_faults}
use Rattle.axe_file.proofs.Checks.{bad_byte, first_fault_at, first_in_part}
use Rattle.axe_file.proofs.reading.check_bytes.Goals as goal

pub returns-in_err-check_last_bytes-clause-fault : goal.returns-in_err-check_last_bytes-clause-fault
returns-in_err-check_last_bytes-clause-fault c =
    let layout = c.args.layout.now in
    let p = err_from_is_err_and c.from_residual.result c.from_residual.ensures.1 in
    rw (p.1, p.2) (first_in_part (byte_faults layout.field layout.columns c.args.bytes.now c.args.offset) _ 0 c.fitting_bytes-fitting.result c.args.count c.fitting_bytes-fitting.ensures.within c.in_err-check_last_bytes.ensures.fault)

pub returns-then-fitting-count-clause-fault : goal.returns-then-fitting-count-clause-fault
returns-then-fitting-count-clause-fault c =
    let layout = c.args.layout.now in
    let place = c.fitting_bytes-fitting.result in
    first_fault_at (byte_faults layout.field layout.columns c.args.bytes.now c.args.offset) _ 0 c.args.count place place (zero-add _) c.if-fitting-count.true c.in_ok-check_last_bytes.ensures.faultless
    (bad_byte layout.field layout.columns c.args.bytes.now c.args.offset place (rw (← layout.limit_is) (c.fitting_bytes-fitting.ensures.next c.if-fitting-count.true)))

pub returns-clause-faultless : goal.returns-clause-faultless
returns-clause-faultless c =
    let layout = c.args.layout.now in
    let all : c.fitting_bytes-fitting.result ≡ c.args.count = omega (arith, c.fitting_bytes-fitting.ensures.within, c.if-fitting-count.false) in
    subst (λ n. flat_map (byte_faults layout.field layout.columns c.args.bytes.now c.args.offset) (range_with_len 0 n) ≡ []) all c.in_ok-check_last_bytes.ensures.faultless

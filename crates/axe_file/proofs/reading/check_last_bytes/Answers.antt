use Rattle.std.proofs.Common.{◌+◌, ◌-◌, ◌*◌, ◌<◌, refl, sym, ◌∙◌, zero-add, arith}
use Rattle.axe_file.specs.Packed.{byte_faults}
use Rattle.axe_file.proofs.Checks.{first_fault_at}
use Rattle.axe_file.proofs.LastBytes.{faultless_to_last, faultless_row, last_inside, last_is_bad, last_is_sound, rest_is_short}
use Rattle.axe_file.proofs.Ranges.{no_faults}
use Rattle.axe_file.proofs.Scans.{some_width}
use Rattle.axe_file.proofs.reading.check_last_bytes.Goals as goal

pub nonzero_div-index-end : goal.nonzero_div-index-end
nonzero_div-index-end c = some_width c.args.layout.now c.requires.some_column

pub returns-then-has_unused_mark-clause-fault : goal.returns-then-has_unused_mark-clause-fault
returns-then-has_unused_mark-clause-fault c =
    let bytes = c.args.bytes.now in
    let layout = c.args.layout.now in
    let offset = c.args.offset in
    let index = c.loop-index.index in
    let place = index * layout.width + (layout.width - 1) in
    let positive : 0 < layout.width = some_width layout c.requires.some_column in
    let inside : place < c.args.count = last_inside c.args.count layout.width index positive c.loop-index-test.true in
    let faults = byte_faults layout.field layout.columns bytes offset in
    let before = no_faults faults 0 place (λ p low high.
    faultless_to_last layout bytes offset c.args.count c.requires.below index place (omega (arith, inside)) c.loop-index.invariant (omega arith) p (omega (arith, high))) in
    first_fault_at faults _ 0 c.args.count place place (zero-add _) inside before
    (last_is_bad layout bytes offset c.args.count c.requires.below index place inside positive refl (sym c.has_unused_mark.ensures ∙ c.if-has_unused_mark.true))

pub loop-index-preserved : goal.loop-index-preserved
loop-index-preserved c =
    let bytes = c.args.bytes.now in
    let layout = c.args.layout.now in
    let offset = c.args.offset in
    let index = c.loop-index.index in
    let place = index * layout.width + (layout.width - 1) in
    let positive : 0 < layout.width = some_width layout c.requires.some_column in
    let inside : place < c.args.count = last_inside c.args.count layout.width index positive c.loop-index-test.true in
    faultless_row layout bytes offset c.args.count c.requires.below index place _ inside c.loop-index.invariant refl
    (last_is_sound layout bytes offset c.args.count c.requires.below index place inside positive refl (sym c.has_unused_mark.ensures ∙ c.if-has_unused_mark.false))
    refl

pub returns-clause-faultless : goal.returns-clause-faultless
returns-clause-faultless c =
    let bytes = c.args.bytes.now in
    let layout = c.args.layout.now in
    let offset = c.args.offset in
    let positive : 0 < layout.width = some_width layout c.requires.some_column in
    no_faults (byte_faults layout.field layout.columns bytes offset) 0 c.args.count (λ p low high.
    faultless_to_last layout bytes offset c.args.count c.requires.below c.loop-index.index c.args.count (omega arith) c.loop-index.invariant
    (rest_is_short c.args.count layout.width c.loop-index.index positive (omega (arith, c.loop-index-test.false))) p (omega (arith, high)))

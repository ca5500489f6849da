use Rattle.std.proofs.Common.{◌-◌, arith, sym, ◌∙◌}
use Rattle.axe_file.proofs.TextRuns.{scan_run, run_is_over}
use Rattle.axe_file.proofs.TextScans.{scan_white, scan_trailing, scan_bad, scan_end, scan_few}
use Rattle.axe_file.proofs.text_reading.check_digits.Goals as goal

pub returns-then-left-eq0 : goal.returns-then-left-eq0
returns-then-left-eq0 c =
    let at = c.loop-at.at in
    let end = c.end_of_digits-end.result in
    sym c.loop-at.invariant
    ∙ scan_run c.args.order c.loop-at.left c.args.bytes.now at (end - at) end (omega (arith, c.end_of_digits-end.ensures)) (omega (arith, c.end_of_digits-end.ensures)) (omega (arith, c.end_of_digits-end.ensures))
    ∙ scan_trailing c.args.order (c.loop-at.left - (end - at)) c.args.bytes.now end c.if-at-bytes.true (sym c.is_white.ensures ∙ c.if-not-is_white.true) c.if-left-eq0.true

pub returns-then-not-is_white : goal.returns-then-not-is_white
returns-then-not-is_white c =
    let at = c.loop-at.at in
    let end = c.end_of_digits-end.result in
    sym c.loop-at.invariant
    ∙ scan_run c.args.order c.loop-at.left c.args.bytes.now at (end - at) end (omega (arith, c.end_of_digits-end.ensures)) (omega (arith, c.end_of_digits-end.ensures)) (omega (arith, c.end_of_digits-end.ensures))
    ∙ scan_bad c.args.order (c.loop-at.left - (end - at)) c.args.bytes.now end c.if-at-bytes.true (sym c.is_white.ensures ∙ c.if-not-is_white.true)
    (run_is_over c.args.order c.args.bytes.now at end (omega (arith, c.end_of_digits-end.ensures, c.if-left-eq0.false)) c.if-at-bytes.true) c.if-left-eq0.false

pub loop-at-preserved-then-at-bytes : goal.loop-at-preserved-then-at-bytes
loop-at-preserved-then-at-bytes c =
    let at = c.loop-at.at in
    let end = c.end_of_digits-end.result in
    let before =
    scan_run c.args.order c.loop-at.left c.args.bytes.now at (end - at) end (omega (arith, c.end_of_digits-end.ensures)) (omega (arith, c.end_of_digits-end.ensures)) (omega (arith, c.end_of_digits-end.ensures)) in
    scan_white c.args.order (c.loop-at.left - (end - at)) c.args.bytes.now end c.if-at-bytes.true (sym c.is_white.ensures ∙ c.if-not-is_white.false) ∙ sym before ∙ c.loop-at.invariant

pub loop-at-preserved : goal.loop-at-preserved
loop-at-preserved c =
    let at = c.loop-at.at in
    let end = c.end_of_digits-end.result in
    let before =
    scan_run c.args.order c.loop-at.left c.args.bytes.now at (end - at) end (omega (arith, c.end_of_digits-end.ensures)) (omega (arith, c.end_of_digits-end.ensures)) (omega (arith, c.end_of_digits-end.ensures)) in
    sym before ∙ c.loop-at.invariant

pub returns-then-left-eq0-2 : goal.returns-then-left-eq0-2
returns-then-left-eq0-2 c = sym c.loop-at.invariant ∙ scan_end c.args.order c.loop-at.left c.args.bytes.now c.loop-at.at c.loop-at-test.false c.if-left-eq0-2.true

pub returns-else-left-eq0-2 : goal.returns-else-left-eq0-2
returns-else-left-eq0-2 c = sym c.loop-at.invariant ∙ scan_few c.args.order c.loop-at.left c.args.bytes.now c.loop-at.at c.loop-at-test.false c.if-left-eq0-2.false

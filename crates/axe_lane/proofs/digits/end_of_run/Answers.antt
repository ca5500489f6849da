use Rattle.std.proofs.Common.{◌≡◌, ◌+◌, ◌*◌, ◌≤◌, length, arith, ◌∙◌}
use Rattle.std.specs.List.{prefix_len}
use Rattle.std.specs.Simd.Lanes.{chunk}
use Rattle.std.proofs.lemmas.List.Sums.{prefix_len-le-length}
use Rattle.std.proofs.lemmas.Simd.{length-chunk}
use Rattle.axe_lane.specs.Runs.{is_within}
use Rattle.axe_lane.proofs.RunLaws.{run_goes_on, run_ends, run_has, run_stops, run_at_end, within_from_test, outside_from_test}
use Rattle.axe_lane.proofs.digits.end_of_run.Goals as goal

pub returns-then-run-lt-BLOCK : goal.returns-then-run-lt-BLOCK
returns-then-run-lt-BLOCK c =
    let p = is_within c.args.low c.args.count in
    let bytes = c.args.bytes.now in
    let at = c.args.start + c.loop-block.block * 16 in
    let room : at + 16 ≤ length bytes = omega (arith, c.loop-block-test.true, c.requires.within) in
    let run = run_ends p bytes at 16 room (omega (arith, c.run_in_block-run.ensures, c.if-run-lt-BLOCK.true)) in
    omega (arith, c.loop-block.invariant, run, c.run_in_block-run.ensures)

pub loop-block-preserved : goal.loop-block-preserved
loop-block-preserved c =
    let p = is_within c.args.low c.args.count in
    let bytes = c.args.bytes.now in
    let at = c.args.start + c.loop-block.block * 16 in
    let room : at + 16 ≤ length bytes = omega (arith, c.loop-block-test.true, c.requires.within) in
    let all : prefix_len p (chunk at 16 bytes) ≡ 16 =
    omega (arith, prefix_len-le-length p (chunk at 16 bytes), length-chunk at 16 bytes room, c.run_in_block-run.ensures, c.if-run-lt-BLOCK.false) in
    c.loop-block.invariant ∙ run_goes_on p bytes at 16 (c.args.start + (c.loop-block.block + 1) * 16) room all (omega arith)

pub returns-then-bytes-at : goal.returns-then-bytes-at
returns-then-bytes-at c =
    let p = is_within c.args.low c.args.count in
    let at = c.loop-at.at in
    let byte = (c.type_inv.bytes at).fits in
    let none = run_stops p c.args.bytes.now at c.loop-at-test.true (outside_from_test c.args.low c.args.count _ c.requires.fits byte c.if-bytes-at.true) in
    omega (arith, c.loop-at.invariant, none)

pub loop-at-preserved : goal.loop-at-preserved
loop-at-preserved c =
    let p = is_within c.args.low c.args.count in
    let at = c.loop-at.at in
    let byte = (c.type_inv.bytes at).fits in
    c.loop-at.invariant ∙ run_has p c.args.bytes.now at c.loop-at-test.true (within_from_test c.args.low c.args.count _ c.requires.fits byte c.if-bytes-at.false)

pub returns : goal.returns
returns c =
    let p = is_within c.args.low c.args.count in
    let none = run_at_end p c.args.bytes.now c.loop-at.at c.loop-at-test.false in
    omega (arith, c.loop-at.invariant, none, c.loop-at.auto.at, c.loop-at.auto.at-end)

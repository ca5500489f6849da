use Rattle.std.proofs.Common.{◌≡◌, ◌+◌, ◌*◌, drop}
use Rattle.std.specs.List.{prefix_len}
use Rattle.axe_lane.specs.Runs.{is_within}
use Rattle.axe_lane.proofs.digits.end_of_run.Given as goal

abbrev pub invariant-loop-block : goal.invariant-loop-block
invariant-loop-block l =
    l.start + prefix_len (is_within l.low l.count) (drop l.start l.bytes)
    ≡ l.start + l.block * 16 + prefix_len (is_within l.low l.count) (drop (l.start + l.block * 16) l.bytes)

abbrev pub invariant-loop-at : goal.invariant-loop-at
invariant-loop-at l =
    l.start + prefix_len (is_within l.low l.count) (drop l.start l.bytes) ≡ l.at + prefix_len (is_within l.low l.count) (drop l.at l.bytes)

use Rattle.std.proofs.Common.{◌≡◌, ◌+◌, ◌*◌, ◌%◌}
use Rattle.axe_lane.proofs.Progress.{combined_to}
use Rattle.axe_lane.proofs.digits.add_to_each.Given as goal

abbrev pub invariant-loop-block : goal.invariant-loop-block
invariant-loop-block l = l.bytes ≡ combined_to (λ x y. (x + l.number) % 256) (l.block * 16) l.fn.bytes l.fn.bytes

abbrev pub invariant-loop-at : goal.invariant-loop-at
invariant-loop-at l = l.bytes ≡ combined_to (λ x y. (x + l.number) % 256) l.at l.fn.bytes l.fn.bytes

use Rattle.std.proofs.Common.{◌≡◌, ◌/◌, ◌%◌}
use Rattle.axe_layer.proofs.NumberDigits.{mapped_to}
use Rattle.axe_plane.proofs.bytes.reduce.Given as goal

abbrev pub invariant-loop-at : goal.invariant-loop-at
invariant-loop-at g l = l.bytes.items ≡ mapped_to (λ byte. (byte / g.row.D) % g.row.P) l.at l.fn.bytes.items

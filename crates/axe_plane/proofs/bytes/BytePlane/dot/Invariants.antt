use Rattle.std.proofs.Common.{◌≡◌, ◌*◌, ◌%◌, take}
use Rattle.std.specs.Simd.Lanes.{sum_l, zip2}
use Rattle.axe_plane.specs.Primes.{byte_prime}
use Rattle.axe_plane.proofs.bytes.BytePlane.dot.Given as goal

abbrev pub invariant-loop-piece : goal.invariant-loop-piece
invariant-loop-piece l =
    l.sum ≡ sum_l (take (l.piece * 4096) (zip2 (λ x y. x * y) l.self-inside.bytes.items l.other-inside.bytes.items)) % byte_prime l.self-inside.prime

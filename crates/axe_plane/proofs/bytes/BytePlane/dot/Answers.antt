use Rattle.std.proofs.Common.{◌≡◌, ◌+◌, ◌*◌, ◌/◌, ◌%◌, length, ap, ap₂, sym, take, ◌∙◌, arith}
use Rattle.std.specs.Simd.Lanes.{sum_l, zip2}
use Rattle.axe_lane.specs.Bytes.{sum_of_products}
use Rattle.axe_plane.specs.Primes.{byte_prime, ByteDigits}
use Rattle.axe_layer.proofs.DotLaws.{dot_more, dot_all}
use Rattle.axe_plane.proofs.bytes.BytePlane.dot.Goals as goal

pub loop-piece-preserved : goal.loop-piece-preserved
loop-piece-preserved c =
    dot_more _ _ _ ((c.loop-piece.piece + 1) * 4096) _ _ _ _ c.self.inside.bytes.items c.other.inside.bytes.items _ _
    (omega arith) (omega arith) c.deref.ensures.value c.deref-in-loop-piece.ensures.value c.number-prime.ensures c.loop-piece.invariant c.dot_bytes.ensures

pub returns : goal.returns
returns c =
    let a = c.self.inside.bytes.items in
    let b = c.other.inside.bytes.items in
    let same : length b ≡ length a =
    ap (λ (s : ByteDigits). length s.digits) c.other.view_is ∙ c.requires.fits ∙ sym (ap (λ (s : ByteDigits). length s.digits) c.self.view_is) in
    let left = ap length c.deref-2.ensures.value in
    let right = ap length c.deref-3.ensures.value in
    let last : c.loop-piece.piece * 4096 ≡ c.len-whole.result / 4096 * 4096 = omega arith in
    let so_far = c.loop-piece.invariant ∙ ap (λ n. sum_l (take n (zip2 (λ x y. x * y) a b)) % byte_prime c.self.inside.prime) last in
    dot_more _ _ _ (length a) _ _ _ _ a b _ _ (omega (arith, left)) (omega (arith, left, right, same))
    c.deref-2.ensures.value c.deref-3.ensures.value c.number-prime.ensures so_far c.dot_bytes-2.ensures
    ∙ ap (λ s. s % byte_prime c.self.inside.prime) (dot_all (length a) a b same (omega arith))
    ∙ ap₂ (λ (s : ByteDigits) (t : ByteDigits). sum_of_products s.digits t.digits % byte_prime s.prime) c.self.view_is c.other.view_is

pub dot_bytes-requires-clause-fits : goal.dot_bytes-requires-clause-fits
dot_bytes-requires-clause-fits c = omega arith

use Rattle.std.proofs.Common.{◌≡◌, ◌++◌, ◌+◌, ◌-◌, ◌*◌, ◌%◌, ◌<◌, ◌≤◌, List, ℕ, length, get_or, take, drop, ap, sym, subst, ◌∙◌, arith}
use Rattle.std.specs.Simd.Lanes.{zip2}
use Rattle.axe_lane.specs.Entries.{AreZerosBefore}
use Rattle.axe_lane.specs.Bytes.{AreDigits}
use Rattle.axe_layer.specs.Digits.{digits_with_multiple}
use Rattle.axe_layer.proofs.DigitLaws.{digit-below, zip2-sum}
use Rattle.axe_layer.proofs.EndLaws.{zip2-written}
use Rattle.axe_plane.specs.Primes.{byte_prime, ByteDigits}
use Rattle.axe_plane.proofs.PlaneLaws.{byte_prime-positive, unchanged}
use Rattle.axe_plane.proofs.bytes.BytePlane.add_scaled_from.Goals as goal

-- the bytes after
after : (k r p m start : ℕ) (a b v w dst : List ℕ) → k ≡ length a → v ≡ a → w ≡ b → r ≡ p → length b ≡ length a → start ≤ length a →
    AreZerosBefore b start → 0 < p → AreDigits p a →
    dst ≡ zip2 (λ x y. (x + m * y) % r) (take (length v - start) (drop start v)) (take (length w - start) (drop start w)) →
    take k ((take start v ++ (dst ++ drop (length v - start) (drop start v)))
    ++ drop (length (take start v ++ (dst ++ drop (length v - start) (drop start v)))) a) ≡ digits_with_multiple p a m b
after k r p m start a b v w dst all ev ew er same within zeros positive digits e =
    zip2-written (λ x y. (x + m * y) % p) start a b within same
    (λ j before. unchanged p m (get_or a j 0) (get_or b j 0) (digit-below p a j positive digits) (zeros j before)) k v w dst all ev ew
    (e ∙ ap (λ s. zip2 (λ x y. (x + m * y) % s) (take (length v - start) (drop start v)) (take (length w - start) (drop start w))) er)
    ∙ zip2-sum p a m b same

pub returns : goal.returns
returns c =
    let mine = ap (λ (s : ByteDigits). length s.digits) c.self.view_is in
    let same : length c.other.inside.bytes.items ≡ length c.self.inside.bytes.items =
    ap (λ (s : ByteDigits). length s.digits) c.other.view_is ∙ c.requires.fits ∙ sym mine in
    let within : c.args.start ≤ length c.self.inside.bytes.items = omega (arith, c.requires.within, mine) in
    let zeros = subst (λ (s : ByteDigits). AreZerosBefore s.digits c.args.start) (sym c.other.view_is) c.requires.zeros in
    let digits = after _ _ _ _ c.args.start _ _ _ _ _ c.self.inside.bytes.ok.0 c.deref_mut.ensures.value c.deref.ensures.value c.number-prime.ensures same
    within zeros (byte_prime-positive c.self.inside.prime) c.self.invariant c.add_scaled_bytes.ensures.sum in
    ap (λ (x : List ℕ). record { prime = c.self.inside.prime; digits = x }) digits
    ∙ ap (λ (s : ByteDigits). record { prime = s.prime; digits = digits_with_multiple (byte_prime s.prime) s.digits c.args.factor c.other.inside.bytes.items }) c.self.view_is
    ∙ ap (λ (t : ByteDigits). record { prime = c.args.self.now.prime; digits = digits_with_multiple (byte_prime c.args.self.now.prime) c.args.self.now.digits c.args.factor t.digits }) c.other.view_is

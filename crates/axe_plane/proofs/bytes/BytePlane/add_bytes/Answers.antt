use Rattle.std.proofs.Common.{◌≡◌, ◌++◌, ◌+◌, ◌*◌, ◌%◌, List, ℕ, length, take, drop, ap, sym, ◌∙◌}
use Rattle.std.specs.Simd.Lanes.{zip2}
use Rattle.axe_layer.specs.Digits.{digits_with_multiple}
use Rattle.axe_plane.specs.Primes.{byte_prime, ByteDigits}
use Rattle.axe_layer.proofs.BitLaws.{written}
use Rattle.axe_layer.proofs.DigitLaws.{zip2-sum, length-digits_with_multiple}
use Rattle.axe_plane.proofs.bytes.BytePlane.add_bytes.Goals as goal

-- the bytes after
after : (k r p m : ℕ) (a b x dst : List ℕ) → k ≡ length a → x ≡ a → r ≡ p → length b ≡ length a →
    dst ≡ zip2 (λ x y. (x + m * y) % r) x b → take k (dst ++ drop (length dst) a) ≡ digits_with_multiple p a m b
after k r p m a b x dst all ex er same e =
    let sum : dst ≡ digits_with_multiple p a m b =
    e ∙ ap (λ s. zip2 (λ x y. (x + m * y) % s) x b) er ∙ ap (λ (s : List ℕ). zip2 (λ x y. (x + m * y) % p) s b) ex ∙ zip2-sum p a m b same in
    written k dst a all (ap length sum ∙ length-digits_with_multiple p a m b) ∙ sum

pub returns : goal.returns
returns c =
    let same : length c.args.bytes.now ≡ length c.self.inside.bytes.items =
    c.requires.fits ∙ sym (ap (λ (s : ByteDigits). length s.digits) c.self.view_is) in
    let digits = after _ _ _ _ _ _ _ _ c.self.inside.bytes.ok.0 c.deref_mut.ensures.value c.number-prime.ensures same c.add_scaled_bytes.ensures.sum in
    ap (λ (x : List ℕ). record { prime = c.self.inside.prime; digits = x }) digits
    ∙ ap (λ (s : ByteDigits). record { prime = s.prime; digits = digits_with_multiple (byte_prime s.prime) s.digits c.args.factor c.args.bytes.now }) c.self.view_is

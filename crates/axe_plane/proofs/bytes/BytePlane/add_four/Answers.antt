use Rattle.std.proofs.Common.{◌≡◌, ◌++◌, List, ℕ, length, take, drop, ap, sym, ◌∙◌}
use Rattle.axe_lane.specs.Bytes.{sum_modulo}
use Rattle.axe_layer.specs.Digits.{digits_with_four}
use Rattle.axe_plane.specs.Primes.{byte_prime, ByteDigits}
use Rattle.axe_layer.proofs.BitLaws.{written}
use Rattle.axe_layer.proofs.DigitLaws.{sum_of_five, length-digits_with_four}
use Rattle.axe_plane.proofs.bytes.BytePlane.add_four.Goals as goal

-- the bytes after
after : (k r p : ℕ) (x a b c d v dst : List ℕ) → k ≡ length x → v ≡ x → r ≡ p →
    length a ≡ length x → length b ≡ length x → length c ≡ length x → length d ≡ length x →
    dst ≡ sum_modulo r (sum_modulo r (sum_modulo r (sum_modulo r v a) b) c) d → take k (dst ++ drop (length dst) x) ≡ digits_with_four p x a b c d
after k r p x a b c d v dst all ev er ha hb hc hd e =
    let sum : dst ≡ digits_with_four p x a b c d =
    e ∙ ap (λ s. sum_modulo s (sum_modulo s (sum_modulo s (sum_modulo s v a) b) c) d) er
    ∙ ap (λ (s : List ℕ). sum_modulo p (sum_modulo p (sum_modulo p (sum_modulo p s a) b) c) d) ev ∙ sum_of_five p x a b c d ha hb hc hd in
    written k dst x all (ap length sum ∙ length-digits_with_four p x a b c d) ∙ sum

pub returns : goal.returns
returns c =
    let own = sym (ap (λ (s : ByteDigits). length s.digits) c.self.view_is) in
    let digits = after _ _ _ _ _ _ _ _ _ _ c.self.inside.bytes.ok.0 c.deref_mut.ensures.value c.number-prime.ensures
    (c.requires.fits.0 ∙ own) (c.requires.fits.1 ∙ own) (c.requires.fits.2 ∙ own) (c.requires.fits.3 ∙ own) c.add4_bytes.ensures.sum in
    ap (λ (x : List ℕ). record { prime = c.self.inside.prime; digits = x }) digits
    ∙ ap (λ (s : ByteDigits). record { prime = s.prime; digits = digits_with_four (byte_prime s.prime) s.digits c.args.a.now c.args.b.now c.args.c.now c.args.d.now }) c.self.view_is

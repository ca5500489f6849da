use Rattle.std.proofs.Common.{◌≡◌, ◌++◌, List, ℕ, length, take, drop, ap, sym, ◌∙◌}
use Rattle.axe_lane.specs.Bytes.{sum_with_four_multiples}
use Rattle.axe_plane.specs.Primes.{byte_prime, ByteDigits}
use Rattle.axe_layer.proofs.BitLaws.{written}
use Rattle.axe_plane.proofs.FourMultiples.{with_multiples, length-with_multiples, sums_with_multiples}
use Rattle.axe_plane.proofs.bytes.BytePlane.add_four_multiples.Goals as goal

-- the bytes after
after : (k r p : ℕ) (factors x a b c d v dst : List ℕ) → k ≡ length x → v ≡ x → r ≡ p →
    length a ≡ length x → length b ≡ length x → length c ≡ length x → length d ≡ length x →
    dst ≡ sum_with_four_multiples r factors v a b c d → take k (dst ++ drop (length dst) x) ≡ with_multiples p factors x a b c d
after k r p factors x a b c d v dst all ev er ha hb hc hd e =
    let sum : dst ≡ with_multiples p factors x a b c d =
    e ∙ ap (λ s. sum_with_four_multiples s factors v a b c d) er
    ∙ ap (λ (s : List ℕ). sum_with_four_multiples p factors s a b c d) ev ∙ sums_with_multiples p factors x a b c d ha hb hc hd in
    written k dst x all (ap length sum ∙ length-with_multiples p factors x a b c d) ∙ sum

pub returns : goal.returns
returns c =
    let own = sym (ap (λ (s : ByteDigits). length s.digits) c.self.view_is) in
    let digits = after _ _ _ c.args.factors _ _ _ _ _ _ _ c.self.inside.bytes.ok.0 c.deref_mut.ensures.value c.number-prime.ensures
    (c.requires.fits.0 ∙ own) (c.requires.fits.1 ∙ own) (c.requires.fits.2 ∙ own) (c.requires.fits.3 ∙ own) c.add4_scaled_bytes.ensures.sum in
    ap (λ (x : List ℕ). record { prime = c.self.inside.prime; digits = x }) digits
    ∙ ap (λ (s : ByteDigits). record { prime = s.prime; digits = with_multiples (byte_prime s.prime) c.args.factors s.digits c.args.a.now c.args.b.now c.args.c.now c.args.d.now }) c.self.view_is

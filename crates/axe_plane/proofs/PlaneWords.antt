-- Planes in which the digits of one word are replaced.
use Rattle.std.proofs.Common.{◌≡◌, ℕ, ◌<◌, List, get_or, length, sym, ap, subst, ◌∙◌, arith}
use Rattle.std.specs.Int.{bit_at}
use Rattle.axe_lane.specs.Bytes.{AreDigits}
use Rattle.axe_layer.specs.Words.{digit_of_words, digits_with_word}
use Rattle.axe_layer.proofs.WordWrites.{length-digits_with_word, AreDigits-digits_with_word, digits_with_word-as}
use Rattle.axe_plane.specs.Planes.{prime_of_plane, digits_of, IsPlane, IsPlaneOf}
use Rattle.axe_plane.specs.declared.Plane.{Plane}
use Rattle.axe_plane.specs.declared.Plane.TheVariants.{Bits}

-- modulo 2 the digits are the bits of the first word
pub bits_with_word : (plane : Plane) (digits : List ℕ) (k : ℕ) (words after : List ℕ) → plane ≡ Bits digits →
    ((i : ℕ) → i < 64 → digit_of_words words i < prime_of_plane plane) → after ≡ digits_with_word digits k (bit_at (get_or words 0 0)) →
    IsPlane (prime_of_plane plane) (digits_with_word (digits_of plane) k (digit_of_words words)) (Bits after)
bits_with_word plane digits k words after is small after_is = record {
  prime = sym (ap prime_of_plane is);
  digits_are =
      after_is ∙ digits_with_word-as digits k (bit_at (get_or words 0 0)) (digit_of_words words) (λ i low. omega (arith, small i low, ap prime_of_plane is))
      ∙ ap (λ (x : Plane). digits_with_word (digits_of x) k (digit_of_words words)) (sym is);
}

-- a plane of as many digits
pub plane_of_word : (p n k : ℕ) (word : ℕ → ℕ) (before after : Plane) → ((i : ℕ) → i < 64 → word i < p) → IsPlaneOf p n before →
    IsPlane (prime_of_plane before) (digits_with_word (digits_of before) k word) after → IsPlaneOf p n after
plane_of_word p n k word before after small h e = record {
  prime = e.prime ∙ h.prime;
  long = ap length e.digits_are ∙ length-digits_with_word (digits_of before) k word ∙ h.long;
  digits = subst (AreDigits p) (sym e.digits_are) (AreDigits-digits_with_word p (digits_of before) k word h.digits small);
}

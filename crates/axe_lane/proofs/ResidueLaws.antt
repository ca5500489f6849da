-- How conditional subtractions of multiples of a prime reduce a number below 8 times the prime, or below 32 times it.
use Rattle.std.proofs.Common.{◌≡◌, ℕ, ◌+◌, ◌-◌, ◌*◌, ◌%◌, ◌<◌, ◌≤◌, cond, ltb, refl, sym, ap, ◌∙◌, arith, inl, inr}
use Rattle.std.proofs.lemmas.Bool.{le-leb, lt-leb, lt-ltb, le-ltb, cases_lt}
use Rattle.std.proofs.lemmas.Nat.{mul-le}
use Rattle.std.proofs.Math.Nat.{add-mul-mod_self_right, mod-eq_of_lt, mod-lt}
use Rattle.axe_lane.specs.Bytes.{IsSmallPrime, less_where_not_below}

pub small_primes : (p : ℕ) → IsSmallPrime p → (1 < p) × (p < 8)
small_primes p (inl e) = (omega arith, omega arith)
small_primes p (inr (inl e)) = (omega arith, omega arith)
small_primes p (inr (inr (inl e))) = (omega arith, omega arith)
small_primes p (inr (inr (inr e))) = (omega arith, omega arith)

abbrev L : ℕ → ℕ → ℕ
L = less_where_not_below

pub stays : (b x : ℕ) → x < b → L b x ≡ x
stays b x h = ap (λ t. cond t (x - b) x) (lt-leb b x h)

pub falls : (b x : ℕ) → b ≤ x → L b x ≡ x - b
falls b x h = ap (λ t. cond t (x - b) x) (le-leb b x h)

-- one subtraction halves the bound
pub less_below : (b x : ℕ) → x < b + b → L b x < b
less_below b x h = elim (cases_lt x b) [ inl l ↦ omega (arith, stays b x l) | inr g ↦ omega (arith, falls b x g) ]

-- and keeps the residue
pub less_mod : (b k p x : ℕ) → b ≡ k * p → L b x % p ≡ x % p
less_mod b k p x e =
    elim (cases_lt x b) [
      | inl l ↦ ap (λ y. y % p) (stays b x l)
      | inr g ↦
          let whole : x ≡ L b x + k * p = omega (arith, falls b x g) in
          sym (ap (λ y. y % p) whole ∙ add-mul-mod_self_right (L b x) k p)
    ]

once : (p z : ℕ) → z < 2 * p → L p z ≡ z % p
once p z h = sym (mod-eq_of_lt (less_below p z (omega arith))) ∙ less_mod p 1 p z (omega arith)

twice : (p z : ℕ) → z < 4 * p → L p (L (2 * p) z) ≡ z % p
twice p z h = once p (L (2 * p) z) (less_below (2 * p) z (omega arith)) ∙ less_mod (2 * p) 2 p z refl

pub thrice : (p z : ℕ) → z < 8 * p → L p (L (2 * p) (L (4 * p) z)) ≡ z % p
thrice p z h = twice p (L (4 * p) z) (less_below (4 * p) z (omega arith)) ∙ less_mod (4 * p) 4 p z refl

four_times : (p z : ℕ) → z < 16 * p → L p (L (2 * p) (L (4 * p) (L (8 * p) z))) ≡ z % p
four_times p z h = thrice p (L (8 * p) z) (less_below (8 * p) z (omega arith)) ∙ less_mod (8 * p) 8 p z refl

pub five_times : (p z : ℕ) → z < 32 * p → L p (L (2 * p) (L (4 * p) (L (8 * p) (L (16 * p) z)))) ≡ z % p
five_times p z h = four_times p (L (16 * p) z) (less_below (16 * p) z (omega arith)) ∙ less_mod (16 * p) 16 p z refl

-- a byte, where p is from 4 to 7
pub six_times : (p z : ℕ) → 4 ≤ p → z < 256 → L p (L (2 * p) (L (4 * p) (L (8 * p) (L (16 * p) (L (32 * p) z))))) ≡ z % p
six_times p z large h = five_times p (L (32 * p) z) (less_below (32 * p) z (omega arith)) ∙ less_mod (32 * p) 32 p z refl

-- x, y and a factor m are below p
module _ (p m x y : ℕ) (few : p < 8) (m_below : m < p) (x_below : x < p) (y_below : y < p) where
  unreduced : x + m * y < 7 * p
  unreduced =
      let multiple = mul-le m (y + 1) m p (omega arith) (omega arith) in
      omega (arith, multiple, mul-le m p 6 p (omega arith) (omega arith))

  pub sum_is_byte : x + m * y < 256
  sum_is_byte = omega (arith, unreduced)

  pub reduced_sum : L p (L (2 * p) (L (4 * p) ((x + m * y) % 256))) ≡ (x + m * y) % p
  reduced_sum =
      ap (λ z. L p (L (2 * p) (L (4 * p) z))) (mod-eq_of_lt sum_is_byte)
      ∙ thrice p (x + m * y) (omega (arith, unreduced))

-- a multiple alone
pub multiple_is_byte : (p m y : ℕ) → p < 8 → m < p → y < p → m * y < 256
multiple_is_byte p m y few m_below y_below = omega (arith, sum_is_byte p m 0 y few m_below (omega arith) y_below)

-- a difference of bytes wraps where it would be negative, and is then the greater number
pub min_is_less : (by x : ℕ) → by < 256 → x < 256 → cond (ltb x ((x + (256 - by)) % 256)) x ((x + (256 - by)) % 256) ≡ L by x
min_is_less by x b h =
    let w : ℕ = (x + (256 - by)) % 256 in
    elim (cases_lt x by) [
      | inl l ↦
          let more : x < w = omega arith in
          ap (λ t. cond t x w) (lt-ltb x w more) ∙ sym (stays by x l)
      | inr g ↦
          let less : w ≤ x = omega arith in
          let low : w ≡ x - by = omega arith in
          ap (λ t. cond t x w) (le-ltb x w less) ∙ low ∙ sym (falls by x g)
    ]

-- a residue is below the modulus
pub below_mod : (p z : ℕ) → 1 < p → z % p < p
below_mod p z h = mod-lt z (omega arith)

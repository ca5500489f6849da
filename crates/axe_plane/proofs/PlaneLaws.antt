-- Planes as their primes and digits.
use Rattle.std.proofs.Common.{◌≡◌, ℕ, ◌+◌, ◌*◌, ◌%◌, ◌<◌, List, length, set, replicate, refl, sym, ap, subst, ◌∙◌, arith, lit<}
use Rattle.std.proofs.Math.Nat.{mod-eq_of_lt}
use Rattle.axe_lane.specs.Bytes.{AreDigits}
use Rattle.axe_bits.specs.Trits.{trits, HoldLayers}
use Rattle.axe_layer.specs.Bits.{bits}
use Rattle.axe_layer.specs.Digits.{digits_with_four}
use Rattle.axe_plane.specs.Primes.{byte_prime}
use Rattle.axe_plane.specs.Planes.{prime_of_plane, digits_of, IsPlane, IsPlaneOf}
use Rattle.axe_layer.proofs.DigitLaws.{AreDigits-zeros, AreDigits-set}
use Rattle.std.proofs.lemmas.List.{length-replicate, length-set}
use Rattle.axe_plane.specs.declared.Plane.{Plane}
use Rattle.axe_plane.specs.declared.Plane.TheVariants.{Bits, Trits, Bytes}
use Rattle.axe_plane.specs.declared.primes.BytePrime.{BytePrime}
use Rattle.axe_plane.specs.declared.primes.BytePrime.TheVariants.{Five, Seven}

pub byte_prime-positive : (prime : BytePrime) → 0 < byte_prime prime
byte_prime-positive Five = lit< tt
byte_prime-positive Seven = lit< tt

pub prime_of_plane-positive : (plane : Plane) → 0 < prime_of_plane plane
prime_of_plane-positive (Bits digits) = lit< tt
prime_of_plane-positive (Trits digits) = lit< tt
prime_of_plane-positive (Bytes plane) = byte_prime-positive plane.prime

pub byte_prime-injective : (a b : BytePrime) → byte_prime a ≡ byte_prime b → a ≡ b
byte_prime-injective Five Five e = refl
byte_prime-injective Five Seven e = absurd (omega arith)
byte_prime-injective Seven Five e = absurd (omega arith)
byte_prime-injective Seven Seven e = refl

pub byte_prime-above : (prime : BytePrime) → 3 < byte_prime prime
byte_prime-above Five = lit< tt
byte_prime-above Seven = lit< tt

-- planes with one prime and the same digits are equal
pub same_plane : (a b : Plane) → prime_of_plane a ≡ prime_of_plane b → digits_of a ≡ digits_of b → a ≡ b
same_plane (Bits a) (Bits b) prime digits = ap Bits digits
same_plane (Bits a) (Trits b) prime digits = absurd (omega arith)
same_plane (Bits a) (Bytes b) prime digits = absurd (omega (arith, byte_prime-above b.prime))
same_plane (Trits a) (Bits b) prime digits = absurd (omega arith)
same_plane (Trits a) (Trits b) prime digits = ap Trits digits
same_plane (Trits a) (Bytes b) prime digits = absurd (omega (arith, byte_prime-above b.prime))
same_plane (Bytes a) (Bits b) prime digits = absurd (omega (arith, byte_prime-above a.prime))
same_plane (Bytes a) (Trits b) prime digits = absurd (omega (arith, byte_prime-above a.prime))
same_plane (Bytes a) (Bytes b) prime digits =
    let primes = byte_prime-injective a.prime b.prime prime in
    let both : a ≡ b = λ i. record { prime = primes i; digits = digits i } in
    ap Bytes both

pub plane_of_zeros : (p n : ℕ) (plane : Plane) → 0 < p → IsPlane p (replicate n 0) plane → IsPlaneOf p n plane
plane_of_zeros p n plane positive h = record {
  prime = h.prime;
  long = ap length h.digits_are ∙ length-replicate n 0;
  digits = subst (AreDigits p) (sym h.digits_are) (AreDigits-zeros p n positive);
}

pub plane_of_set : (p n i d : ℕ) (before after : Plane) → d < p → IsPlaneOf p n before →
    IsPlane (prime_of_plane before) (set (digits_of before) i d) after → IsPlaneOf p n after
plane_of_set p n i d before after below h e = record {
  prime = e.prime ∙ h.prime;
  long = ap length e.digits_are ∙ length-set (digits_of before) i d ∙ h.long;
  digits = subst (AreDigits p) (sym e.digits_are) (AreDigits-set p (digits_of before) i d below h.digits);
}

-- ---- planes modulo 3

-- the layers of a plane as long as another are of its length
pub layers_fit : (n : ℕ) (plane : Plane) (digits ones twos : List ℕ) → plane ≡ Trits digits → n ≡ length (digits_of plane) → HoldLayers n ones twos →
    HoldLayers (length digits) ones twos
layers_fit n plane digits ones twos is long held =
    subst (λ m. HoldLayers m ones twos) (long ∙ ap (λ (p : Plane). length (digits_of p)) is) held

-- the sum with four lists of digits, by the layers that hold them: they have as many digits as four planes
pub four_held : (x oa ta ob tb oc tc od td a b c d a' b' c' d' new : List ℕ) → length a ≡ length x → length b ≡ length x → length c ≡ length x →
    length d ≡ length x → trits (bits (length a) oa) (bits (length a) ta) ≡ a' → trits (bits (length b) ob) (bits (length b) tb) ≡ b' →
    trits (bits (length c) oc) (bits (length c) tc) ≡ c' → trits (bits (length d) od) (bits (length d) td) ≡ d' →
    new ≡ digits_with_four 3 x (trits (bits (length x) oa) (bits (length x) ta)) (trits (bits (length x) ob) (bits (length x) tb))
    (trits (bits (length x) oc) (bits (length x) tc)) (trits (bits (length x) od) (bits (length x) td)) → new ≡ digits_with_four 3 x a' b' c' d'
four_held x oa ta ob tb oc tc od td a b c d a' b' c' d' new la lb lc ld ea eb ec ed e =
    let held : (o t l l' : List ℕ) → length l ≡ length x → trits (bits (length l) o) (bits (length l) t) ≡ l' → trits (bits (length x) o) (bits (length x) t) ≡ l' =
    λ o t l l' long is. ap (λ n. trits (bits n o) (bits n t)) (sym long) ∙ is in
    let same : digits_with_four 3 x (trits (bits (length x) oa) (bits (length x) ta)) (trits (bits (length x) ob) (bits (length x) tb))
    (trits (bits (length x) oc) (bits (length x) tc)) (trits (bits (length x) od) (bits (length x) td)) ≡ digits_with_four 3 x a' b' c' d' =
    λ i. digits_with_four 3 x (held oa ta a a' la ea i) (held ob tb b b' lb eb i) (held oc tc c c' lc ec i) (held od td d d' ld ed i) in
    e ∙ same

-- the sum with four planes, by the layers that hold their digits
pub four_layers : (x oa ta ob tb oc tc od td a b c d new : List ℕ) → length a ≡ length x → length b ≡ length x → length c ≡ length x →
    length d ≡ length x → trits (bits (length a) oa) (bits (length a) ta) ≡ a → trits (bits (length b) ob) (bits (length b) tb) ≡ b →
    trits (bits (length c) oc) (bits (length c) tc) ≡ c → trits (bits (length d) od) (bits (length d) td) ≡ d →
    new ≡ digits_with_four 3 x (trits (bits (length x) oa) (bits (length x) ta)) (trits (bits (length x) ob) (bits (length x) tb))
    (trits (bits (length x) oc) (bits (length x) tc)) (trits (bits (length x) od) (bits (length x) td)) → new ≡ digits_with_four 3 x a b c d
four_layers x oa ta ob tb oc tc od td a b c d = four_held x oa ta ob tb oc tc od td a b c d a b c d

-- ---- planes modulo 2

-- the sum with four planes, by the words that hold their digits
pub four_words : (x wa wb wc wd a b c d new : List ℕ) → length a ≡ length x → length b ≡ length x → length c ≡ length x → length d ≡ length x →
    bits (length a) wa ≡ a → bits (length b) wb ≡ b → bits (length c) wc ≡ c → bits (length d) wd ≡ d →
    new ≡ digits_with_four 2 x (bits (length x) wa) (bits (length x) wb) (bits (length x) wc) (bits (length x) wd) → new ≡ digits_with_four 2 x a b c d
four_words x wa wb wc wd a b c d new la lb lc ld ea eb ec ed e =
    let held : (w l : List ℕ) → length l ≡ length x → bits (length l) w ≡ l → bits (length x) w ≡ l = λ w l long is. ap (λ n. bits n w) (sym long) ∙ is in
    let same : digits_with_four 2 x (bits (length x) wa) (bits (length x) wb) (bits (length x) wc) (bits (length x) wd) ≡ digits_with_four 2 x a b c d =
    λ i. digits_with_four 2 x (held wa a la ea i) (held wb b lb eb i) (held wc c lc ec i) (held wd d ld ed i) in
    e ∙ same

-- ---- planes modulo 5 or 7

-- the sum with four planes, by their bytes
pub four_bytes : (p : ℕ) (x wa wb wc wd a b c d new : List ℕ) → wa ≡ a → wb ≡ b → wc ≡ c → wd ≡ d → new ≡ digits_with_four p x wa wb wc wd →
    new ≡ digits_with_four p x a b c d
four_bytes p x wa wb wc wd a b c d new ea eb ec ed e =
    let same : digits_with_four p x wa wb wc wd ≡ digits_with_four p x a b c d = λ i. digits_with_four p x (ea i) (eb i) (ec i) (ed i) in
    e ∙ same

-- a digit to which a multiple of 0 is added
pub unchanged : (p m x y : ℕ) → x < p → y ≡ 0 → (x + m * y) % p ≡ x
unchanged p m x y below none =
    let nothing : x + m * y ≡ x = rw none (omega arith) in ap (λ s. s % p) nothing ∙ mod-eq_of_lt below

-- The bits of a word by its bytes, lowest first.
use Rattle.std.proofs.Common.{◌≡◌, ℕ, zero, suc, ◌+◌, ◌*◌, ◌/◌, ◌%◌, ◌^◌, ◌<◌, refl, sym, ap, ◌∙◌, arith}
use Rattle.std.specs.Int.{bit_at, byte_at, bytes_low_first}
use Rattle.std.proofs.Common.{get_or}
use Rattle.std.proofs.Math.Nat.{pow-suc, div-div-eq-div-mul}
use Rattle.std.proofs.lemmas.Nat.{pow-add}
use Rattle.std.proofs.lemmas.Nat.Bits.{bit_at_cat_low}

pub byte_from_low : (i k n j d : ℕ) → j < k → get_or (bytes_low_first i k n) j d ≡ byte_at (i + j) n
byte_from_low i zero n j d below = absurd (omega arith)
byte_from_low i (suc k) n zero d below =
    let same : i ≡ i + 0 = omega arith in
    ap (λ b. byte_at b n) same
byte_from_low i (suc k) n (suc j) d below =
    let same : suc i + j ≡ i + suc j = omega arith in
    byte_from_low (suc i) k n j d (omega arith) ∙ ap (λ b. byte_at b n) same

low_bit : (m j : ℕ) → j < 8 → bit_at (m % 256) j ≡ bit_at m j
low_bit m j low =
    let whole : m / 256 * 2 ^ 8 + m % 256 ≡ m = omega arith in
    sym (bit_at_cat_low (m / 256) 8 (m % 256) j low) ∙ ap (λ x. bit_at x j) whole

byte_power : (k : ℕ) → 256 ^ k ≡ 2 ^ (8 * k)
byte_power zero = refl
byte_power (suc k) =
    let next : 8 * k + 8 ≡ 8 * suc k = omega arith in
    pow-suc 256 k ∙ ap (λ p. p * 256) (byte_power k) ∙ sym (pow-add 2 (8 * k) 8) ∙ ap (λ j. 2 ^ j) next

shifted : (w p i : ℕ) → bit_at (w / 2 ^ p) i ≡ bit_at w (p + i)
shifted w p i = ap (λ n. n % 2) (div-div-eq-div-mul w (2 ^ p) (2 ^ i) ∙ ap (λ n. w / n) (sym (pow-add 2 p i)))

pub bit_of_byte : (k n j : ℕ) → j < 8 → bit_at (byte_at k n) j ≡ bit_at n (8 * k + j)
bit_of_byte zero n j low =
    let same : j ≡ 8 * 0 + j = omega arith in
    low_bit n j low ∙ ap (bit_at n) same
bit_of_byte (suc k) n j low =
    low_bit (n / 256 ^ suc k) j low ∙ ap (λ p. bit_at (n / p) j) (byte_power (suc k)) ∙ shifted n (8 * suc k) j

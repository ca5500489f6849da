-- Digits that numbers have at a place, as bits and below a base; and lists of which the first numbers are mapped.
use Rattle.std.proofs.Common.{◌≡◌, ℕ, zero, suc, ◌+◌, ◌/◌, ◌%◌, ◌^◌, ◌<◌, ◌≤◌, List, [], ◌∷◌, length, get_or, map, set, refl, sym, ap, subst, ◌∙◌, arith}
use Rattle.std.specs.Int.{bit_at}
use Rattle.std.proofs.lemmas.List.{get_or_past, get_or-map, length-map}
use Rattle.std.proofs.lemmas.List.Elements.{All-map}
use Rattle.std.proofs.Math.Nat.{mod-lt}
use Rattle.std.proofs.lemmas.Nat.Bits.{bit_at-zero}
use native.Mathlib.Decide.{dec_lt}
use Rattle.axe_lane.specs.Bytes.{AreDigits}
use Rattle.axe_layer.specs.Digits.{digits_at}

pub length-digits_at : (p place : ℕ) (numbers : List ℕ) → length (digits_at p place numbers) ≡ length numbers
length-digits_at p place numbers = length-map numbers (λ x. (x / p ^ place) % p)

bit_is_digit : (x place : ℕ) → bit_at x place ≡ (x / 2 ^ place) % 2
bit_is_digit x place = refl

-- the digits in base 2 are the bits, past the last number too
pub digit_is_bit : (place : ℕ) (numbers : List ℕ) (e : ℕ) → get_or (digits_at 2 place numbers) e 0 ≡ bit_at (get_or numbers e 0) place
digit_is_bit place numbers e = elim (dec_lt e (length numbers)) [
  | yes inside ↦ get_or-map (λ x. (x / 2 ^ place) % 2) numbers e 0 0 inside ∙ sym (bit_is_digit (get_or numbers e 0) place)
  | no outside ↦
      get_or_past (digits_at 2 place numbers) e 0 (omega (arith, length-digits_at 2 place numbers))
      ∙ sym (ap (λ x. bit_at x place) (get_or_past numbers e 0 (omega arith)) ∙ bit_at-zero place)
]

-- ---- bytes

-- the values of f at the first n entries, and the other entries
abbrev pub mapped_to : (ℕ → ℕ) → ℕ → List ℕ → List ℕ
mapped_to f zero xs = xs
mapped_to f (suc n) [] = []
mapped_to f (suc n) (x ∷ xs) = f x ∷ mapped_to f n xs

pub length-mapped_to : (f : ℕ → ℕ) (n : ℕ) (xs : List ℕ) → length (mapped_to f n xs) ≡ length xs
length-mapped_to f zero xs = refl
length-mapped_to f (suc n) [] = refl
length-mapped_to f (suc n) (x ∷ xs) = ap suc (length-mapped_to f n xs)

next_mapped : (f : ℕ → ℕ) (n : ℕ) (xs : List ℕ) → n < length xs →
    set (mapped_to f n xs) n (f (get_or (mapped_to f n xs) n 0)) ≡ mapped_to f (suc n) xs
next_mapped f zero [] h = absurd (omega arith)
next_mapped f zero (x ∷ xs) h = refl
next_mapped f (suc n) [] h = absurd (omega arith)
next_mapped f (suc n) (x ∷ xs) h = ap (λ rest. f x ∷ rest) (next_mapped f n xs (omega arith))

pub mapped_more : (f : ℕ → ℕ) (n m : ℕ) (xs now : List ℕ) → now ≡ mapped_to f n xs → n < length xs → m ≡ n + 1 →
    set now n (f (get_or now n 0)) ≡ mapped_to f m xs
mapped_more f n m xs now is h next =
    let same : suc n ≡ m = omega arith in
    ap (λ (v : List ℕ). set v n (f (get_or v n 0))) is ∙ next_mapped f n xs h ∙ ap (λ k. mapped_to f k xs) same

pub mapped_all : (f : ℕ → ℕ) (n : ℕ) (xs : List ℕ) → length xs ≤ n → mapped_to f n xs ≡ map f xs
mapped_all f zero [] h = refl
mapped_all f zero (x ∷ xs) h = absurd (omega arith)
mapped_all f (suc n) [] h = refl
mapped_all f (suc n) (x ∷ xs) h = ap (λ rest. f x ∷ rest) (mapped_all f n xs (omega arith))

-- digits are below the base
pub AreDigits-numbers : (p place : ℕ) (numbers digits : List ℕ) → 0 < p → digits ≡ digits_at p place numbers → AreDigits p digits
AreDigits-numbers p place numbers digits positive is =
    subst (AreDigits p) (sym is) (All-map (λ x. x < p) (λ x. (x / p ^ place) % p) numbers (λ k d inside. mod-lt _ positive))

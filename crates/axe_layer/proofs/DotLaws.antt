-- Dot products of lists of digits, piece by piece and entry by entry, and by the bits that two lists of words have both.
use Rattle.std.proofs.Common.{◌≡◌, ℕ, zero, suc, ◌+◌, ◌*◌, ◌/◌, ◌%◌, ◌^◌, ◌<◌, ◌≤◌, List, [], ◌∷◌, length, get_or, take, drop, sum, min, refl, sym, ap, ap₂, ◌∙◌, arith, inl, inr, bit_and}
use Rattle.std.specs.Int.{bit_at}
use Rattle.std.specs.Int.RustNames.{count_ones}
use Rattle.std.specs.Simd.Lanes.{zip2, sum_l, chunk}
use Rattle.std.proofs.lemmas.Bool.{cases_lt}
use Rattle.std.proofs.lemmas.List.{take_all}
use Rattle.std.proofs.Math.Nat.{add-mod}
use Rattle.std.proofs.lemmas.Nat.{and_le_l, ones_le_self}
use Rattle.std.proofs.lemmas.Nat.Bits.{bit_at-lt, bit_at_and, bit_at_lowest, bit_at-suc}
use Rattle.std.proofs.lemmas.Simd.{get_or-zip2, length-zip2}
use lib.Count.{ones_step}
use Rattle.axe_lane.specs.Bytes.{sum_of_products}
use Rattle.axe_lane.specs.Words.{bit_of, common_bits}
use Rattle.axe_lane.proofs.SumLaws.{sum_is, sum_block, chunk-zip2}
use Rattle.axe_layer.specs.Bits.{bits, HoldsBits}
use Rattle.axe_layer.proofs.BitLaws.{length-bits, get_or-bits, bit_of-word}

-- the sum of the values at the numbers below n
abbrev pub sum_below : (ℕ → ℕ) → ℕ → ℕ
sum_below f zero = 0
sum_below f (suc n) = sum_below f n + f n

pub sum_below-same : (n : ℕ) (f g : ℕ → ℕ) → ((e : ℕ) → e < n → f e ≡ g e) → sum_below f n ≡ sum_below g n
sum_below-same zero f g same = refl
sum_below-same (suc n) f g same = ap₂ (λ x y. x + y) (sum_below-same n f g (λ e h. same e (omega arith))) (same n (omega arith))

sum_below-first : (n : ℕ) (f : ℕ → ℕ) → sum_below f (suc n) ≡ f zero + sum_below (λ e. f (suc e)) n
sum_below-first zero f = omega arith
sum_below-first (suc n) f = omega (arith, sum_below-first n f)

sum_below-plus : (k n : ℕ) (f : ℕ → ℕ) → sum_below f (n + k) ≡ sum_below f n + sum_below (λ i. f (n + i)) k
sum_below-plus zero n f = let same : n + 0 ≡ n = omega arith in ap (sum_below f) same ∙ omega arith
sum_below-plus (suc k) n f =
    let next : n + suc k ≡ suc (n + k) = omega arith in
    ap (sum_below f) next ∙ omega (arith, sum_below-plus k n f)

-- nothing but zeros from n on
sum_below-past : (m n : ℕ) (f : ℕ → ℕ) → n ≤ m → ((e : ℕ) → n ≤ e → f e ≡ 0) → sum_below f m ≡ sum_below f n
sum_below-past zero n f h none = let same : 0 ≡ n = omega arith in ap (sum_below f) same
sum_below-past (suc m) n f h none = elim (cases_lt m n) [
  | inl l ↦ let same : suc m ≡ n = omega arith in ap (sum_below f) same
  | inr g ↦ omega (arith, sum_below-past m n f g none, none m g)
]

sum_l-below : (xs : List ℕ) → sum_l xs ≡ sum_below (λ e. get_or xs e 0) (length xs)
sum_l-below [] = refl
sum_l-below (x ∷ xs) = ap (λ s. x + s) (sum_l-below xs) ∙ sym (sum_below-first (length xs) (λ e. get_or (x ∷ xs) e 0))

-- entry by entry
sum_of_pairs : (f : ℕ → ℕ → ℕ) (a b : List ℕ) → length b ≡ length a →
    sum (zip2 f a b) ≡ sum_below (λ e. f (get_or a e 0) (get_or b e 0)) (length a)
sum_of_pairs f a b same =
    sum_is (zip2 f a b) ∙ sum_l-below (zip2 f a b) ∙ ap (sum_below (λ e. get_or (zip2 f a b) e 0)) (length-zip2 f a b (sym same))
    ∙ sum_below-same (length a) _ _ (λ e inside. get_or-zip2 f a b e 0 0 0 inside (omega (arith, same)))

pub dot_by_entries : (a b : List ℕ) → length b ≡ length a →
    sum_of_products a b ≡ sum_below (λ e. get_or a e 0 * get_or b e 0) (length a)
dot_by_entries a b same = sum_of_pairs (λ x y. x * y) a b same

-- ---- piece by piece

abbrev products : List ℕ → List ℕ → List ℕ
products a b = zip2 (λ x y. x * y) a b

-- the products of the first m digits, when those of the first n are summed and then those of the k digits after them
pub dot_more : (n k l m p r s d : ℕ) (a b x y : List ℕ) → m ≡ n + k → l ≡ k → x ≡ a → y ≡ b → r ≡ p →
    s ≡ sum_l (take n (zip2 (λ x y. x * y) a b)) % p → d ≡ sum_of_products (take k (drop n x)) (take l (drop n y)) % r →
    (s + d) % r ≡ sum_l (take m (zip2 (λ x y. x * y) a b)) % p
dot_more n k l m p r s d a b x y em el ex ey er es ed =
    let piece : sum_of_products (take k (drop n x)) (take l (drop n y)) ≡ sum_l (chunk n k (products a b)) =
    ap (λ j. sum_of_products (take k (drop n x)) (take j (drop n y))) el
    ∙ ap (λ (v : List ℕ). sum_of_products (take k (drop n v)) (take k (drop n y))) ex
    ∙ ap (λ (v : List ℕ). sum_of_products (take k (drop n a)) (take k (drop n v))) ey
    ∙ sum_is (products (chunk n k a) (chunk n k b)) ∙ ap sum_l (sym (chunk-zip2 (λ x y. x * y) n k a b)) in
    let digit : d ≡ sum_l (chunk n k (products a b)) % p = ed ∙ ap₂ (λ u v. u % v) piece er in
    ap (λ q. (s + d) % q) er ∙ ap₂ (λ u v. (u + v) % p) es digit
    ∙ sym (add-mod (sum_l (take n (products a b))) (sum_l (chunk n k (products a b))) p)
    ∙ ap (λ u. u % p) (sym (sum_block n k m (products a b) em))

pub dot_all : (m : ℕ) (a b : List ℕ) → length b ≡ length a → length a ≤ m → sum_l (take m (zip2 (λ x y. x * y) a b)) ≡ sum_of_products a b
dot_all m a b same all =
    ap sum_l (take_all m (products a b) (omega (arith, length-zip2 (λ x y. x * y) a b (sym same)))) ∙ sym (sum_is (products a b))

-- ---- counts of bits

ones_are_bits : (k w : ℕ) → w < 2 ^ k → count_ones w ≡ sum_below (bit_at w) k
ones_are_bits zero w h = let none : w ≡ 0 = omega arith in ap count_ones none ∙ omega (arith, ones_le_self 0)
ones_are_bits (suc k) w h =
    let half : w / 2 < 2 ^ k = omega arith in
    let rest : sum_below (λ i. bit_at w (suc i)) k ≡ sum_below (bit_at (w / 2)) k = sum_below-same k _ _ (λ i _. bit_at-suc w i) in
    omega (arith, ones_step w, ones_are_bits k (w / 2) half, rest, sum_below-first k (bit_at w), bit_at_lowest w)

least_is_product : (x y : ℕ) → x < 2 → y < 2 → min x y ≡ x * y
least_is_product zero zero h k = refl
least_is_product zero (suc zero) h k = refl
least_is_product (suc zero) zero h k = refl
least_is_product (suc zero) (suc zero) h k = refl
least_is_product (suc (suc x)) y h k = absurd (omega arith)
least_is_product x (suc (suc y)) h k = absurd (omega arith)

-- the products of the bits of two lists of words
abbrev both : List ℕ → List ℕ → ℕ → ℕ
both a b e = bit_of a e * bit_of b e

one_word : (a b : List ℕ) (j : ℕ) → ((k : ℕ) → get_or a k 0 < 2 ^ 64) →
    count_ones (bit_and (get_or a j 0) (get_or b j 0)) ≡ sum_below (λ i. both a b (64 * j + i)) 64
one_word a b j fits =
    ones_are_bits 64 (bit_and (get_or a j 0) (get_or b j 0)) (omega (arith, fits j, and_le_l (get_or a j 0) (get_or b j 0)))
    ∙ sum_below-same 64 _ _ (λ i below.
    let word : (64 * j + i) / 64 ≡ j = omega arith in
    let place : (64 * j + i) % 64 ≡ i = omega arith in
    let left : bit_of a (64 * j + i) ≡ bit_at (get_or a j 0) i =
    bit_of-word a (64 * j + i) ∙ ap₂ (λ n k. bit_at (get_or a n 0) k) word place in
    let right : bit_of b (64 * j + i) ≡ bit_at (get_or b j 0) i =
    bit_of-word b (64 * j + i) ∙ ap₂ (λ n k. bit_at (get_or b n 0) k) word place in
    bit_at_and (get_or a j 0) (get_or b j 0) i
    ∙ least_is_product _ _ (bit_at-lt (get_or a j 0) i) (bit_at-lt (get_or b j 0) i)
    ∙ sym (ap₂ (λ x y. x * y) left right))

words_by_bits : (n : ℕ) (a b : List ℕ) → ((k : ℕ) → get_or a k 0 < 2 ^ 64) →
    sum_below (λ j. count_ones (bit_and (get_or a j 0) (get_or b j 0))) n ≡ sum_below (both a b) (64 * n)
words_by_bits zero a b fits = refl
words_by_bits (suc n) a b fits =
    let size : 64 * suc n ≡ 64 * n + 64 = omega arith in
    ap₂ (λ x y. x + y) (words_by_bits n a b fits) (one_word a b n fits)
    ∙ sym (ap (sum_below (both a b)) size ∙ sum_below-plus 64 (64 * n) (both a b))

pub common_bits-dot : (n : ℕ) (a b : List ℕ) → HoldsBits n a → HoldsBits n b → common_bits a b ≡ sum_of_products (bits n a) (bits n b)
common_bits-dot n a b ha hb =
    sum_of_pairs (λ x y. count_ones (bit_and x y)) a b (hb.long ∙ sym ha.long)
    ∙ words_by_bits (length a) a b ha.fits
    ∙ sum_below-past (64 * length a) n (both a b) (omega (arith, ha.long)) (λ e past. let none = ha.unused e past in rw none (omega arith))
    ∙ sum_below-same n _ _ (λ e inside. sym (ap₂ (λ x y. x * y) (get_or-bits n a e inside) (get_or-bits n b e inside)))
    ∙ sym (dot_by_entries (bits n a) (bits n b) (length-bits n b ∙ sym (length-bits n a))
    ∙ ap (sum_below (λ e. get_or (bits n a) e 0 * get_or (bits n b) e 0)) (length-bits n a))

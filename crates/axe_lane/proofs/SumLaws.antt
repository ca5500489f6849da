-- Sums over the first entries of lists, block by block and one by one, and the parity of counts of bits.
use Rattle.std.proofs.Common.{◌≡◌, ℕ, zero, suc, ◌+◌, ◌*◌, ◌/◌, ◌%◌, ◌<◌, ◌≤◌, List, [], ◌∷◌, map, sum, take, drop, length, get_or, replicate, refl, sym, ap, ap₂, ◌∙◌, arith, bit_xor, Fits, w8, w32}
use Rattle.std.specs.Simd.Lanes.{zip2, fold_l, chunk, sum_l, Each1, Each2}
use Rattle.std.specs.Int.RustNames.{count_ones}
use Rattle.std.proofs.lemmas.List.Sums.{sum_by-cons}
use Rattle.std.proofs.lemmas.Nat.{mul-le, xor_shr, ones_le_self}
use Rattle.std.proofs.lemmas.Nat.Bits.{bit_at_xor, bit_at_lowest}
use Rattle.axe_lane.proofs.VectorLaws.{map-same}
use lib.Count.{ones_step}

pub sum_is : (xs : List ℕ) → sum xs ≡ sum_l xs
sum_is [] = refl
sum_is (x ∷ xs) = sum_by-cons (λ y. y) x xs ∙ ap (λ s. x + s) (sum_is xs)

drop-zip2 : (f : ℕ → ℕ → ℕ) (n : ℕ) (xs ys : List ℕ) → drop n (zip2 f xs ys) ≡ zip2 f (drop n xs) (drop n ys)
drop-zip2 f zero xs ys = refl
drop-zip2 f (suc n) [] ys = refl
drop-zip2 f (suc n) (x ∷ xs) [] = right_empty (drop n xs)
  where
    right_empty : (xs : List ℕ) → [] ≡ zip2 f xs []
    right_empty [] = refl
    right_empty (x ∷ xs) = refl
drop-zip2 f (suc n) (x ∷ xs) (y ∷ ys) = drop-zip2 f n xs ys

take-zip2 : (f : ℕ → ℕ → ℕ) (n : ℕ) (xs ys : List ℕ) → take n (zip2 f xs ys) ≡ zip2 f (take n xs) (take n ys)
take-zip2 f zero xs ys = refl
take-zip2 f (suc n) [] ys = refl
take-zip2 f (suc n) (x ∷ xs) [] = refl
take-zip2 f (suc n) (x ∷ xs) (y ∷ ys) = ap (λ rest. f x y ∷ rest) (take-zip2 f n xs ys)

pub chunk-zip2 : (f : ℕ → ℕ → ℕ) (n k : ℕ) (xs ys : List ℕ) → chunk n k (zip2 f xs ys) ≡ zip2 f (chunk n k xs) (chunk n k ys)
chunk-zip2 f n k xs ys = ap (take k) (drop-zip2 f n xs ys) ∙ take-zip2 f k (drop n xs) (drop n ys)

-- a block more
pub sum_block : (n k m : ℕ) (zs : List ℕ) → m ≡ n + k → sum_l (take m zs) ≡ sum_l (take n zs) + sum_l (chunk n k zs)
sum_block zero k m zs e = let same : m ≡ k = omega arith in ap (λ j. sum_l (take j zs)) same ∙ omega arith
sum_block (suc n) k zero zs e = absurd (omega arith)
sum_block (suc n) zero (suc m) [] e = refl
sum_block (suc n) (suc k) (suc m) [] e = refl
sum_block (suc n) k (suc m) (z ∷ zs) e = omega (arith, sum_block n k m zs (omega arith))

-- one entry more
pub sum_more : (n m : ℕ) (zs : List ℕ) → m ≡ n + 1 → n < length zs → sum_l (take m zs) ≡ sum_l (take n zs) + get_or zs n 0
sum_more zero zero zs e h = absurd (omega arith)
sum_more zero (suc zero) [] e h = refl
sum_more zero (suc zero) (z ∷ zs) e h = omega arith
sum_more zero (suc (suc m)) zs e h = absurd (omega arith)
sum_more (suc n) zero zs e h = absurd (omega arith)
sum_more (suc n) (suc m) [] e h = absurd (omega arith)
sum_more (suc n) (suc m) (z ∷ zs) e h = omega (arith, sum_more n m zs (omega arith) (omega arith))

-- products of bytes
pub products_are_small : (n : ℕ) (xs ys : List ℕ) → ((i : ℕ) → get_or xs i 0 < 256) → ((i : ℕ) → get_or ys i 0 < 256)
    → sum_l (take n (zip2 (λ x y. x * y) xs ys)) ≤ 65025 * n
products_are_small zero xs ys a b = omega arith
products_are_small (suc n) [] ys a b = omega arith
products_are_small (suc n) (x ∷ xs) [] a b = omega arith
products_are_small (suc n) (x ∷ xs) (y ∷ ys) a b =
    let x_small : x < 256 = a zero in
    let y_small : y < 256 = b zero in
    omega (arith, mul-le x y 255 255 (omega arith) (omega arith), products_are_small n xs ys (λ i. a (suc i)) (λ i. b (suc i)))

-- ---- the parity of a count of set bits

-- the set bits of all numbers of a list
abbrev pub ones_of : List ℕ → ℕ
ones_of xs = sum_l (map count_ones xs)

xor_parity_upto : (n a b : ℕ) → a ≤ n → b ≤ n → count_ones (bit_xor a b) % 2 ≡ (count_ones a + count_ones b) % 2
xor_parity_upto zero a b h k =
    let a_zero : a ≡ 0 = omega arith in
    let b_zero : b ≡ 0 = omega arith in
    ap₂ (λ x y. count_ones (bit_xor x y) % 2) a_zero b_zero
    ∙ omega (arith, ones_le_self 0, ap count_ones a_zero, ap count_ones b_zero)
xor_parity_upto (suc n) a b h k =
    let x : ℕ = bit_xor a b in
    let low : x % 2 ≡ (a % 2 + b % 2) % 2 =
    sym (bit_at_lowest x) ∙ bit_at_xor a b 0 ∙ ap₂ (λ i j. (i + j) % 2) (bit_at_lowest a) (bit_at_lowest b) in
    let high : count_ones (x / 2) ≡ count_ones (bit_xor (a / 2) (b / 2)) = ap count_ones (xor_shr a b 1) in
    omega (arith, ones_step x, ones_step a, ones_step b, high, xor_parity_upto n (a / 2) (b / 2) (omega arith) (omega arith))

pub xor_parity : (a b : ℕ) → count_ones (bit_xor a b) % 2 ≡ (count_ones a + count_ones b) % 2
xor_parity a b = xor_parity_upto (a + b) a b (omega arith) (omega arith)

pub fold_parity : (xs : List ℕ) (a : ℕ) → count_ones (fold_l bit_xor a xs) % 2 ≡ (count_ones a + ones_of xs) % 2
fold_parity [] a = ap (λ n. n % 2) (omega arith)
fold_parity (x ∷ xs) a = omega (arith, fold_parity xs (bit_xor a x), xor_parity a x)

pub zip_parity : (xs ys : List ℕ) → length xs ≡ length ys → ones_of (zip2 bit_xor xs ys) % 2 ≡ (ones_of xs + ones_of ys) % 2
zip_parity [] [] e = refl
zip_parity [] (y ∷ ys) e = absurd (omega arith)
zip_parity (x ∷ xs) [] e = absurd (omega arith)
zip_parity (x ∷ xs) (y ∷ ys) e = omega (arith, xor_parity x y, zip_parity xs ys (omega arith))

pub no_ones : (n : ℕ) → ones_of (replicate n 0) ≡ 0
no_ones zero = refl
no_ones (suc n) = omega (arith, ones_le_self 0, no_ones n)

-- ---- bytes as numbers of 32 bits

abbrev widened : List ℕ → List ℕ
widened = map (λ x. x)

pub wide_products_fit : (xs ys : List ℕ) → Each1 (Fits w8) xs → Each1 (Fits w8) ys → Each2 (λ x y. Fits w32 (x * y)) (widened xs) (widened ys)
wide_products_fit [] ys a b = tt
wide_products_fit (x ∷ xs) [] a b = tt
wide_products_fit (x ∷ xs) (y ∷ ys) a b =
    let x_small : x < 256 = a.0.fits in
    let y_small : y < 256 = b.0.fits in
    (record { fits = omega (arith, mul-le x y 255 255 (omega arith) (omega arith)) }, wide_products_fit xs ys a.1 b.1)

pub wide_products : (xs ys : List ℕ) → zip2 (λ x y. x * y) (widened xs) (widened ys) ≡ zip2 (λ x y. x * y) xs ys
wide_products xs ys = ap₂ (zip2 (λ x y. x * y)) (sym (map-same xs)) (sym (map-same ys))

pub products_bound : (xs ys : List ℕ) → Each1 (Fits w8) xs → Each1 (Fits w8) ys → sum_l (zip2 (λ x y. x * y) xs ys) ≤ 65025 * length xs
products_bound [] ys a b = omega arith
products_bound (x ∷ xs) [] a b = omega arith
products_bound (x ∷ xs) (y ∷ ys) a b =
    let x_small : x < 256 = a.0.fits in
    let y_small : y < 256 = b.0.fits in
    omega (arith, mul-le x y 255 255 (omega arith) (omega arith), products_bound xs ys a.1 b.1)

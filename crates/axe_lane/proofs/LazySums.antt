-- Sums below 16 p that stand for their remainders modulo p, where p is 5 or 7: what a multiple of a row, or multiples of
-- four, make of them.
use Rattle.std.proofs.Common.{◌≡◌, ◌⊎◌, ℕ, ◌+◌, ◌*◌, ◌%◌, ◌<◌, ◌≤◌, List, [], ◌∷◌, length, map, slice_index, refl, sym, ap, ap₂, subst, ◌∙◌, arith, inl, inr}
use Rattle.std.specs.Simd.Lanes.{chunk, zip2}
use Rattle.std.specs.List.{All}
use Rattle.std.proofs.lemmas.Bool.{cases_lt}
use Rattle.std.proofs.lemmas.List.{length-map}
use Rattle.std.proofs.lemmas.Simd.{map-map}
use Rattle.std.proofs.lemmas.Nat.{mul-le}
use Rattle.axe_lane.specs.Bytes.{AreDigits, IsSmallPrime, less_where_not_below, lazy_sum, lazy_sum_with_four, sum_of_multiples, sum_with_multiple_modulo, sum_with_four_multiples}
use Rattle.axe_lane.proofs.FiveRows.{four, four_long, plus, sum_of_five, wrapped, lanes_by}
use Rattle.axe_lane.proofs.FourMultiples.{scaled, chunk-scaled, products_below, added_up}
use Rattle.axe_lane.proofs.Progress.{All-zip2_from}
use Rattle.axe_lane.proofs.ResidueLaws.{less_below, less_mod, stays, falls}
use Rattle.axe_lane.proofs.SumLaws.{chunk-zip2}
use Rattle.axe_lane.proofs.VectorLaws.{map-same, map-zip2}

abbrev pub L : ℕ → ℕ → ℕ
L = less_where_not_below

abbrev pub IsFiveOrSeven : ℕ → Type 0
IsFiveOrSeven p = (p ≡ 5) ⊎ (p ≡ 7)

abbrev add : ℕ → ℕ → ℕ
add x y = x + y

pub five_or_seven : (p : ℕ) → IsFiveOrSeven p → (4 < p) × (p < 8)
five_or_seven p (inl e) = (omega arith, omega arith)
five_or_seven p (inr e) = (omega arith, omega arith)

pub is_small : (p : ℕ) → IsFiveOrSeven p → IsSmallPrime p
is_small p (inl e) = inr (inr (inl e))
is_small p (inr e) = inr (inr (inr e))

-- ---- one multiple

module _ (p m : ℕ) (prime : IsFiveOrSeven p) where
  -- the byte of the first row counts by its remainder
  remainder_first : (d k : ℕ) → (d + k) % p ≡ (d % p + k) % p
  remainder_first d k = elim prime [ inl e ↦ rw e (omega arith) | inr e ↦ rw e (omega arith) ]

  remainders_first : (x a : List ℕ) → sum_with_multiple_modulo p x m a ≡ sum_with_multiple_modulo p (map (λ y. y % p) x) m a
  remainders_first [] a = refl
  remainders_first (d ∷ x) [] = refl
  remainders_first (d ∷ x) (s ∷ a) = ap₂ (λ y rest. y ∷ rest) (remainder_first d (m * s)) (remainders_first x a)

  pub lazy_remainders : (x a : List ℕ) → map (λ y. y % p) (lazy_sum p x m a) ≡ sum_with_multiple_modulo p (map (λ y. y % p) x) m a
  lazy_remainders [] a = refl
  lazy_remainders (d ∷ x) [] = refl
  lazy_remainders (d ∷ x) (s ∷ a) =
      ap₂ (λ y rest. y ∷ rest) (less_mod (16 * p) 16 p (d + m * s) refl ∙ remainder_first d (m * s)) (lazy_remainders x a)

module _ (p m d s : ℕ) (prime : IsFiveOrSeven p) (factor : m < p) (d_below : d < 16 * p) (s_below : s < p) where
  product : m * s + 6 ≤ 6 * p
  product =
      let few = five_or_seven p prime in
      omega (arith, few, mul-le m s 6 s (omega arith) (omega arith))

  pub is_byte : d + m * s < 256
  is_byte = omega (arith, product, five_or_seven p prime)

  pub lane_below : L (16 * p) (d + m * s) < 16 * p
  lane_below = less_below (16 * p) (d + m * s) (omega (arith, product))

pub lazy_below : (p m : ℕ) → IsFiveOrSeven p → m < p → (x a : List ℕ) → AreDigits (16 * p) x → AreDigits p a → AreDigits (16 * p) (lazy_sum p x m a)
lazy_below p m prime factor x a hx ha =
    All-zip2_from (λ d s. L (16 * p) (d + m * s)) (λ k. k < 16 * p) (λ k. k < p) (λ k. k < 16 * p)
    (λ d s hd hs. lane_below p m d s prime factor hd hs) x a hx ha

-- a list that was made the sum, where the prime is known
module _ (p q m : ℕ) (same : p ≡ q) (prime : IsFiveOrSeven p) (x a new : List ℕ) (is : new ≡ lazy_sum q x m a) where
  as_sum : new ≡ lazy_sum p x m a
  as_sum = is ∙ ap (λ k. lazy_sum k x m a) (sym same)

  pub has_remainders : map (λ y. y % p) new ≡ sum_with_multiple_modulo p (map (λ y. y % p) x) m a
  has_remainders = ap (map (λ y. y % p)) as_sum ∙ lazy_remainders p m prime x a

  pub stays_below : m < p → AreDigits (16 * p) x → AreDigits p a → AreDigits (16 * p) new
  stays_below factor hx ha = subst (AreDigits (16 * p)) (sym as_sum) (lazy_below p m prime factor x a hx ha)

-- ---- four multiples

-- 16 p is taken away twice
abbrev pub twice_less : ℕ → ℕ → ℕ → ℕ
twice_less p y s = L (16 * p) (L (16 * p) (y + s))

pub chunk-multiples : (factors : List ℕ) (n k : ℕ) (a b c d : List ℕ) →
    chunk n k (sum_of_multiples factors a b c d) ≡ sum_of_multiples factors (chunk n k a) (chunk n k b) (chunk n k c) (chunk n k d)
chunk-multiples factors n k a b c d =
    let by : ℕ → List ℕ → List ℕ = λ i l. scaled (slice_index factors i) l in
    let piece : (i : ℕ) (l : List ℕ) → chunk n k (by i l) ≡ by i (chunk n k l) = λ i l. chunk-scaled (slice_index factors i) n k l in
    let two : chunk n k (zip2 add (by 0 a) (by 1 b)) ≡ zip2 add (by 0 (chunk n k a)) (by 1 (chunk n k b)) =
    chunk-zip2 add n k (by 0 a) (by 1 b) ∙ ap₂ (zip2 add) (piece 0 a) (piece 1 b) in
    let three : chunk n k (zip2 add (zip2 add (by 0 a) (by 1 b)) (by 2 c)) ≡ zip2 add (zip2 add (by 0 (chunk n k a)) (by 1 (chunk n k b))) (by 2 (chunk n k c)) =
    chunk-zip2 add n k (zip2 add (by 0 a) (by 1 b)) (by 2 c) ∙ ap₂ (zip2 add) two (piece 2 c) in
    chunk-zip2 add n k (zip2 add (zip2 add (by 0 a) (by 1 b)) (by 2 c)) (by 3 d) ∙ ap₂ (zip2 add) three (piece 3 d)

pub sum_long : (factors : List ℕ) (n : ℕ) (a b c d : List ℕ) → length a ≡ n → length b ≡ n → length c ≡ n → length d ≡ n →
    length (sum_of_multiples factors a b c d) ≡ n
sum_long factors n a b c d ea eb ec ed =
    let by : ℕ → List ℕ → List ℕ = λ i l. scaled (slice_index factors i) l in
    let long : (i : ℕ) (l : List ℕ) → length l ≡ n → length (by i l) ≡ n = λ i l e. length-map l (λ y. slice_index factors i * y) ∙ e in
    four_long add n (by 0 a) (by 1 b) (by 2 c) (by 3 d) (long 0 a ea) (long 1 b eb) (long 2 c ec) (long 3 d ed)

module _ (p : ℕ) (prime : IsFiveOrSeven p) (factors : List ℕ) (small : (i : ℕ) → i < 4 → slice_index factors i < p) (a b c d : List ℕ)
    (ha : AreDigits p a) (hb : AreDigits p b) (hc : AreDigits p c) (hd : AreDigits p d) where
  abbrev by : ℕ → List ℕ → List ℕ
  by i l = scaled (slice_index factors i) l

  part : (i : ℕ) → i < 4 → (l : List ℕ) → AreDigits p l → All (λ k. k + 6 ≤ 6 * p) (by i l)
  part i inside l h = products_below p (slice_index factors i) l (five_or_seven p prime).1 (small i inside) h

  pub multiples_below : All (λ k. k + 24 ≤ 24 * p) (sum_of_multiples factors a b c d)
  multiples_below =
      All-zip2_from add (λ k. k + 18 ≤ 18 * p) (λ k. k + 6 ≤ 6 * p) (λ k. k + 24 ≤ 24 * p) (λ x y h e. omega arith)
      (zip2 add (zip2 add (by 0 a) (by 1 b)) (by 2 c)) (by 3 d)
      (All-zip2_from add (λ k. k + 12 ≤ 12 * p) (λ k. k + 6 ≤ 6 * p) (λ k. k + 18 ≤ 18 * p) (λ x y h e. omega arith)
      (zip2 add (by 0 a) (by 1 b)) (by 2 c)
      (All-zip2_from add (λ k. k + 6 ≤ 6 * p) (λ k. k + 6 ≤ 6 * p) (λ k. k + 12 ≤ 12 * p) (λ x y h e. omega arith)
      (by 0 a) (by 1 b) (part 0 (omega arith) a ha) (part 1 (omega arith) b hb))
      (part 2 (omega arith) c hc))
      (part 3 (omega arith) d hd)

  -- the lanes of vectors do not wrap
  pub lazy_lanes : (x : List ℕ) → AreDigits (16 * p) x →
      map (L (16 * p)) (map (L (16 * p)) (zip2 wrapped x (four wrapped (by 0 a) (by 1 b) (by 2 c) (by 3 d)))) ≡ lazy_sum_with_four p factors x a b c d
  lazy_lanes x hx =
      let few = five_or_seven p prime in
      let whole = map-same (zip2 wrapped x (four wrapped (by 0 a) (by 1 b) (by 2 c) (by 3 d)))
      ∙ lanes_by wrapped add (λ z. z) (λ k. k < 16 * p) (λ k. k + 6 ≤ 6 * p)
      (λ y i j k l hy hi hj hk hl. omega (arith, few))
      x (by 0 a) (by 1 b) (by 2 c) (by 3 d) hx
      (part 0 (omega arith) a ha) (part 1 (omega arith) b hb) (part 2 (omega arith) c hc) (part 3 (omega arith) d hd) in
      ap (λ zs. map (L (16 * p)) (map (L (16 * p)) zs)) whole
      ∙ map-map (L (16 * p)) (L (16 * p)) (zip2 add x (sum_of_multiples factors a b c d))
      ∙ map-zip2 (λ z. L (16 * p) (L (16 * p) z)) add x (sum_of_multiples factors a b c d)

pub twice_below : (p y s : ℕ) → y < 16 * p → s + 24 ≤ 24 * p → twice_less p y s < 16 * p
twice_below p y s hy hs =
    let once : L (16 * p) (y + s) < 32 * p = elim (cases_lt (y + s) (16 * p)) [
      | inl l ↦ omega (arith, stays (16 * p) (y + s) l)
      | inr g ↦ omega (arith, falls (16 * p) (y + s) g)
    ] in
    less_below (16 * p) (L (16 * p) (y + s)) (omega arith)

-- what multiples of four rows make of the remainders
pub four_remainders : (p : ℕ) → IsFiveOrSeven p → (factors x a b c d : List ℕ) →
    map (λ y. y % p) (lazy_sum_with_four p factors x a b c d) ≡ sum_with_four_multiples p factors (map (λ y. y % p) x) a b c d
four_remainders p prime factors x a b c d =
    let by : ℕ → List ℕ → List ℕ = λ i l. scaled (slice_index factors i) l in
    let small = is_small p prime in
    let rest : (r : List ℕ) → List ℕ = λ r. sum_with_multiple_modulo p (sum_with_multiple_modulo p (sum_with_multiple_modulo p r
    (slice_index factors 1) b) (slice_index factors 2) c) (slice_index factors 3) d in
    unreduced x (sum_of_multiples factors a b c d)
    ∙ lanes_by add (plus p) (λ z. z % p) (λ k. Unit {0}) (λ k. Unit {0})
    (λ y i j k l _ _ _ _ _. ap (λ z. z % p) (omega arith) ∙ sum_of_five p small y i j k l)
    x (by 0 a) (by 1 b) (by 2 c) (by 3 d) (λ _ _ _. tt) (λ _ _ _. tt) (λ _ _ _. tt) (λ _ _ _. tt) (λ _ _ _. tt)
    ∙ added_up p factors small x a b c d
    ∙ ap rest (remainders_first p (slice_index factors 0) prime x a)
  where
    unreduced : (x s : List ℕ) → map (λ y. y % p) (zip2 (twice_less p) x s) ≡ map (λ y. y % p) (zip2 add x s)
    unreduced [] s = refl
    unreduced (y ∷ x) [] = refl
    unreduced (y ∷ x) (z ∷ s) =
        ap₂ (λ v rest. v ∷ rest) (less_mod (16 * p) 16 p (L (16 * p) (y + z)) refl ∙ less_mod (16 * p) 16 p (y + z) refl) (unreduced x s)

pub four_below : (p : ℕ) → (x s : List ℕ) → AreDigits (16 * p) x → All (λ k. k + 24 ≤ 24 * p) s → AreDigits (16 * p) (zip2 (twice_less p) x s)
four_below p x s hx hs =
    All-zip2_from (twice_less p) (λ k. k < 16 * p) (λ k. k + 24 ≤ 24 * p) (λ k. k < 16 * p) (λ y z hy hz. twice_below p y z hy hz) x s hx hs

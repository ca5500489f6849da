-- The sum of a row and multiples of four others, entry by entry: the multiples may be added up first.
use Rattle.std.proofs.Common.{◌≡◌, ℕ, ◌+◌, ◌*◌, ◌-◌, ◌%◌, ◌<◌, ◌≤◌, List, length, map, get_or, slice_index, sym, ap, ◌∙◌, arith}
use Rattle.std.specs.Simd.Lanes.{chunk, zip2}
use Rattle.std.specs.List.{All}
use Rattle.std.proofs.lemmas.List.{length-map, drop-map, take-map}
use Rattle.std.proofs.lemmas.List.Elements.{All-map}
use Rattle.std.proofs.lemmas.Nat.{mul-le}
use Rattle.std.proofs.lemmas.Simd.{map-map}
use Rattle.axe_lane.specs.Bytes.{AreDigits, IsSmallPrime, less_where_not_below, sum_with_four_multiples}
use Rattle.axe_lane.proofs.FiveRows.{four, four_long, chunk-four, one_by_one, plus, plus_associative, sum_of_five, wrapped, lanes_by}
use Rattle.axe_lane.proofs.ResidueLaws.{small_primes, five_times}
use Rattle.axe_lane.proofs.VectorLaws.{zip2-map_right}

abbrev L : ℕ → ℕ → ℕ
L = less_where_not_below

-- m times each entry
abbrev pub scaled : ℕ → List ℕ → List ℕ
scaled m l = map (λ y. m * y) l

pub chunk-scaled : (m n k : ℕ) (l : List ℕ) → chunk n k (scaled m l) ≡ scaled m (chunk n k l)
chunk-scaled m n k l =
    let f : ℕ → ℕ = λ y. m * y in
    ap (λ (r : List ℕ). chunk 0 k r) (drop-map f n l) ∙ take-map f k _

module _ (p : ℕ) (factors : List ℕ) where
  -- the entries of a row, times a factor
  abbrev pub times_of : ℕ → List ℕ → List ℕ
  times_of i l = scaled (slice_index factors i) l

  -- the sum of the multiples of four rows
  abbrev pub multiples : List ℕ → List ℕ → List ℕ → List ℕ → List ℕ
  multiples a b c d = four (plus p) (times_of 0 a) (times_of 1 b) (times_of 2 c) (times_of 3 d)

  pub added_up : IsSmallPrime p → (x a b c d : List ℕ) → zip2 (plus p) x (multiples a b c d) ≡ sum_with_four_multiples p factors x a b c d
  added_up prime x a b c d =
      let f = plus p in
      let one : (i : ℕ) (r l : List ℕ) → zip2 f r (times_of i l) ≡ zip2 (λ y z. (y + slice_index factors i * z) % p) r l =
      λ i r l. zip2-map_right f (λ z. slice_index factors i * z) r l in
      one_by_one f (plus_associative p prime) x (times_of 0 a) (times_of 1 b) (times_of 2 c) (times_of 3 d)
      ∙ ap (λ r. zip2 f (zip2 f (zip2 f r (times_of 1 b)) (times_of 2 c)) (times_of 3 d)) (one 0 x a)
      ∙ ap (λ r. zip2 f (zip2 f r (times_of 2 c)) (times_of 3 d)) (one 1 _ b)
      ∙ ap (λ r. zip2 f r (times_of 3 d)) (one 2 _ c)
      ∙ one 3 _ d

  module _ (n : ℕ) (a b c d : List ℕ) (a_long : length a ≡ n) (b_long : length b ≡ n) (c_long : length c ≡ n) (d_long : length d ≡ n) where
    scaled_long : (m : ℕ) (l : List ℕ) → length l ≡ n → length (scaled m l) ≡ n
    scaled_long m l long = length-map l (λ y. m * y) ∙ long

    pub multiples_long : length (multiples a b c d) ≡ n
    multiples_long =
        four_long (plus p) n (times_of 0 a) (times_of 1 b) (times_of 2 c) (times_of 3 d)
        (scaled_long _ a a_long) (scaled_long _ b b_long) (scaled_long _ c c_long) (scaled_long _ d d_long)

    -- blocks of the rows, added to another
    pub block_sum : IsSmallPrime p → (i k : ℕ) (x : List ℕ) →
        sum_with_four_multiples p factors x (chunk i k a) (chunk i k b) (chunk i k c) (chunk i k d) ≡ zip2 (plus p) x (chunk i k (multiples a b c d))
    block_sum prime i k x =
        sym (added_up prime x (chunk i k a) (chunk i k b) (chunk i k c) (chunk i k d))
        ∙ ap (zip2 (plus p) x) (sym (chunk-four (plus p) n (times_of 0 a) (times_of 1 b) (times_of 2 c) (times_of 3 d)
        (scaled_long _ a a_long) (scaled_long _ b b_long) (scaled_long _ c c_long) (scaled_long _ d d_long) i k
        ∙ pieces))
      where
        pieces : four (plus p) (chunk i k (times_of 0 a)) (chunk i k (times_of 1 b)) (chunk i k (times_of 2 c)) (chunk i k (times_of 3 d))
            ≡ multiples (chunk i k a) (chunk i k b) (chunk i k c) (chunk i k d)
        pieces = λ j. four (plus p) (chunk-scaled (slice_index factors 0) i k a j) (chunk-scaled (slice_index factors 1) i k b j)
            (chunk-scaled (slice_index factors 2) i k c j) (chunk-scaled (slice_index factors 3) i k d j)

-- ---- bytes

-- a product of digits
product_below : (p m y : ℕ) → p < 8 → m < p → y < p → m * y + 6 ≤ 6 * p
product_below p m y few m_below y_below =
    let most = mul-le m y 6 (p - 1) (omega arith) (omega arith) in
    omega (arith, most)

pub products_below : (p m : ℕ) (l : List ℕ) → p < 8 → m < p → AreDigits p l → All (λ k. k + 6 ≤ 6 * p) (scaled m l)
products_below p m l few m_below below =
    All-map (λ k. k + 6 ≤ 6 * p) (λ y. m * y) l (λ k d inside. product_below p m (get_or l k d) few m_below (below k d inside))

lane : (p : ℕ) → IsSmallPrime p → (x a b c d : ℕ) → x < p → a + 6 ≤ 6 * p → b + 6 ≤ 6 * p → c + 6 ≤ 6 * p → d + 6 ≤ 6 * p →
    L p (L (2 * p) (L (4 * p) (L (8 * p) (L (16 * p) (wrapped x (wrapped (wrapped (wrapped a b) c) d)))))) ≡ plus p x (plus p (plus p (plus p a b) c) d)
lane p prime x a b c d hx ha hb hc hd =
    let few = small_primes p prime in
    let whole : wrapped x (wrapped (wrapped (wrapped a b) c) d) ≡ x + a + b + c + d = omega (arith, few.1) in
    ap (λ z. L p (L (2 * p) (L (4 * p) (L (8 * p) (L (16 * p) z))))) whole
    ∙ five_times p (x + a + b + c + d) (omega arith) ∙ sum_of_five p prime x a b c d

-- the lanes of a vector and of multiples of four others
pub lanes_of_multiples : (p : ℕ) → IsSmallPrime p → (factors : List ℕ) → ((i : ℕ) → i < 4 → slice_index factors i < p) → (x a b c d : List ℕ) →
    AreDigits p x → AreDigits p a → AreDigits p b → AreDigits p c → AreDigits p d →
    map (L p) (map (L (2 * p)) (map (L (4 * p)) (map (L (8 * p)) (map (L (16 * p)) (zip2 wrapped x (four wrapped (times_of p factors 0 a)
    (times_of p factors 1 b) (times_of p factors 2 c) (times_of p factors 3 d))))))) ≡ sum_with_four_multiples p factors x a b c d
lanes_of_multiples p prime factors small x a b c d hx ha hb hc hd =
    let few = (small_primes p prime).1 in
    let scaled_by : ℕ → List ℕ → List ℕ = times_of p factors in
    let sums : List ℕ = zip2 wrapped x (four wrapped (scaled_by 0 a) (scaled_by 1 b) (scaled_by 2 c) (scaled_by 3 d)) in
    let once : ℕ → ℕ = L (16 * p) in
    let twice : ℕ → ℕ = λ z. L (8 * p) (once z) in
    let thrice : ℕ → ℕ = λ z. L (4 * p) (twice z) in
    let four_times : ℕ → ℕ = λ z. L (2 * p) (thrice z) in
    ap (λ zs. map (L p) (map (L (2 * p)) (map (L (4 * p)) zs))) (map-map (L (8 * p)) once sums)
    ∙ ap (λ zs. map (L p) (map (L (2 * p)) zs)) (map-map (L (4 * p)) twice sums)
    ∙ ap (map (L p)) (map-map (L (2 * p)) thrice sums)
    ∙ map-map (L p) four_times sums
    ∙ lanes_by wrapped (plus p) (λ z. L p (four_times z)) (λ k. k < p) (λ k. k + 6 ≤ 6 * p) (lane p prime)
    x (scaled_by 0 a) (scaled_by 1 b) (scaled_by 2 c) (scaled_by 3 d) hx
    (products_below p (slice_index factors 0) a few (small 0 (omega arith)) ha)
    (products_below p (slice_index factors 1) b few (small 1 (omega arith)) hb)
    (products_below p (slice_index factors 2) c few (small 2 (omega arith)) hc)
    (products_below p (slice_index factors 3) d few (small 3 (omega arith)) hd)
    ∙ added_up p factors prime x a b c d

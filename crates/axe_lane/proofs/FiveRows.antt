-- The sum of five rows, entry by entry: the four that are added may be added up first.
use Rattle.std.proofs.Common.{◌≡◌, ℕ, zero, suc, ◌+◌, ◌*◌, ◌%◌, ◌<◌, ◌≤◌, List, [], ◌∷◌, length, map, get_or, take, drop, refl, sym, ap, ap₂, ◌∙◌, arith, inl, inr}
use Rattle.std.specs.Simd.Lanes.{chunk, zip2}
use Rattle.std.specs.List.{All}
use Rattle.std.proofs.lemmas.List.Elements.{All-head, All-tail, All-get_or}
use Rattle.std.proofs.lemmas.Simd.{get_or-zip2, length-zip2, map-map}
use Rattle.axe_lane.specs.Bytes.{IsSmallPrime, less_where_not_below}
use Rattle.axe_lane.proofs.ResidueLaws.{small_primes, thrice}

module _ (f : ℕ → ℕ → ℕ) where
  -- the sum of four rows
  abbrev pub four : List ℕ → List ℕ → List ℕ → List ℕ → List ℕ
  four a b c d = zip2 f (zip2 f (zip2 f a b) c) d

  drop-zip2 : (n : ℕ) (xs ys : List ℕ) → length ys ≡ length xs → drop n (zip2 f xs ys) ≡ zip2 f (drop n xs) (drop n ys)
  drop-zip2 zero xs ys e = refl
  drop-zip2 (suc n) [] ys e = refl
  drop-zip2 (suc n) (x ∷ xs) [] e = absurd (omega arith)
  drop-zip2 (suc n) (x ∷ xs) (y ∷ ys) e = drop-zip2 n xs ys (omega arith)

  take-zip2 : (n : ℕ) (xs ys : List ℕ) → take n (zip2 f xs ys) ≡ zip2 f (take n xs) (take n ys)
  take-zip2 zero xs ys = refl
  take-zip2 (suc n) [] ys = refl
  take-zip2 (suc n) (x ∷ xs) [] = refl
  take-zip2 (suc n) (x ∷ xs) (y ∷ ys) = ap (λ rest. f x y ∷ rest) (take-zip2 n xs ys)

  pub chunk-zip2 : (n k : ℕ) (xs ys : List ℕ) → length ys ≡ length xs → chunk n k (zip2 f xs ys) ≡ zip2 f (chunk n k xs) (chunk n k ys)
  chunk-zip2 n k xs ys e = ap (take k) (drop-zip2 n xs ys e) ∙ take-zip2 k (drop n xs) (drop n ys)

  pub associative : ((x y z : ℕ) → f x (f y z) ≡ f (f x y) z) → (xs ys zs : List ℕ) → zip2 f xs (zip2 f ys zs) ≡ zip2 f (zip2 f xs ys) zs
  associative law [] ys zs = refl
  associative law (x ∷ xs) [] zs = refl
  associative law (x ∷ xs) (y ∷ ys) [] = refl
  associative law (x ∷ xs) (y ∷ ys) (z ∷ zs) = ap₂ (λ v rest. v ∷ rest) (law x y z) (associative law xs ys zs)

  -- all four one after another
  pub one_by_one : ((x y z : ℕ) → f x (f y z) ≡ f (f x y) z) → (x a b c d : List ℕ) →
      zip2 f x (four a b c d) ≡ zip2 f (zip2 f (zip2 f (zip2 f x a) b) c) d
  one_by_one law x a b c d =
      associative law x (zip2 f (zip2 f a b) c) d
      ∙ ap (λ r. zip2 f r d) (associative law x (zip2 f a b) c ∙ ap (λ r. zip2 f r c) (associative law x a b))

  module _ (n : ℕ) (a b c d : List ℕ) (a_long : length a ≡ n) (b_long : length b ≡ n) (c_long : length c ≡ n) (d_long : length d ≡ n) where
    two_long : length (zip2 f a b) ≡ n
    two_long = length-zip2 f a b (a_long ∙ sym b_long) ∙ a_long

    three_long : length (zip2 f (zip2 f a b) c) ≡ n
    three_long = length-zip2 f (zip2 f a b) c (two_long ∙ sym c_long) ∙ two_long

    pub four_long : length (four a b c d) ≡ n
    four_long = length-zip2 f (zip2 f (zip2 f a b) c) d (three_long ∙ sym d_long) ∙ three_long

    pub chunk-four : (i k : ℕ) → chunk i k (four a b c d) ≡ four (chunk i k a) (chunk i k b) (chunk i k c) (chunk i k d)
    chunk-four i k =
        chunk-zip2 i k (zip2 f (zip2 f a b) c) d (d_long ∙ sym three_long)
        ∙ ap (λ r. zip2 f r (chunk i k d)) (chunk-zip2 i k (zip2 f a b) c (c_long ∙ sym two_long)
        ∙ ap (λ r. zip2 f r (chunk i k c)) (chunk-zip2 i k a b (b_long ∙ sym a_long)))

    pub get_or-four : (i : ℕ) → i < n → get_or (four a b c d) i 0 ≡ f (f (f (get_or a i 0) (get_or b i 0)) (get_or c i 0)) (get_or d i 0)
    get_or-four i below =
        get_or-zip2 f (zip2 f (zip2 f a b) c) d i 0 0 0 (omega (arith, three_long)) (omega (arith, d_long))
        ∙ ap (λ r. f r (get_or d i 0)) (get_or-zip2 f (zip2 f a b) c i 0 0 0 (omega (arith, two_long)) (omega (arith, c_long))
        ∙ ap (λ r. f r (get_or c i 0)) (get_or-zip2 f a b i 0 0 0 (omega (arith, a_long)) (omega (arith, b_long))))

-- ---- bytes

-- the sum modulo p
abbrev pub plus : ℕ → ℕ → ℕ → ℕ
plus p x y = (x + y) % p

pub plus_associative : (p : ℕ) → IsSmallPrime p → (x y z : ℕ) → plus p x (plus p y z) ≡ plus p (plus p x y) z
plus_associative p (inl e) x y z = rw e (omega arith)
plus_associative p (inr (inl e)) x y z = rw e (omega arith)
plus_associative p (inr (inr (inl e))) x y z = rw e (omega arith)
plus_associative p (inr (inr (inr e))) x y z = rw e (omega arith)

-- one reduction does
pub sum_of_five : (p : ℕ) → IsSmallPrime p → (x a b c d : ℕ) →
    (x + a + b + c + d) % p ≡ plus p x (plus p (plus p (plus p a b) c) d)
sum_of_five p (inl e) x a b c d = rw e (omega arith)
sum_of_five p (inr (inl e)) x a b c d = rw e (omega arith)
sum_of_five p (inr (inr (inl e))) x a b c d = rw e (omega arith)
sum_of_five p (inr (inr (inr e))) x a b c d = rw e (omega arith)

-- the sum of bytes, as a vector has it
abbrev pub wrapped : ℕ → ℕ → ℕ
wrapped x y = (x + y) % 256

pub wrapped_associative : (x y z : ℕ) → wrapped x (wrapped y z) ≡ wrapped (wrapped x y) z
wrapped_associative x y z = omega arith

abbrev L : ℕ → ℕ → ℕ
L = less_where_not_below

lane : (p : ℕ) → IsSmallPrime p → (x a b c d : ℕ) → x < p → a < p → b < p → c < p → d < p →
    L p (L (2 * p) (L (4 * p) (wrapped x (wrapped (wrapped (wrapped a b) c) d)))) ≡ plus p x (plus p (plus p (plus p a b) c) d)
lane p prime x a b c d hx ha hb hc hd =
    let few = small_primes p prime in
    let whole : wrapped x (wrapped (wrapped (wrapped a b) c) d) ≡ x + a + b + c + d = omega (arith, few.1) in
    ap (λ z. L p (L (2 * p) (L (4 * p) z))) whole ∙ thrice p (x + a + b + c + d) (omega arith) ∙ sum_of_five p prime x a b c d

-- the lanes of five vectors, where r takes a sum by f to one by g
module _ (f g : ℕ → ℕ → ℕ) (r : ℕ → ℕ) (P Q : ℕ → Type 0)
    (lane : (x a b c d : ℕ) → P x → Q a → Q b → Q c → Q d → r (f x (f (f (f a b) c) d)) ≡ g x (g (g (g a b) c) d)) where
  pub lanes_by : (x a b c d : List ℕ) → All P x → All Q a → All Q b → All Q c → All Q d →
      map r (zip2 f x (four f a b c d)) ≡ zip2 g x (four g a b c d)
  lanes_by [] a b c d hx ha hb hc hd = refl
  lanes_by (x ∷ xs) [] b c d hx ha hb hc hd = refl
  lanes_by (x ∷ xs) (a ∷ al) [] c d hx ha hb hc hd = refl
  lanes_by (x ∷ xs) (a ∷ al) (b ∷ bs) [] d hx ha hb hc hd = refl
  lanes_by (x ∷ xs) (a ∷ al) (b ∷ bs) (c ∷ cs) [] hx ha hb hc hd = refl
  lanes_by (x ∷ xs) (a ∷ al) (b ∷ bs) (c ∷ cs) (d ∷ ds) hx ha hb hc hd =
      ap₂ (λ v rest. v ∷ rest)
      (lane x a b c d (All-head P x xs hx) (All-head Q a al ha) (All-head Q b bs hb) (All-head Q c cs hc) (All-head Q d ds hd))
      (lanes_by xs al bs cs ds (All-tail P x xs hx) (All-tail Q a al ha) (All-tail Q b bs hb) (All-tail Q c cs hc) (All-tail Q d ds hd))

pub lanes : (p : ℕ) → IsSmallPrime p → (x a b c d : List ℕ) → All (λ k. k < p) x → All (λ k. k < p) a → All (λ k. k < p) b →
    All (λ k. k < p) c → All (λ k. k < p) d →
    map (L p) (map (L (2 * p)) (map (L (4 * p)) (zip2 wrapped x (four wrapped a b c d)))) ≡ zip2 (plus p) x (four (plus p) a b c d)
lanes p prime x a b c d hx ha hb hc hd =
    let sums : List ℕ = zip2 wrapped x (four wrapped a b c d) in
    ap (map (L p)) (map-map (L (2 * p)) (L (4 * p)) sums) ∙ map-map (L p) (λ z. L (2 * p) (L (4 * p) z)) sums
    ∙ lanes_by wrapped (plus p) (λ z. L p (L (2 * p) (L (4 * p) z))) (λ k. k < p) (λ k. k < p) (lane p prime) x a b c d hx ha hb hc hd

-- the sum of five bytes at an index, before it is reduced
pub sum_bound : (p n m : ℕ) (x a b c d : List ℕ) → n < m → length x ≡ m → length a ≡ m → length b ≡ m → length c ≡ m → length d ≡ m →
    All (λ k. k < p) x → All (λ k. k < p) a → All (λ k. k < p) b → All (λ k. k < p) c → All (λ k. k < p) d →
    get_or x n 0 + get_or a n 0 + get_or b n 0 + get_or c n 0 + get_or d n 0 + 5 ≤ 5 * p
sum_bound p n m x a b c d inside ex ea eb ec ed hx ha hb hc hd =
    let at : (l : List ℕ) → length l ≡ m → All (λ k. k < p) l → get_or l n 0 < p = λ l e h.
    All-get_or (λ k. k < p) l n 0 (omega (arith, e)) h in
    omega (arith, at x ex hx, at a ea ha, at b eb hb, at c ec hc, at d ed hd)

-- What the operations on vectors make of lists that were made lane by lane.
use Rattle.std.proofs.Common.{◌≡◌, ℕ, zero, suc, ◌+◌, ◌-◌, ◌*◌, ◌/◌, ◌%◌, ◌^◌, ◌<◌, List, [], ◌∷◌, Bool, cond, map, length, ltb, refl, ap, ap₂, ◌∙◌, arith, Fits, w8}
use Rattle.std.specs.Simd.Lanes.{zip2, sel_l, Each1, top, digits_l, number_l}
use Rattle.std.specs.List.{All}
use Rattle.std.proofs.lemmas.List.Elements.{All-head, All-tail}
use Rattle.std.proofs.lemmas.Simd.{tops_compared}
use mir.Val.{bits, hbits}

module _ {A B C : Type 0} where
  pub map-zip2 : {D : Type 0} (h : C → D) (f : A → B → C) (xs : List A) (ys : List B) → map h (zip2 f xs ys) ≡ zip2 (λ x y. h (f x y)) xs ys
  map-zip2 h f [] ys = refl
  map-zip2 h f (x ∷ xs) [] = refl
  map-zip2 h f (x ∷ xs) (y ∷ ys) = ap (λ rest. h (f x y) ∷ rest) (map-zip2 h f xs ys)

  pub zip2-map_right : {D : Type 0} (f : A → B → C) (h : D → B) (xs : List A) (ys : List D) → zip2 f xs (map h ys) ≡ zip2 (λ x y. f x (h y)) xs ys
  zip2-map_right f h [] ys = refl
  zip2-map_right f h (x ∷ xs) [] = refl
  zip2-map_right f h (x ∷ xs) (y ∷ ys) = ap (λ rest. f x (h y) ∷ rest) (zip2-map_right f h xs ys)

  -- a function that looks at the first list alone
  pub zip2-first : (g : A → C) (xs : List A) (ys : List B) → length ys ≡ length xs → zip2 (λ x y. g x) xs ys ≡ map g xs
  zip2-first g [] ys e = refl
  zip2-first g (x ∷ xs) [] e = absurd (omega arith)
  zip2-first g (x ∷ xs) (y ∷ ys) e = ap (λ rest. g x ∷ rest) (zip2-first g xs ys (omega arith))

module _ {A : Type 0} where
  -- functions that agree where P holds
  pub map-agree : {B : Type 0} (P : A → Type 0) (f g : A → B) → ((x : A) → P x → f x ≡ g x) → (xs : List A) → Each1 P xs → map f xs ≡ map g xs
  map-agree P f g same [] p = refl
  map-agree P f g same (x ∷ xs) p = ap₂ (λ y rest. y ∷ rest) (same x p.0) (map-agree P f g same xs p.1)

  pub zip2-agree : {B C : Type 0} (P : A → Type 0) (Q : B → Type 0) (f g : A → B → C) → ((x : A) (y : B) → P x → Q y → f x y ≡ g x y)
      → (xs : List A) (ys : List B) → All P xs → All Q ys → zip2 f xs ys ≡ zip2 g xs ys
  zip2-agree P Q f g same [] ys p q = refl
  zip2-agree P Q f g same (x ∷ xs) [] p q = refl
  zip2-agree P Q f g same (x ∷ xs) (y ∷ ys) p q =
      ap₂ (λ z rest. z ∷ rest) (same x y (All-head P x xs p) (All-head Q y ys q))
      (zip2-agree P Q f g same xs ys (All-tail P x xs p) (All-tail Q y ys q))

  sel_l-map : (t : A → A → Bool) (h : A → A) (xs : List A) → sel_l (zip2 t xs (map h xs)) xs (map h xs) ≡ map (λ x. cond (t x (h x)) x (h x)) xs
  sel_l-map t h [] = refl
  sel_l-map t h (x ∷ xs) = ap (λ rest. cond (t x (h x)) x (h x) ∷ rest) (sel_l-map t h xs)

-- `simd_min` on bytes
abbrev pub mins : List ℕ → List ℕ → List ℕ
mins xs ys = sel_l (map (top (hbits w8)) (zip2 (λ a b. cond (ltb a b) (2 ^ bits w8 - 1) 0) xs ys)) xs ys

pub mins-map : (h : ℕ → ℕ) (xs : List ℕ) → mins xs (map h xs) ≡ map (λ x. cond (ltb x (h x)) x (h x)) xs
mins-map h xs = ap (λ ms. sel_l ms xs (map h xs)) (tops_compared w8 ltb xs (map h xs)) ∙ sel_l-map ltb h xs

pub length-zip2_of : {A B C : Type 0} (f : A → B → C) (xs : List A) (ys : List B) (n : ℕ) → length xs ≡ n → length ys ≡ n → length (zip2 f xs ys) ≡ n
length-zip2_of f [] ys n e h = e
length-zip2_of f (x ∷ xs) [] n e h = absurd (omega arith)
length-zip2_of f (x ∷ xs) (y ∷ ys) zero e h = absurd (omega arith)
length-zip2_of f (x ∷ xs) (y ∷ ys) (suc n) e h = ap suc (length-zip2_of f xs ys n (omega arith) (omega arith))

pub map-same : (v : List ℕ) → v ≡ map (λ x. x) v
map-same [] = refl
map-same (x ∷ v) = ap (λ rest. x ∷ rest) (map-same v)

-- ---- bytes, two of which are multiplied as one number of 16 bits

digits_of_pair : (k a b rest : ℕ) → a < 256 → b < 256
    → digits_l 256 (suc (suc k)) (a + 256 * b + 65536 * rest) ≡ a ∷ b ∷ digits_l 256 k rest
digits_of_pair k a b rest a_byte b_byte =
    let number : ℕ = a + 256 * b + 65536 * rest in
    let lower : number % 256 ≡ a = omega arith in
    let higher : number / 256 % 256 ≡ b = omega arith in
    let others : number / 256 / 256 ≡ rest = omega arith in
    λ i. lower i ∷ higher i ∷ digits_l 256 k (others i)

module _ (m : ℕ) where
  -- where the products are bytes, none is carried from the lower one to the higher one
  product_of_pair : (a b rest : ℕ) → a < 256 → b < 256 → m * a < 256 → m * b < 256
      → ((a + 256 * (b + 256 * rest)) % 65536 * m) % 65536 ≡ m * a + 256 * (m * b)
  product_of_pair a b rest a_byte b_byte low high =
      let pair : (a + 256 * (b + 256 * rest)) % 65536 ≡ a + 256 * b = omega arith in
      let product : (a + 256 * b) * m ≡ m * a + 256 * (m * b) = omega arith in
      ap (λ x. (x * m) % 65536) pair ∙ ap (λ x. x % 65536) product ∙ omega arith

  -- the products of n numbers of 16 bits with m, where the bytes of the numbers are the digits of x
  abbrev pub pair_products : ℕ → ℕ → List ℕ
  pair_products n x = map (λ y. (y * m) % 65536) (digits_l 65536 n x)

  pub products_of_pairs : (n : ℕ) (v : List ℕ) → length v ≡ 2 * n → Each1 (Fits w8) v → All (λ x. m * x < 256) v
      → digits_l 256 (length v) (number_l 65536 (pair_products n (number_l 256 v))) ≡ map (λ x. m * x) v
  products_of_pairs zero [] long bytes small = refl
  products_of_pairs zero (a ∷ v) long bytes small = absurd (omega arith)
  products_of_pairs (suc n) [] long bytes small = absurd (omega arith)
  products_of_pairs (suc n) (a ∷ []) long bytes small = absurd (omega arith)
  products_of_pairs (suc n) (a ∷ b ∷ v) long bytes small =
      let a_byte : a < 256 = bytes.0.fits in
      let b_byte : b < 256 = bytes.1.0.fits in
      let after : All (λ x. m * x < 256) (b ∷ v) = All-tail (λ x. m * x < 256) a (b ∷ v) small in
      let low : m * a < 256 = All-head (λ x. m * x < 256) a (b ∷ v) small in
      let high : m * b < 256 = All-head (λ x. m * x < 256) b v after in
      let rest : ℕ = number_l 256 v in
      let others : (a + 256 * (b + 256 * rest)) / 65536 ≡ rest = omega arith in
      let lowest = product_of_pair a b rest a_byte b_byte low high in
      ap (digits_l 256 (length (a ∷ b ∷ v))) (ap₂ (λ x y. x + 65536 * number_l 65536 (pair_products n y)) lowest others)
      ∙ digits_of_pair (length v) (m * a) (m * b) (number_l 65536 (pair_products n rest)) low high
      ∙ ap (λ xs. m * a ∷ m * b ∷ xs)
      (products_of_pairs n v (omega arith) bytes.1.1 (All-tail (λ x. m * x < 256) b v after))

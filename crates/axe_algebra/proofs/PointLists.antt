-- The coordinates of points: which lists they are, how many, in which order, and which is the first.
use Rattle.std.specs.Prelude.{◌≡◌, ℕ, zero, suc, ◌+◌, ◌-◌, ◌*◌, ◌/◌, ◌%◌, ◌^◌, ◌<◌, ◌≤◌, true, false, cond, eqb, List, [], ◌∷◌, ◌++◌, map, length, get_or}
use Rattle.std.specs.List.{filter, range_with_len}
use Rattle.std.proofs.lemmas.Bool.{ne_eqb}
use Rattle.std.proofs.lemmas.List.{map-append, length-append, length-map, get_or-map, append-nil}
use Rattle.std.proofs.lemmas.List.Elements.{filter-append}
use Rattle.std.proofs.lemmas.Nat.{le-div}
use Rattle.axe_algebra.specs.Lists.{listed}
use Rattle.axe_algebra.specs.Digits.{digits}
use Rattle.axe_algebra.specs.PointsOfLists.{leads_with_one, point_coordinates}
use Rattle.axe_algebra.specs.PointTheorems.{CoordinatesAreCounted, CoordinatesGrow}
use Rattle.axe_algebra.proofs.ListEntries.{listed_length}
use Rattle.axe_algebra.proofs.Digits.{pow-positive, digits_cons, leading_digit}
use Rattle.axe_algebra.proofs.PointFilters.{filter_of_map, filter_keeps, filter_skips, range_append, range_as_listed}
use mathlib.Core.Path.{refl, sym, ◌∙◌, ap, ap₂, subst}
use native.Mathlib.Nat.{pow-zero, pow-suc, pow-le-pow_right, add-mul, mul-add, mul-one, mul-le-mul_left, zero-mul}
use native.Mathlib.Omega.{arith}
use native.Mathlib.Decide.{ℕ_discrete}

-- ---- the first nonzero entry

pub leads-one : (rest : List ℕ) → leads_with_one (1 ∷ rest) ≡ true
unfolding leads_with_one
leads-one rest = refl

pub leads-more : (d : ℕ) (rest : List ℕ) → 2 ≤ d → leads_with_one (d ∷ rest) ≡ false
unfolding leads_with_one
leads-more d rest large =
    ap (λ b. cond b (leads_with_one rest) (eqb d 1)) (ne_eqb d 0 (λ e. omega arith)) ∙ ne_eqb d 1 (λ e. omega arith)

-- a digit 0 in front
pub digits_with_zero : (q m x : ℕ) → 0 < q → x < q ^ m → digits q (suc m) x ≡ 0 ∷ digits q m x
digits_with_zero q m x positive small =
    ap (digits q (suc m)) (let e : x ≡ 0 * q ^ m + x = omega (arith, zero-mul (q ^ m)) in e) ∙ digits_cons q m 0 x positive small

pub leads_with_zero : (q m x : ℕ) → 0 < q → x < q ^ m → leads_with_one (digits q (suc m) x) ≡ leads_with_one (digits q m x)
unfolding leads_with_one
leads_with_zero q m x positive small = ap leads_with_one (digits_with_zero q m x positive small)

-- the powers below a power
pub twice_power : (q p m : ℕ) → 2 ≤ q → p < m → 2 * q ^ p ≤ q ^ m
twice_power q p m large below =
    let next : q ^ suc p ≤ q ^ m = pow-le-pow_right {n = q} (omega arith) below in
    let twice : q ^ p * 2 ≤ q ^ p * q = mul-le-mul_left (q ^ p) large in
    omega (arith, pow-suc q p)

-- the numbers from q^p to 2 q^p lead with 1, those from there to q^(p + 1) don't, and 0 doesn't
pub leads_in_block : (q m p x : ℕ) → 2 ≤ q → p < m → q ^ p ≤ x → x < 2 * q ^ p → leads_with_one (digits q m x) ≡ true
leads_in_block q zero p x large below from to = absurd (omega arith)
leads_in_block q (suc m) p x large below from to = cases (ℕ_discrete p m) (λ inside. leads_in_block q m p x large inside from to)
  where
    cases : Dec (p ≡ m) → (p < m → leads_with_one (digits q m x) ≡ true) → leads_with_one (digits q (suc m) x) ≡ true
    cases (yes e) rest =
        let same : q ^ p ≡ q ^ m = ap (λ k. q ^ k) e in
        let split : x ≡ 1 * q ^ m + (x - q ^ m) = omega arith in
        ap (λ y. leads_with_one (digits q (suc m) y)) split
        ∙ ap leads_with_one (digits_cons q m 1 (x - q ^ m) large (omega arith)) ∙ leads-one (digits q m (x - q ^ m))
    cases (no other) rest =
        let inside : p < m = omega arith in
        let room : 2 * q ^ p ≤ q ^ m = twice_power q p m large inside in
        leads_with_zero q m x (omega arith) (omega arith) ∙ rest inside

pub leads_not_past_block : (q m p x : ℕ) → 2 ≤ q → p < m → 2 * q ^ p ≤ x → x < q ^ suc p → leads_with_one (digits q m x) ≡ false
leads_not_past_block q zero p x large below from to = absurd (omega arith)
leads_not_past_block q (suc m) p x large below from to = cases (ℕ_discrete p m) (λ inside. leads_not_past_block q m p x large inside from to)
  where
    cases : Dec (p ≡ m) → (p < m → leads_with_one (digits q m x) ≡ false) → leads_with_one (digits q (suc m) x) ≡ false
    cases (yes e) rest =
        let parts = leading_digit q m x (omega arith) (subst (λ k. x < q ^ suc k) e to) in
        let twice : 2 ≤ x / q ^ m = le-div 2 x (q ^ m) (pow-positive q m (omega arith)) (subst (λ k. 2 * q ^ k ≤ x) e from) in
        ap (λ y. leads_with_one (digits q (suc m) y)) (sym parts.2)
        ∙ ap leads_with_one (digits_cons q m (x / q ^ m) (x % q ^ m) parts.0 parts.1)
        ∙ leads-more (x / q ^ m) (digits q m (x % q ^ m)) twice
    cases (no other) rest =
        let inside : p < m = omega arith in
        let room : q ^ suc p ≤ q ^ m = pow-le-pow_right {n = q} (omega arith) inside in
        leads_with_zero q m x (omega arith) (omega arith) ∙ rest inside

pub leads_not_zero : (q m : ℕ) → 0 < q → leads_with_one (digits q m 0) ≡ false
unfolding leads_with_one digits
leads_not_zero q zero positive = refl
leads_not_zero q (suc m) positive = leads_with_zero q m 0 positive (pow-positive q m positive) ∙ leads_not_zero q m positive

-- ---- the list of coordinates

-- the numbers whose digits are coordinates of points
unfoldable pub point_numbers : ℕ → ℕ → List ℕ
point_numbers q m = filter (λ x. leads_with_one (digits q m x)) (range_with_len 0 (q ^ m))

pub coordinates_are_digits : (q m : ℕ) → point_coordinates q m ≡ map (digits q m) (point_numbers q m)
unfolding point_coordinates point_numbers
coordinates_are_digits q m = filter_of_map leads_with_one (digits q m) (range_with_len 0 (q ^ m))

pub no_coordinates : (q : ℕ) → point_coordinates q 0 ≡ []
unfolding point_coordinates digits leads_with_one
no_coordinates q = ap (λ n. filter leads_with_one (listed n (digits q 0))) (pow-zero q)

map_after : {X Y : Type 0} (f : ℕ → X) (g : X → Y) (xs : List ℕ) → map (λ x. g (f x)) xs ≡ map g (map f xs)
map_after f g [] = refl
map_after f g (x ∷ xs) = ap (λ ys. g (f x) ∷ ys) (map_after f g xs)

-- the digit lists that begin with d
block_of_digits : (q m d : ℕ) → d < q → map (digits q (suc m)) (range_with_len (d * q ^ m) (q ^ m)) ≡ map (λ c. d ∷ c) (listed (q ^ m) (digits q m))
block_of_digits q m d below =
    range_as_listed (digits q (suc m)) (λ y. d ∷ digits q m y) (d * q ^ m) (q ^ m) [] (λ y inside. digits_cons q m d y below inside)
    ∙ map_after (digits q m) (λ c. d ∷ c) (range_with_len 0 (q ^ m))

zeros_block : (zs : List (List ℕ)) → filter leads_with_one (map (λ c. 0 ∷ c) zs) ≡ map (λ c. 0 ∷ c) (filter leads_with_one zs)
unfolding leads_with_one
zeros_block zs = filter_of_map leads_with_one (λ c. 0 ∷ c) zs

ones_block : (zs : List (List ℕ)) → filter leads_with_one (map (λ c. 1 ∷ c) zs) ≡ map (λ c. 1 ∷ c) zs
ones_block zs = filter_keeps leads_with_one (map (λ c. 1 ∷ c) zs) (λ i d below.
    ap leads_with_one (get_or-map (λ c. 1 ∷ c) zs i [] d (omega (arith, length-map zs (λ (c : List ℕ). 1 ∷ c)))) ∙ leads-one (get_or zs i []))

high_block : (q m n : ℕ) → 2 ≤ q → 2 * q ^ m + n ≤ q ^ suc m → filter leads_with_one (map (digits q (suc m)) (range_with_len (2 * q ^ m) n)) ≡ []
high_block q m n large room =
    filter_of_map leads_with_one (digits q (suc m)) (range_with_len (2 * q ^ m) n)
    ∙ ap (map (digits q (suc m))) (filter_skips (λ x. leads_with_one (digits q (suc m) x)) (2 * q ^ m) n (λ x from to.
    leads_not_past_block q (suc m) m x large (omega arith) from (omega arith)))

-- the coordinates over one row more: 0 before those over the others, then 1 before any digits
pub more_coordinates : (q m : ℕ) → 2 ≤ q →
    point_coordinates q (suc m) ≡ map (λ c. 0 ∷ c) (point_coordinates q m) ++ map (λ c. 1 ∷ c) (listed (q ^ m) (digits q m))
unfolding point_coordinates
more_coordinates q m large =
    ap (λ k. filter leads_with_one (map f (range_with_len 0 k))) whole
    ∙ ap (λ xs. filter leads_with_one (map f xs))
    (range_append 0 n (n + rest) ∙ ap (λ xs. range_with_len 0 n ++ xs) (range_append (0 + n) n rest))
    ∙ ap (filter leads_with_one)
    (map-append f (range_with_len 0 n) (range_with_len (0 + n) n ++ range_with_len (0 + n + n) rest)
    ∙ ap (λ xs. map f (range_with_len 0 n) ++ xs) (map-append f (range_with_len (0 + n) n) (range_with_len (0 + n + n) rest)))
    ∙ filter-append leads_with_one (map f (range_with_len 0 n)) (map f (range_with_len (0 + n) n) ++ map f (range_with_len (0 + n + n) rest))
    ∙ ap₂ (λ (a b : List (List ℕ)). a ++ b) first
    (filter-append leads_with_one (map f (range_with_len (0 + n) n)) (map f (range_with_len (0 + n + n) rest))
    ∙ ap₂ (λ (a b : List (List ℕ)). a ++ b) second third ∙ append-nil (map (λ c. 1 ∷ c) (listed n (digits q m))))
  where
    n : ℕ
    n = q ^ m

    rest : ℕ
    rest = q ^ suc m - 2 * n

    f : ℕ → List ℕ
    f = digits q (suc m)

    room : 2 * n ≤ q ^ suc m
    room = twice_power q m (suc m) large (omega arith)

    whole : q ^ suc m ≡ n + (n + rest)
    whole = omega (arith, room)

    first : filter leads_with_one (map f (range_with_len 0 n)) ≡ map (λ c. 0 ∷ c) (filter leads_with_one (listed n (digits q m)))
    first =
        ap (λ a. filter leads_with_one (map f (range_with_len a n))) (sym (zero-mul n))
        ∙ ap (filter leads_with_one) (block_of_digits q m 0 (omega arith)) ∙ zeros_block (listed n (digits q m))

    second : filter leads_with_one (map f (range_with_len (0 + n) n)) ≡ map (λ c. 1 ∷ c) (listed n (digits q m))
    second =
        ap (λ a. filter leads_with_one (map f (range_with_len a n))) (let e : 0 + n ≡ 1 * n = omega arith in e)
        ∙ ap (filter leads_with_one) (block_of_digits q m 1 large) ∙ ones_block (listed n (digits q m))

    third : filter leads_with_one (map f (range_with_len (0 + n + n) rest)) ≡ []
    third =
        ap (λ a. filter leads_with_one (map f (range_with_len a rest))) (let e : 0 + n + n ≡ 2 * n = omega arith in e)
        ∙ high_block q m rest large (omega (arith, room))

-- ---- how many there are

pub count_more : (q m : ℕ) → 2 ≤ q → length (point_coordinates q (suc m)) ≡ length (point_coordinates q m) + q ^ m
count_more q m large =
    ap length (more_coordinates q m large)
    ∙ length-append (map (λ c. 0 ∷ c) (point_coordinates q m)) (map (λ c. 1 ∷ c) (listed (q ^ m) (digits q m)))
    ∙ ap₂ (λ (a b : ℕ). a + b) (length-map (point_coordinates q m) (λ (c : List ℕ). 0 ∷ c))
    (length-map (listed (q ^ m) (digits q m)) (λ (c : List ℕ). 1 ∷ c) ∙ listed_length (q ^ m) (digits q m))

pub count_times : CoordinatesAreCounted
count_times q zero large =
    ap (λ (xs : List (List ℕ)). length xs * (q - 1) + 1) (no_coordinates q) ∙ (let e : 0 * (q - 1) + 1 ≡ q ^ 0 = omega (arith, zero-mul (q - 1), pow-zero q) in e)
count_times q (suc m) large =
    ap (λ n. n * (q - 1) + 1) (count_more q m large)
    ∙ ap (λ n. n + 1) (add-mul (length (point_coordinates q m)) (q ^ m) (q - 1))
    ∙ (let below = count_times q m large in
    let whole : q ^ m * q ≡ q ^ m * (q - 1) + q ^ m =
    ap (λ k. q ^ m * k) (let e : q ≡ q - 1 + 1 = omega arith in e) ∙ mul-add (q ^ m) (q - 1) 1 ∙ ap (λ k. q ^ m * (q - 1) + k) (mul-one (q ^ m)) in
    let e : length (point_coordinates q m) * (q - 1) + q ^ m * (q - 1) + 1 ≡ q ^ m * q = omega arith in e)
    ∙ sym (pow-suc q m)

pub count_next : (q m : ℕ) → 2 ≤ q → length (point_coordinates q (suc m)) ≡ length (point_coordinates q m) * q + 1
count_next q m large =
    count_more q m large
    ∙ (let below = count_times q m large in
    let c = length (point_coordinates q m) in
    let whole : c * q ≡ c * (q - 1) + c =
    ap (λ k. c * k) (let e : q ≡ q - 1 + 1 = omega arith in e) ∙ mul-add c (q - 1) 1 ∙ ap (λ k. c * (q - 1) + k) (mul-one c) in
    omega arith)

pub count_grows : CoordinatesGrow
count_grows q m zero large most = omega (arith, ap (λ k. length (point_coordinates q k)) (let e : m ≡ 0 = omega arith in e))
count_grows q m (suc n) large most = cases (ℕ_discrete m (suc n)) (λ below. count_grows q m n large below)
  where
    cases : Dec (m ≡ suc n) → (m ≤ n → length (point_coordinates q m) ≤ length (point_coordinates q n)) →
        length (point_coordinates q m) ≤ length (point_coordinates q (suc n))
    cases (yes e) rest = omega (arith, ap (λ k. length (point_coordinates q k)) e)
    cases (no other) rest = let h = rest (omega arith) in omega (arith, count_more q n large)

-- a space of positive dimension has a point
pub some_coordinates : (q m : ℕ) → 2 ≤ q → 0 < length (point_coordinates q (suc m))
some_coordinates q m large = omega (arith, count_more q m large, pow-positive q m (omega arith))

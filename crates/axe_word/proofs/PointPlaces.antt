-- How an iterator of points stands at a place: what is left there, at the next place, and past the end.
use Rattle.std.proofs.Common.{◌≡◌, ◌≢◌, ℕ, suc, ◌+◌, ◌-◌, ◌*◌, ◌^◌, ◌<◌, ◌≤◌, Bool, true, false, cond, List, [], ◌∷◌, ◌++◌, map, length, get_or, drop, refl, sym, ap, subst, ◌∙◌, arith}
use Rattle.std.specs.List.{filter, range_with_len}
use Rattle.std.proofs.lemmas.List.Elements.{filter-append}
use Rattle.axe_algebra.specs.Digits.{digits}
use Rattle.axe_algebra.specs.ListArithmetic.{combination}
use Rattle.axe_algebra.specs.PointsOfLists.{leads_with_one, point_coordinates, points}
use Rattle.axe_algebra.proofs.PointFilters.{filter_skips, range_append}
use Rattle.axe_algebra.proofs.PointLists.{leads_in_block, leads_not_past_block, leads_not_zero, point_numbers, coordinates_are_digits, count_times}
use Rattle.axe_algebra.proofs.Digits.{pow-positive}
use Rattle.axe_field.specs.Order.{order_number}
use Rattle.axe_field.specs.NumberFields.{number_field}
use Rattle.axe_field.proofs.NumberFields.{number_field-order}
use Rattle.axe_field.proofs.Orders.{order_number-at_least, order_number-at_most}
use Rattle.axe_matrix.specs.Matrices.{MatrixValue}
use Rattle.axe_word.specs.PointsOfMatrix.{PointsLeft, point_count, points_of, point_with_number, points_from, IsPlaceOfPoint}
use native.Mathlib.Nat.{pow-zero, pow-suc, pow-le-pow_right, mul-le-mul_left}
use native.Mathlib.Decide.{ℕ_discrete, dec_lt}

-- ---- numbers from one on

abbrev numbers_from : ℕ → ℕ → ℕ → List ℕ
numbers_from q m x = filter (λ n. leads_with_one (digits q m n)) (range_with_len x (q ^ m - x))

numbers_at : (q m x : ℕ) → x < q ^ m → leads_with_one (digits q m x) ≡ true → numbers_from q m x ≡ x ∷ numbers_from q m (x + 1)
numbers_at q m x below leads =
    ap (λ k. filter (λ n. leads_with_one (digits q m n)) (range_with_len x k)) (let e : q ^ m - x ≡ suc (q ^ m - (x + 1)) = omega arith in e)
    ∙ ap (λ b. cond b (x ∷ numbers_from q m (x + 1)) (numbers_from q m (x + 1))) leads

numbers_skip : (q m x y : ℕ) → x ≤ y → y ≤ q ^ m → ((z : ℕ) → x ≤ z → z < y → leads_with_one (digits q m z) ≡ false) →
    numbers_from q m x ≡ numbers_from q m y
numbers_skip q m x y ahead within none =
    ap (λ k. filter test (range_with_len x k)) (let e : q ^ m - x ≡ y - x + (q ^ m - y) = omega arith in e)
    ∙ ap (filter test) (range_append x (y - x) (q ^ m - y))
    ∙ filter-append test (range_with_len x (y - x)) (range_with_len (x + (y - x)) (q ^ m - y))
    ∙ ap (λ xs. xs ++ filter test (range_with_len (x + (y - x)) (q ^ m - y))) (filter_skips test x (y - x) (λ z from to. none z from (omega arith)))
    ∙ ap (λ k. filter test (range_with_len k (q ^ m - y))) (let e : x + (y - x) ≡ y = omega arith in e)
  where
    test : ℕ → Bool
    test = λ n. leads_with_one (digits q m n)

numbers_none : (q m : ℕ) → numbers_from q m (q ^ m) ≡ []
numbers_none q m = ap (λ k. filter (λ n. leads_with_one (digits q m n)) (range_with_len (q ^ m) k)) (let e : q ^ m - q ^ m ≡ 0 = omega arith in e)

numbers_all : (q m : ℕ) → 2 ≤ q → point_numbers q m ≡ numbers_from q m 1
unfolding point_numbers
numbers_all q m large =
    ap (λ k. filter (λ n. leads_with_one (digits q m n)) (range_with_len 0 k)) (let e : q ^ m ≡ suc (q ^ m - 1) = omega (arith, pow-positive q m (omega arith)) in e)
    ∙ ap (λ b. cond b (0 ∷ numbers_from q m 1) (numbers_from q m 1)) (leads_not_zero q m (omega arith))

map_after : (f : ℕ → List ℕ) (g : List ℕ → List ℕ) (xs : List ℕ) → map g (map f xs) ≡ map (λ x. g (f x)) xs
map_after f g [] = refl
map_after f g (x ∷ xs) = ap (λ ys. g (f x) ∷ ys) (map_after f g xs)

-- ---- what is left

pub left_at_start : (b : MatrixValue) → points_from b 1 ≡ points_of b
unfolding points_from points
left_at_start b =
    ap (map (point_with_number b)) (sym (numbers_all q m (order_number-at_least b.order)))
    ∙ sym (map_after (digits q m) (λ c. combination (number_field b.order) b.cols c b.rows) (point_numbers q m))
    ∙ ap (map (λ c. combination (number_field b.order) b.cols c b.rows))
    (sym (coordinates_are_digits q m) ∙ ap (λ k. point_coordinates k m) (sym (number_field-order b.order)))
  where
    q : ℕ
    q = order_number b.order

    m : ℕ
    m = length b.rows

module _ (b : MatrixValue) (number leading end : ℕ) (place : IsPlaceOfPoint b number leading end) where
  -- past the points nothing is left
  pub left_at_end : points_from b end ≡ []
  unfolding points_from
  left_at_end =
      ap (λ k. map (point_with_number b) (numbers_from (order_number b.order) (length b.rows) k)) place.end_is
      ∙ ap (map (point_with_number b)) (numbers_none (order_number b.order) (length b.rows))

  module _ (below : number < end) where
    -- the next point, and what is left after it
    pub left_more : points_from b number ≡ point_with_number b number ∷ points_from b (number + 1)
    unfolding points_from
    left_more = ap (map (point_with_number b)) (numbers_at (order_number b.order) (length b.rows) number (omega (arith, place.end_is)) leads)
      where
        leads : leads_with_one (digits (order_number b.order) (length b.rows) number) ≡ true
        leads =
            let (p, inside, power, from, to) = place.leads below in
            leads_in_block (order_number b.order) (length b.rows) p number (order_number-at_least b.order) inside (omega arith) (omega arith)

    -- the next place in front
    pub leading_times : leading * order_number b.order ≤ end
    leading_times =
        let (p, inside, power, from, to) = place.leads below in
        let most : order_number b.order ^ suc p ≤ order_number b.order ^ length b.rows =
        pow-le-pow_right {n = order_number b.order} (omega (arith, order_number-at_least b.order)) inside in
        let same : leading * order_number b.order ≡ order_number b.order ^ suc p =
        ap (λ k. k * order_number b.order) power ∙ sym (pow-suc (order_number b.order) p) in
        omega (arith, place.end_is)

    pub leading-below : leading < 2 ^ 32
    leading-below =
        let (p, inside, power, from, to) = place.leads below in
        let small = place.small in omega arith

    pub left_skipped : number + 1 ≡ 2 * leading → points_from b (number + 1) ≡ points_from b (leading * order_number b.order)
    unfolding points_from
    left_skipped twice =
        let (p, inside, power, from, to) = place.leads below in
        let same : leading * order_number b.order ≡ order_number b.order ^ suc p =
        ap (λ k. k * order_number b.order) power ∙ sym (pow-suc (order_number b.order) p) in
        let more : leading * 2 ≤ leading * order_number b.order = mul-le-mul_left leading (order_number-at_least b.order) in
        ap (map (point_with_number b)) (numbers_skip (order_number b.order) (length b.rows) (number + 1) (leading * order_number b.order)
        (omega arith) (omega (arith, leading_times, place.end_is))
        (λ z after before. leads_not_past_block (order_number b.order) (length b.rows) p z (order_number-at_least b.order) inside (omega arith) (omega arith)))

    pub place_next : number + 1 ≢ 2 * leading → IsPlaceOfPoint b (number + 1) leading end
    place_next other = record {
      end_is = place.end_is;
      small = place.small;
      number_within = omega arith;
      leads = λ inside. let (p, p_inside, power, from, to) = place.leads below in (p, p_inside, power, omega arith, omega (arith, other));
    }

    pub place_skipped : IsPlaceOfPoint b (leading * order_number b.order) (leading * order_number b.order) end
    place_skipped = record {
      end_is = place.end_is;
      small = place.small;
      number_within = leading_times;
      leads = λ inside. leads inside (place.leads below);
    }
      where
        leads : leading * order_number b.order < end →
            (p : ℕ) × (p < length b.rows) × (leading ≡ order_number b.order ^ p) × (leading ≤ number) × (number < 2 * leading) →
            (p : ℕ) × (p < length b.rows) × (leading * order_number b.order ≡ order_number b.order ^ p)
            × (leading * order_number b.order ≤ leading * order_number b.order) × (leading * order_number b.order < 2 * (leading * order_number b.order))
        leads inside (p, p_inside, power, from, to) = (suc p, further (ℕ_discrete (suc p) (length b.rows)), same, omega arith, omega (arith, positive, same))
          where
            same : leading * order_number b.order ≡ order_number b.order ^ suc p
            same = ap (λ k. k * order_number b.order) power ∙ sym (pow-suc (order_number b.order) p)

            positive : 0 < order_number b.order ^ suc p
            positive = pow-positive (order_number b.order) (suc p) (omega (arith, order_number-at_least b.order))

            further : Dec (suc p ≡ length b.rows) → suc p < length b.rows
            further (no other) = omega arith
            further (yes e) = absurd (omega (arith, same, ap (λ k. order_number b.order ^ k) e, place.end_is))

-- whether a point is left, by the place
module _ (b : MatrixValue) (number leading end : ℕ) (place : IsPlaceOfPoint b number leading end) where
  pub none_is_left : end ≤ number → length (points_from b number) ≡ 0
  none_is_left past =
      ap (λ k. length (points_from b k)) (let within = place.number_within in let e : number ≡ end = omega arith in e)
      ∙ ap length (left_at_end b number leading end place)

  pub below_end : 0 < length (points_from b number) → number < end
  below_end some = cases (dec_lt number end)
    where
      cases : Dec (number < end) → number < end
      cases (yes below) = below
      cases (no past) = absurd (omega (arith, some, none_is_left (omega arith)))

  pub past_end : length (points_from b number) ≡ 0 → end ≤ number
  past_end none = cases (dec_lt number end)
    where
      cases : Dec (number < end) → end ≤ number
      cases (yes below) = absurd (omega (arith, none, ap length (left_more b number leading end place below)))
      cases (no past) = omega arith

-- the same, of the value that an iterator at a place is seen as
module _ (b : MatrixValue) (number leading end : ℕ) (place : IsPlaceOfPoint b number leading end) (seen : PointsLeft)
    (view_is : record { order = b.order; left = points_from b number } ≡ seen) (some : 0 < length seen.left) where
  pub value_below : number < end
  value_below = below_end b number leading end place (subst (λ (v : PointsLeft). 0 < length v.left) (sym view_is) some)

  pub value_first : point_with_number b number ≡ get_or seen.left 0 []
  value_first =
      ap (λ (xs : List (List ℕ)). get_or xs 0 []) (sym (left_more b number leading end place value_below))
      ∙ ap (λ (v : PointsLeft). get_or v.left 0 []) view_is

  pub value_rest : points_from b (number + 1) ≡ drop 1 seen.left
  value_rest =
      ap (λ (xs : List (List ℕ)). drop 1 xs) (sym (left_more b number leading end place value_below))
      ∙ ap (λ (v : PointsLeft). drop 1 v.left) view_is

-- few points make a small power
pub power_small : (b : MatrixValue) → point_count (order_number b.order) (length b.rows) ≤ 4095 → order_number b.order ^ length b.rows < 2 ^ 32
power_small b few =
    let counted = count_times (order_number b.order) (length b.rows) (order_number-at_least b.order) in
    let most : point_count (order_number b.order) (length b.rows) * (order_number b.order - 1) ≤ point_count (order_number b.order) (length b.rows) * 8 =
    mul-le-mul_left (point_count (order_number b.order) (length b.rows)) (omega (arith, order_number-at_most b.order)) in
    omega arith

-- the place at the start
pub place_at_start : (b : MatrixValue) (end : ℕ) → point_count (order_number b.order) (length b.rows) ≤ 4095 →
    end ≡ order_number b.order ^ length b.rows → IsPlaceOfPoint b 1 1 end
place_at_start b end few end_is = record {
  end_is = end_is;
  small = omega (arith, power_small b few);
  number_within = omega (arith, pow-positive (order_number b.order) (length b.rows) (omega (arith, order_number-at_least b.order)));
  leads = λ below. (0, some_row below (ℕ_discrete (length b.rows) 0), sym (pow-zero (order_number b.order)), omega arith, omega arith);
}
  where
    some_row : 1 < end → Dec (length b.rows ≡ 0) → 0 < length b.rows
    some_row below (no other) = omega arith
    some_row below (yes e) = absurd (omega (arith, end_is, ap (λ k. order_number b.order ^ k) e, pow-zero (order_number b.order)))

pub same_left : (s t : PointsLeft) → s.order ≡ t.order → s.left ≡ t.left → s ≡ t
same_left s t e f = λ i. record { order = e i; left = f i }

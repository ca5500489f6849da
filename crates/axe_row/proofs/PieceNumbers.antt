-- The number of a piece of a row, digit by digit.
use Rattle.std.proofs.Common.{◌≡◌, ℕ, ◌+◌, ◌-◌, ◌*◌, ◌^◌, ◌<◌, ◌≤◌, List, [], ◌∷◌, ◌++◌, length, get_or, map, take, drop, refl, sym, ap, ap₂, subst, ◌∙◌, arith, add-one, lit<}
use Rattle.std.proofs.lemmas.List.{ext_get_or, get_or-map, get_or-drop, length-drop, length-map, map_push, take_more}
use Rattle.std.proofs.lemmas.Nat.{mul-add-lt}
use native.Mathlib.Nat.{mul_comm, pow-zero, pow-suc, pow-le-pow_left, pow-le-pow_right}
use Rattle.axe_algebra.specs.Digits.{number_with_digits}
use Rattle.axe_layer.specs.Digits.{number_bound}
use Rattle.axe_algebra.specs.NumberField.{NumberField}
use Rattle.axe_field.specs.Arithmetic.{field_mul}
use Rattle.axe_field.specs.NumberFields.{number_field}
use Rattle.axe_field.specs.Order.{Order, order_number}
use Rattle.axe_field.proofs.Orders.{order_number-at_most}
use Rattle.axe_layer.proofs.PieceDigits.{number_with_digits-push}
use Rattle.axe_row.specs.Combinations.{piece_number}
use Rattle.axe_row.specs.Operations.{multiple}
use Rattle.axe_row.specs.Rows.{RowValue}
use Rattle.axe_row.proofs.OperationLaws.{length-multiple, get_or-multiple}

-- a multiple, entry by entry
pub multiple-map : (K : NumberField) (c : ℕ) (a : List ℕ) → multiple K c a ≡ map (K.mul c) a
multiple-map K c a =
    ext_get_or 0 (multiple K c a) (map (K.mul c) a) (length-multiple K c a ∙ sym (length-map a (K.mul c))) (λ j below.
    let inside : j < length a = omega (arith, length-multiple K c a) in
    get_or-multiple K c a j inside ∙ sym (get_or-map (K.mul c) a j 0 0 inside))

-- a piece of no entries
pub piece_number-none : (row : RowValue) (c at : ℕ) → piece_number row c 0 at ≡ 0
unfolding number_with_digits multiple
piece_number-none row c at = refl

-- a piece with one entry more
pub piece_number-more : (row : RowValue) (c at n : ℕ) → at + n < length row.entries →
    piece_number row c (n + 1) at ≡ piece_number row c n at * order_number row.order + field_mul row.order c (get_or row.entries (at + n) 0)
unfolding number_field
piece_number-more row c at n inside =
    let within : n < length (drop at row.entries) = omega (arith, length-drop at row.entries) in
    ap (number_with_digits (order_number row.order))
    (multiple-map (number_field row.order) c (take (n + 1) (drop at row.entries))
    ∙ ap (map (field_mul row.order c)) (take_more (drop at row.entries) n 0 within)
    ∙ map_push (field_mul row.order c) (take n (drop at row.entries)) (get_or (drop at row.entries) n 0)
    ∙ ap₂ (λ (ds : List ℕ) (d : ℕ). ds ++ d ∷ []) (sym (multiple-map (number_field row.order) c (take n (drop at row.entries))))
    (ap (field_mul row.order c) (get_or-drop at row.entries n 0)))
    ∙ number_with_digits-push (order_number row.order) (multiple (number_field row.order) c (take n (drop at row.entries)))
    (field_mul row.order c (get_or row.entries (at + n) 0))

-- the number of the entries of a piece that stand below an index
pub record IsNumberBelow (row : RowValue) (c at index number : ℕ) : Type 0 where
  pub number_is : number ≡ piece_number row c (index - at) at
  pub below : number < order_number row.order ^ (index - at)

pub IsNumberBelow-none : (row : RowValue) (c at : ℕ) → IsNumberBelow row c at at 0
IsNumberBelow-none row c at =
    let none : at - at ≡ 0 = omega arith in
    record {
      number_is = sym (ap (λ n. piece_number row c n at) none ∙ piece_number-none row c at);
      below = subst (λ n. 0 < order_number row.order ^ n) (sym none) (subst (λ n. 0 < n) (sym (pow-zero (order_number row.order))) (lit< tt));
    }

pub IsNumberBelow-more : (row : RowValue) (c at index number q digit : ℕ) → IsNumberBelow row c at index number → at ≤ index →
    index < length row.entries → q ≡ order_number row.order → digit ≡ field_mul row.order c (get_or row.entries index 0) →
    digit < order_number row.order → IsNumberBelow row c at (index + 1) (number * q + digit)
IsNumberBelow-more row c at index number q digit h after inside base is small =
    let more : index + 1 - at ≡ index - at + 1 = omega arith in
    let here : at + (index - at) ≡ index = omega arith in
    let within : at + (index - at) < length row.entries = omega arith in
    record {
      number_is =
          ap (λ n. number * n + digit) base ∙ ap₂ (λ (a b : ℕ). a * order_number row.order + b) h.number_is is
          ∙ ap (λ n. piece_number row c (index - at) at * order_number row.order + field_mul row.order c (get_or row.entries n 0)) (sym here)
          ∙ sym (piece_number-more row c at (index - at) within) ∙ ap (λ n. piece_number row c n at) (sym more);
      below =
          subst (λ n. number * q + digit < n)
          (sym (ap (λ n. order_number row.order ^ n) (more ∙ add-one (index - at)) ∙ pow-suc (order_number row.order) (index - at)
          ∙ mul_comm (order_number row.order ^ (index - at)) (order_number row.order)))
          (subst (λ n. number * n + digit < order_number row.order * order_number row.order ^ (index - at)) (sym base)
          (mul-add-lt number (order_number row.order) digit (order_number row.order ^ (index - at)) h.below small));
    }

-- a number of up to eight digits is small
power-below : (o : Order) (n : ℕ) → n ≤ 8 → order_number o ^ n ≤ number_bound
power-below o n most =
    let base : order_number o ^ n ≤ 9 ^ n = pow-le-pow_left (order_number-at_most o) n in
    let exponent : 9 ^ n ≤ 9 ^ 8 = pow-le-pow_right {n = 9} (lit< tt) most in
    omega arith

pub IsNumberBelow-small : (row : RowValue) (c at index number : ℕ) → IsNumberBelow row c at index number → index ≤ at + 8 → number < number_bound
IsNumberBelow-small row c at index number h most =
    let below = h.below in
    let few : index - at ≤ 8 = omega arith in
    omega (arith, power-below row.order (index - at) few)

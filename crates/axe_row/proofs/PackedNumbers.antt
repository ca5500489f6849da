-- The numbers of four pieces of a row in the lanes of a word.
use Rattle.std.proofs.Common.{◌≡◌, ◌≢◌, ℕ, ◌+◌, ◌*◌, ◌^◌, ◌<◌, ◌≤◌, length, drop, cond, ltb, refl, sym, ap, ap₂, ◌∙◌, arith, lit<}
use Rattle.std.specs.Simd.Lanes.{chunk}
use Rattle.std.proofs.lemmas.List.{length-take}
use Rattle.std.proofs.lemmas.List.Elements.{All-drop, All-take}
use native.Mathlib.Nat.{pow-le-pow_left, pow-le-pow_right}
use Rattle.axe_algebra.proofs.Digits.{number_with_digits-below}
use Rattle.axe_field.specs.Order.{Order, Two, Three, Four, Five, Seven, Eight, Nine, order_number, prime_of, degree_of, IsElement}
use Rattle.axe_field.proofs.Orders.{order_number-at_most}
use Rattle.axe_layer.specs.Digits.{number_from, numbers_from}
use Rattle.axe_layer.specs.Lanes.{in_lanes}
use Rattle.axe_layer.proofs.LaneSums.{lanes_sum}
use Rattle.axe_layer.proofs.PieceDigits.{same_four}
use Rattle.axe_plane.specs.Planes.{prime_of_plane, digits_of}
use Rattle.axe_plane.specs.declared.Plane.{Plane}
use Rattle.axe_row.specs.Combinations.{piece_number, piece_numbers}
use Rattle.axe_row.specs.MadePlanes.{row_of_planes}
use Rattle.axe_row.specs.Planes.{ArePlanes}
use Rattle.axe_row.specs.Rows.{RowValue, IsRow}
use Rattle.axe_row.proofs.KeptPlanes.{linear_is_there}
use Rattle.axe_row.proofs.PlaneNumbers.{number_of_planes, number_of_two_planes, once_each}
use Rattle.axe_row.proofs.RowPlanes.{IsRow-of_planes}

-- ---- the numbers are small

pub piece_small : (row : RowValue) (size at : ℕ) → IsRow row → size ≤ 2 → piece_number row 1 size at < 2 ^ 16
piece_small row size at h few =
    let piece = chunk at size row.entries in
    let q = order_number row.order in
    let short : length piece ≤ 2 = omega (arith, length-take size (drop at row.entries)) in
    let below = number_with_digits-below q piece
    (All-take (IsElement row.order) size (drop at row.entries) (All-drop (IsElement row.order) at row.entries h.elements)) in
    let base : q ^ length piece ≤ 9 ^ length piece = pow-le-pow_left (order_number-at_most row.order) (length piece) in
    let exponent : 9 ^ length piece ≤ 9 ^ 2 = pow-le-pow_right {n = 9} (lit< tt) short in
    omega (arith, once_each row size at h, below, base, exponent)

-- the prime of a field that is not prime
pub small_prime : (o : Order) → degree_of o ≢ 1 → prime_of o ≤ 3
small_prime Two degree = absurd (degree refl)
small_prime Three degree = absurd (degree refl)
small_prime Four degree = omega arith
small_prime Five degree = absurd (degree refl)
small_prime Seven degree = absurd (degree refl)
small_prime Eight degree = omega arith
small_prime Nine degree = omega arith

-- the coefficients of x^2 are there where the degree is neither 1 nor 2
quadratic_is_there : (o : Order) (n : ℕ) → degree_of o ≢ 1 → degree_of o ≢ 2 → cond (ltb 2 (degree_of o)) n 0 ≡ n
quadratic_is_there Two n one two = absurd (one refl)
quadratic_is_there Three n one two = absurd (one refl)
quadratic_is_there Four n one two = absurd (two refl)
quadratic_is_there Five n one two = absurd (one refl)
quadratic_is_there Seven n one two = absurd (one refl)
quadratic_is_there Eight n one two = refl
quadratic_is_there Nine n one two = absurd (two refl)

-- ---- what the planes give

module _ (o : Order) (c l k : Plane) (h : ArePlanes o (length (digits_of c)) c l k) (not_prime : degree_of o ≢ 1) where
  pub constant_prime : prime_of_plane c ≤ 3
  constant_prime = omega (arith, h.constant.prime, small_prime o not_prime)

  pub linear_prime : prime_of_plane l ≤ 3
  linear_prime = omega (arith, h.linear.prime, small_prime o not_prime)

  pub quadratic_prime : prime_of_plane k ≤ 3
  quadratic_prime = omega (arith, h.quadratic.prime, small_prime o not_prime)

  pub linear_long : length (digits_of l) ≡ length (digits_of c)
  linear_long = h.linear.long ∙ linear_is_there o (length (digits_of c)) not_prime

  pub quadratic_long : (d : ℕ) → d ≡ degree_of o → d ≢ 2 → length (digits_of k) ≡ length (digits_of c)
  quadratic_long d degree more =
      h.quadratic.long ∙ quadratic_is_there o (length (digits_of c)) not_prime (λ two. more (degree ∙ two))

  -- the row that they are seen as
  abbrev pub row : RowValue
  row = row_of_planes o c l k

  pub pieces_small : (size at : ℕ) → size ≤ 2 → piece_number row 1 size at < 2 ^ 16
  pieces_small size at few = piece_small row size at (IsRow-of_planes o _ c l k h) few

  pub packed_of_three : (q p size at constant linear quadratic : ℕ) → q ≡ order_number o → p ≡ prime_of o →
      constant ≡ in_lanes (numbers_from q size at (digits_of c)) →
      linear ≡ in_lanes (numbers_from q size at (digits_of l)) →
      quadratic ≡ in_lanes (numbers_from q size at (digits_of k)) →
      constant + p * (linear + p * quadratic) ≡ in_lanes (piece_numbers row 1 size at)
  packed_of_three q p size at constant linear quadratic base prime first second third =
      ap₂ (λ x y. x + p * y) first (ap₂ (λ x y. x + p * y) second third ∙ lanes_sum p _ _ _ _ _ _ _ _)
      ∙ lanes_sum p _ _ _ _ _ _ _ _
      ∙ ap in_lanes (same_four _ _ _ _ _ _ _ _ (number at) (number (at + size)) (number (at + 2 * size)) (number (at + 3 * size)))
    where
      number : (at : ℕ) → number_from q size at (digits_of c) + p * (number_from q size at (digits_of l) + p * number_from q size at (digits_of k))
          ≡ piece_number row 1 size at
      number at =
          ap (λ r. number_from q size at (digits_of c) + r * (number_from q size at (digits_of l) + r * number_from q size at (digits_of k))) prime
          ∙ number_of_planes o q size at c l k row h refl base

  pub packed_of_two : (q p d size at constant linear : ℕ) → q ≡ order_number o → p ≡ prime_of o → d ≡ degree_of o → d ≡ 2 →
      constant ≡ in_lanes (numbers_from q size at (digits_of c)) →
      linear ≡ in_lanes (numbers_from q size at (digits_of l)) →
      constant + p * linear ≡ in_lanes (piece_numbers row 1 size at)
  packed_of_two q p d size at constant linear base prime degree two first second =
      ap₂ (λ x y. x + p * y) first second
      ∙ lanes_sum p _ _ _ _ _ _ _ _
      ∙ ap in_lanes (same_four _ _ _ _ _ _ _ _ (number at) (number (at + size)) (number (at + 2 * size)) (number (at + 3 * size)))
    where
      number : (at : ℕ) → number_from q size at (digits_of c) + p * number_from q size at (digits_of l) ≡ piece_number row 1 size at
      number at =
          ap (λ r. number_from q size at (digits_of c) + r * number_from q size at (digits_of l)) prime
          ∙ number_of_two_planes o q size at c l k row h refl base (sym degree ∙ two)

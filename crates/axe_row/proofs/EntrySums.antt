-- The numbers of the entries of a row, as sums of multiples of the digits of its planes.
use Rattle.std.proofs.Common.{◌≡◌, ℕ, ◌+◌, ◌*◌, ◌<◌, ◌≤◌, List, length, get_or, ltb, sym, ap, subst, ◌∙◌, arith}
use Rattle.std.proofs.lemmas.List.{ext_get_or}
use Rattle.axe_field.specs.Order.{Order, Two, Three, Four, Five, Seven, Eight, Nine, prime_of, degree_of, IsElement}
use Rattle.axe_field.specs.Planes.{element_of}
use Rattle.axe_layer.specs.Digits.{AreSmallSums, numbers_with_multiple}
use Rattle.axe_plane.specs.Planes.{digits_of}
use Rattle.axe_plane.specs.declared.Plane.{Plane}
use Rattle.axe_layer.proofs.NumberSums.{length-numbers_with_multiple, get_or-numbers_with_multiple}
use Rattle.axe_row.specs.Planes.{ArePlanes}
use Rattle.axe_row.proofs.RowPlanes.{entries_of, length-entries, entries-at, element_at, element_value, no_longer}

few_elements : (o : Order) (a : ℕ) → IsElement o a → a < 10
few_elements Two a h = omega arith
few_elements Three a h = omega arith
few_elements Four a h = omega arith
few_elements Five a h = omega arith
few_elements Seven a h = omega arith
few_elements Eight a h = omega arith
few_elements Nine a h = omega arith

-- the element at an index as a sum
sum_is : (o : Order) (c l q : ℕ) → element_of o c l q ≡ c + prime_of o * l + prime_of o * prime_of o * q
sum_is o c l q = element_value o c l q ∙ multiplied o
  where
    multiplied : (o : Order) → c + prime_of o * (l + prime_of o * q) ≡ c + prime_of o * l + prime_of o * prime_of o * q
    multiplied Two = omega arith
    multiplied Three = omega arith
    multiplied Four = omega arith
    multiplied Five = omega arith
    multiplied Seven = omega arith
    multiplied Eight = omega arith
    multiplied Nine = omega arith

sum_small : (o : Order) (n : ℕ) (c l q : Plane) (e : ℕ) → ArePlanes o n c l q →
    get_or (digits_of c) e 0 + prime_of o * get_or (digits_of l) e 0 + prime_of o * prime_of o * get_or (digits_of q) e 0 < 10
sum_small o n c l q e h =
    subst (λ x. x < 10) (sum_is o (get_or (digits_of c) e 0) (get_or (digits_of l) e 0) (get_or (digits_of q) e 0))
    (few_elements o _ (element_at o n c l q e h).element)

-- the numbers that the digits of the planes are added to one after another
module _ (o : Order) (n p : ℕ) (c l q : Plane) (h : ArePlanes o n c l q) (is : p ≡ prime_of o) where
  abbrev pub with_linear : List ℕ
  with_linear = numbers_with_multiple (digits_of c) p (digits_of l)

  pub linear_fits : length (digits_of l) ≤ length (digits_of c)
  linear_fits = omega (arith, h.constant.long, h.linear.long, no_longer (ltb 1 (degree_of o)) n)

  small : (e : ℕ) → get_or (digits_of c) e 0 + p * get_or (digits_of l) e 0 + p * p * get_or (digits_of q) e 0 < 10
  small e =
      subst (λ r. get_or (digits_of c) e 0 + r * get_or (digits_of l) e 0 + r * r * get_or (digits_of q) e 0 < 10) (sym is)
      (sum_small o n c l q e h)

  pub linear_small : AreSmallSums (digits_of c) p (digits_of l)
  linear_small e inside = omega (arith, small e)

  pub quadratic_fits : length (digits_of q) ≤ length with_linear
  quadratic_fits =
      omega (arith, h.constant.long, h.quadratic.long, no_longer (ltb 2 (degree_of o)) n, length-numbers_with_multiple (digits_of c) p (digits_of l))

  pub quadratic_small : AreSmallSums with_linear (p * p) (digits_of q)
  quadratic_small e inside =
      let here : e < length (digits_of c) = omega (arith, quadratic_fits, length-numbers_with_multiple (digits_of c) p (digits_of l)) in
      let sum = get_or-numbers_with_multiple (digits_of c) p (digits_of l) e here in
      omega (arith, sum, small e)

  pub entries_are_sums : numbers_with_multiple with_linear (p * p) (digits_of q) ≡ entries_of o c l q
  entries_are_sums =
      let long = length-numbers_with_multiple with_linear (p * p) (digits_of q) ∙ length-numbers_with_multiple (digits_of c) p (digits_of l) in
      ext_get_or 0 (numbers_with_multiple with_linear (p * p) (digits_of q)) (entries_of o c l q)
      (long ∙ sym (length-entries o (digits_of c) (digits_of l) (digits_of q))) (λ e inside.
      let here : e < length (digits_of c) = omega (arith, long) in
      get_or-numbers_with_multiple with_linear (p * p) (digits_of q) e (omega (arith, length-numbers_with_multiple (digits_of c) p (digits_of l)))
      ∙ ap (λ x. x + p * p * get_or (digits_of q) e 0) (get_or-numbers_with_multiple (digits_of c) p (digits_of l) e here)
      ∙ ap (λ r. get_or (digits_of c) e 0 + r * get_or (digits_of l) e 0 + r * r * get_or (digits_of q) e 0) is
      ∙ sym (entries-at o (digits_of c) (digits_of l) (digits_of q) e 0 here
      ∙ sum_is o (get_or (digits_of c) e 0) (get_or (digits_of l) e 0) (get_or (digits_of q) e 0)))

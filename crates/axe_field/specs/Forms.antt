-- Products of elements by products over the prime field: linear forms, and how the products of their values add up.
use Rattle.std.specs.Prelude.{◌≡◌, ℕ, ◌+◌, ◌*◌, ◌%◌, ◌<◌, List, [], length, slice_index, slice_index_or}
use Rattle.axe_algebra.specs.ListArithmetic.{number_sum}
use Rattle.axe_field.specs.Arithmetic.{field_mul}
use Rattle.axe_field.specs.NumberFields.{number_field}
use Rattle.axe_field.specs.Order.{Order, Two, Three, Four, Five, Seven, Eight, Nine, prime_of, IsElement}
use Rattle.axe_field.specs.Planes.{coefficient, IsCoefficient}
use Rattle.axe_field.specs.declared.forms.ProductTerm.{ProductTerm}

-- the order of the prime field: that of the integers modulo the prime. Its elements have the same numbers in the field
abbrev pub prime_order : Order → Order
prime_order Two = Two
prime_order Three = Three
prime_order Four = Two
prime_order Five = Five
prime_order Seven = Seven
prime_order Eight = Two
prime_order Nine = Three

-- the coefficients of a linear form over the prime field: for each power of x a digit, and 0 from the degree on
abbrev pub IsForm : Order → List ℕ → Type 0
IsForm o form = (i : ℕ) → i < 3 → IsCoefficient o i (slice_index form i)

-- the value of a linear form at the element a: the sum of a's coefficients of 1, x and x^2, each times that of the form
-- (any linear algebra text)
abbrev pub form_value : Order → List ℕ → ℕ → ℕ
form_value o form a =
    (slice_index form 0 * coefficient o a 0 + slice_index form 1 * coefficient o a 1
    + slice_index form 2 * coefficient o a 2)
    % prime_of o

-- term k of a list
abbrev pub term_at : List ProductTerm → ℕ → ProductTerm
term_at terms k = slice_index_or terms k (record { form = []; weight = 0 })

-- what a term gives of the product of a and b: its weight times the product of the values of its form
abbrev pub term_of_product : Order → ProductTerm → ℕ → ℕ → ℕ
term_of_product o term a b =
    field_mul o term.weight
    (field_mul (prime_order o) (form_value o term.form a) (form_value o term.form b))

-- the product of any two elements is the sum of what these terms give of it (bilinear algorithms: Karatsuba 1962,
-- Winograd 1980)
pub record AreProductTerms (o : Order) (terms : List ProductTerm) : Type 0 where
  pub forms : (k : ℕ) → k < length terms → IsForm o (term_at terms k).form
  pub weights : (k : ℕ) → k < length terms → IsElement o (term_at terms k).weight
  pub products : (a b : ℕ) → IsElement o a → IsElement o b →
      field_mul o a b ≡ number_sum (number_field o) (λ k. term_of_product o (term_at terms k) a b) (length terms)

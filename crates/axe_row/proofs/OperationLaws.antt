-- The entries of sums, multiples and dot products of row vectors.
use Rattle.std.proofs.Common.{◌≡◌, ℕ, ◌+◌, ◌<◌, List, length, get_or, refl, ap, arith, add-one}
use Rattle.std.proofs.lemmas.List.FromFn.{length-map-range_with_len, get_or-map-range_with_len}
use Rattle.axe_algebra.specs.ListArithmetic.{number_sum}
use Rattle.axe_algebra.specs.NumberField.{NumberField}
use Rattle.axe_field.specs.Order.{Order}
use Rattle.axe_field.specs.Arithmetic.{field_add, field_mul}
use Rattle.axe_field.specs.NumberFields.{number_field}
use Rattle.axe_row.specs.Operations.{sum_with_multiple, multiple, dot_product}

-- a sum has the length of its first vector
pub length-sum_with_multiple : (K : NumberField) (a : List ℕ) (c : ℕ) (b : List ℕ) → length (sum_with_multiple K a c b) ≡ length a
unfolding sum_with_multiple
length-sum_with_multiple K a c b = length-map-range_with_len _ 0 (length a)

-- entry j of a sum
pub get_or-sum_with_multiple : (K : NumberField) (a : List ℕ) (c : ℕ) (b : List ℕ) (j : ℕ) → j < length a → get_or (sum_with_multiple K a c b) j 0 ≡ K.add (get_or a j 0) (K.mul c (get_or b j 0))
unfolding sum_with_multiple
get_or-sum_with_multiple K a c b j below = get_or-map-range_with_len _ 0 (length a) j j 0 below (omega arith)

-- a multiple has the length of its vector
pub length-multiple : (K : NumberField) (c : ℕ) (a : List ℕ) → length (multiple K c a) ≡ length a
unfolding multiple
length-multiple K c a = length-map-range_with_len _ 0 (length a)

-- entry j of a multiple
pub get_or-multiple : (K : NumberField) (c : ℕ) (a : List ℕ) (j : ℕ) → j < length a → get_or (multiple K c a) j 0 ≡ K.mul c (get_or a j 0)
unfolding multiple
get_or-multiple K c a j below = get_or-map-range_with_len _ 0 (length a) j j 0 below (omega arith)

-- the same entries by the operations of the seven fields
pub get_or-row_with_multiple : (o : Order) (a : List ℕ) (c : ℕ) (b : List ℕ) (j : ℕ) → j < length a → get_or (sum_with_multiple (number_field o) a c b) j 0 ≡ field_add o (get_or a j 0) (field_mul o c (get_or b j 0))
unfolding number_field
get_or-row_with_multiple o a c b j below = get_or-sum_with_multiple (number_field o) a c b j below

pub get_or-multiple_row : (o : Order) (c : ℕ) (a : List ℕ) (j : ℕ) → j < length a → get_or (multiple (number_field o) c a) j 0 ≡ field_mul o c (get_or a j 0)
unfolding number_field
get_or-multiple_row o c a j below = get_or-multiple (number_field o) c a j below

-- the sum of the first n products of a dot product
unfoldable pub sum_of_products : NumberField → List ℕ → List ℕ → ℕ → ℕ
sum_of_products K a b n = number_sum K (λ j. K.mul (get_or a j 0) (get_or b j 0)) n

pub sum_of_products-none : (K : NumberField) (a b : List ℕ) → sum_of_products K a b 0 ≡ 0
unfolding sum_of_products number_sum
sum_of_products-none K a b = refl

pub sum_of_products-more : (o : Order) (a b : List ℕ) (n : ℕ) → sum_of_products (number_field o) a b (n + 1) ≡ field_add o (sum_of_products (number_field o) a b n) (field_mul o (get_or a n 0) (get_or b n 0))
unfolding sum_of_products number_sum number_field
sum_of_products-more o a b n = rw (add-one n) refl

pub sum_of_products-all : (K : NumberField) (a b : List ℕ) (n : ℕ) → n ≡ length a → sum_of_products K a b n ≡ dot_product K a b
unfolding sum_of_products dot_product
sum_of_products-all K a b n all = ap (number_sum K (λ j. K.mul (get_or a j 0) (get_or b j 0))) all

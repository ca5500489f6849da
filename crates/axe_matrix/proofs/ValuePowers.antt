-- The values of the entries of a vector over a field that is not prime, as powers of x, and Horner's rule for them.
use Rattle.std.proofs.Common.{◌≡◌, ◌≢◌, ℕ, zero, suc, ◌+◌, ◌-◌, ◌<◌, ◌≤◌, Bool, true, false, List, length, get_or, map, cond, eqb, ltb, refl, sym, ap, ap₂, ◌∙◌, arith, lit<}
use Rattle.std.specs.List.{All}
use Rattle.std.proofs.lemmas.Bool.{eqb-true, ltb-true}
use Rattle.std.proofs.lemmas.List.{get_or-map, length-map, ext_get_or}
use Rattle.std.proofs.lemmas.List.Elements.{All-map}
use Rattle.axe_field.specs.Arithmetic.{coefficients, number_of, polynomial_sum, polynomial_multiple, polynomial_negative, polynomial_product, without_leading, polynomial_remainder, polynomial_of, field_add, field_mul, field_inv}
use Rattle.axe_field.specs.CheckedLaws.{passes_below, at_one, from_one, field_add-below, field_mul-below, field_inv-below}
use Rattle.axe_field.specs.Order.{Order, Two, Three, Four, Five, Seven, Eight, Nine, order_number, prime_of, degree_of, IsElement}
use Rattle.axe_field.proofs.Orders.{zero_is_element, one_is_element}
use Rattle.axe_field.specs.NumberFields.{number_field}
use Rattle.axe_field.proofs.Laws.{field_one-mul}
use Rattle.axe_row.specs.Operations.{power_of_x, multiple, multiple_row}
use Rattle.axe_row.specs.Rows.{RowValue}
use Rattle.axe_row.proofs.OperationLaws.{length-multiple, get_or-multiple_row}
use Rattle.axe_row.proofs.RowLaws.{same_row}
use Rattle.axe_matrix.specs.Matrices.{MatrixValue, IsMatrix}
use Rattle.axe_matrix.specs.Products.{row_with_terms, row_with_product}
use Rattle.axe_matrix.specs.ValueTerms.{places_of_value, vector_of_places}
use Rattle.axe_matrix.proofs.BlockLaws.{row_with_no_terms, row_with_zero_terms}
use Rattle.axe_matrix.proofs.BlockRows.{element-below, elements-below, entries-below}
use Rattle.axe_matrix.proofs.HornerTerms.{horner_row}

-- the value number t: 1 divided by x, t times
unfoldable pub value_at : Order → ℕ → ℕ
value_at o zero = 1
value_at o (suc t) = field_mul o (value_at o t) (field_inv o (prime_of o))

-- what the entry a gives when t values were looked at: where it is value number s, x^(t - s), and 0 where it is none
unfoldable pub weight : Order → ℕ → ℕ → ℕ
weight o zero a = 0
weight o (suc t) a = field_add o (field_mul o (prime_of o) (weight o t a)) (cond (eqb a (value_at o (suc t))) 1 0)

pub prime_is_element : (o : Order) → degree_of o ≢ 1 → IsElement o (prime_of o)
prime_is_element Two h = absurd (h refl)
prime_is_element Three h = absurd (h refl)
prime_is_element Four h = lit< tt
prime_is_element Five h = absurd (h refl)
prime_is_element Seven h = absurd (h refl)
prime_is_element Eight h = lit< tt
prime_is_element Nine h = lit< tt

pub prime_above_zero : (o : Order) → prime_of o ≢ 0
prime_above_zero Two = λ e. absurd (omega (arith, e))
prime_above_zero Three = λ e. absurd (omega (arith, e))
prime_above_zero Four = λ e. absurd (omega (arith, e))
prime_above_zero Five = λ e. absurd (omega (arith, e))
prime_above_zero Seven = λ e. absurd (omega (arith, e))
prime_above_zero Eight = λ e. absurd (omega (arith, e))
prime_above_zero Nine = λ e. absurd (omega (arith, e))

pub value_at-element : (o : Order) (t : ℕ) → degree_of o ≢ 1 → IsElement o (value_at o t)
unfolding value_at
value_at-element o zero h = one_is_element o
value_at-element o (suc t) h = field_mul-below o _ _ (value_at-element o t h) (field_inv-below o (prime_of o) (prime_is_element o h))

one_or_none : (o : Order) (b : Bool) → IsElement o (cond b 1 0)
one_or_none o true = one_is_element o
one_or_none o false = zero_is_element o

pub weight-element : (o : Order) (t a : ℕ) → degree_of o ≢ 1 → IsElement o (weight o t a)
unfolding weight
weight-element o zero a h = zero_is_element o
weight-element o (suc t) a h =
    field_add-below o _ _ (field_mul-below o (prime_of o) _ (prime_is_element o h) (weight-element o t a h)) (one_or_none o (eqb a (value_at o (suc t))))

pub power-element : (o : Order) (t : ℕ) → degree_of o ≢ 1 → IsElement o (power_of_x o t)
unfolding power_of_x
power-element o zero h = one_is_element o
power-element o (suc t) h = field_mul-below o (prime_of o) _ (prime_is_element o h) (power-element o t h)

-- ---- what is computed over 4, 8 and 9 elements

is_nonzero_value : Order → ℕ → Bool
is_nonzero_value o t = ltb 0 (value_at o t)

nonzero_values : (o : Order) → degree_of o ≢ 1 → at_one is_nonzero_value o ≡ true
unfolding at_one passes_below is_nonzero_value value_at coefficients number_of polynomial_sum polynomial_multiple polynomial_negative polynomial_product without_leading polynomial_remainder polynomial_of field_mul field_inv
nonzero_values Two h = absurd (h refl)
nonzero_values Three h = absurd (h refl)
nonzero_values Four h = refl
nonzero_values Five h = absurd (h refl)
nonzero_values Seven h = absurd (h refl)
nonzero_values Eight h = refl
nonzero_values Nine h = refl

pub value_at-nonzero : (o : Order) (t : ℕ) → degree_of o ≢ 1 → t < order_number o → value_at o t ≢ 0
unfolding is_nonzero_value
value_at-nonzero o t h below = λ none. absurd (omega (arith, none, ltb-true 0 (value_at o t) (from_one is_nonzero_value o (nonzero_values o h) t below)))

gives_itself : Order → ℕ → Bool
gives_itself o a = eqb (weight o (order_number o - 1) a) a

give_themselves : (o : Order) → degree_of o ≢ 1 → at_one gives_itself o ≡ true
unfolding at_one passes_below gives_itself weight value_at coefficients number_of polynomial_sum polynomial_multiple polynomial_negative polynomial_product without_leading polynomial_remainder polynomial_of field_add field_mul field_inv
give_themselves Two h = absurd (h refl)
give_themselves Three h = absurd (h refl)
give_themselves Four h = refl
give_themselves Five h = absurd (h refl)
give_themselves Seven h = absurd (h refl)
give_themselves Eight h = refl
give_themselves Nine h = refl

pub weight-all : (o : Order) (a : ℕ) → degree_of o ≢ 1 → IsElement o a → weight o (order_number o - 1) a ≡ a
unfolding gives_itself
weight-all o a h ha = eqb-true _ a (from_one gives_itself o (give_themselves o h) a ha)

pub power-all : (o : Order) → degree_of o ≢ 1 → power_of_x o (order_number o - 1) ≡ 1
unfolding power_of_x coefficients number_of polynomial_sum polynomial_multiple polynomial_negative polynomial_product without_leading polynomial_remainder polynomial_of field_mul
power-all Two h = absurd (h refl)
power-all Three h = absurd (h refl)
power-all Four h = refl
power-all Five h = absurd (h refl)
power-all Seven h = absurd (h refl)
power-all Eight h = refl
power-all Nine h = refl

-- ---- the vector of the entries' weights, and the row to which its product with a matrix is added

unfoldable pub weighted : Order → ℕ → List ℕ → List ℕ
weighted o t entries = map (weight o t) entries

-- the row when t values were looked at
pub record HasValues (b : MatrixValue) (r v : List ℕ) (t : ℕ) (row : RowValue) : Type 0 where
  pub field : row.order ≡ b.order
  pub entries : row.entries ≡ row_with_terms (number_field b.order) b.cols (multiple (number_field b.order) (power_of_x b.order t) r) 1
      (weighted b.order t v) b.rows 0 (length b.rows)

-- what is the same for all values
pub record AreHighOver (b : MatrixValue) (r v : List ℕ) : Type 0 where
  pub matrix : IsMatrix b
  pub not_prime : degree_of b.order ≢ 1
  pub row : All (IsElement b.order) r
  pub vector : All (IsElement b.order) v
  pub columns_fit : length r ≡ b.cols
  pub inner_fit : length v ≡ length b.rows

weighted-elements : (o : Order) (t : ℕ) (v : List ℕ) → degree_of o ≢ 1 → All (IsElement o) (weighted o t v)
unfolding weighted
weighted-elements o t v h = All-map (IsElement o) (weight o t) v (λ i d inside. weight-element o t (get_or v i d) h)

pub places-elements : (o : Order) (value : ℕ) (v : List ℕ) → All (IsElement o) (places_of_value value v)
unfolding places_of_value
places-elements o value v = All-map (IsElement o) (λ a. cond (eqb a value) 1 0) v (λ i d inside. one_or_none o (eqb (get_or v i d) value))

times_one : (o : Order) (r : List ℕ) → All (IsElement o) r → multiple (number_field o) 1 r ≡ r
times_one o r over =
    ext_get_or 0 (multiple (number_field o) 1 r) r (length-multiple (number_field o) 1 r) (λ j below.
    let inside : j < length r = omega (arith, length-multiple (number_field o) 1 r) in
    get_or-multiple_row o 1 r j inside ∙ field_one-mul o (get_or r j 0) (over j 0 inside))

-- no value was looked at
pub no_values : (b : MatrixValue) (r v : List ℕ) (row : RowValue) → AreHighOver b r v → row.order ≡ b.order → row.entries ≡ r → HasValues b r v 0 row
unfolding power_of_x weighted weight
no_values b r v row h field same =
    let K = number_field b.order in
    let zeros : (t : ℕ) → 0 ≤ t → t < length b.rows → get_or (weighted b.order 0 v) (0 + t) 0 ≡ 0 =
    λ t _ below. get_or-map (λ (a : ℕ). 0) v (0 + t) 0 0 (omega (arith, h.inner_fit)) in
    record {
      field = field;
      entries =
          same
          ∙ row_with_no_terms K b.cols r 1 (weighted b.order 0 v) b.rows 0 (element-below b.order 1 (one_is_element b.order)) (elements-below b.order r h.row) h.columns_fit
          ∙ row_with_zero_terms K b.cols r 1 (weighted b.order 0 v) b.rows 0 0 (length b.rows) (omega arith)
          (elements-below b.order _ (weighted-elements b.order 0 v h.not_prime)) (entries-below b.order b h.matrix refl) zeros
          ∙ ap (λ (y : List ℕ). row_with_terms K b.cols y 1 (weighted b.order 0 v) b.rows 0 (length b.rows)) (sym (times_one b.order r h.row));
    }

-- the weights when one more value was looked at
weighted-next : (o : Order) (t : ℕ) (v : List ℕ) (e : ℕ) → e < length v →
    get_or (weighted o (suc t) v) e 0 ≡ (number_field o).add ((number_field o).mul (prime_of o) (get_or (weighted o t v) e 0)) (get_or (places_of_value (value_at o (suc t)) v) e 0)
unfolding weighted weight places_of_value number_field
weighted-next o t v e inside =
    get_or-map (weight o (suc t)) v e 0 0 inside
    ∙ ap₂ (λ x y. field_add o (field_mul o (prime_of o) x) y) (sym (get_or-map (weight o t) v e 0 0 inside))
    (sym (get_or-map (λ a. cond (eqb a (value_at o (suc t))) 1 0) v e 0 0 inside))

power-next : (o : Order) (t : ℕ) → (number_field o).mul (prime_of o) (power_of_x o t) ≡ power_of_x o (suc t)
unfolding power_of_x number_field
power-next o t = refl

-- one more value was looked at
pub next_value : (b : MatrixValue) (r : List ℕ) (vector : RowValue) (t value : ℕ) (before scaled after : RowValue) → AreHighOver b r vector.entries →
    HasValues b r vector.entries t before → scaled ≡ multiple_row (prime_of b.order) before → value ≡ value_at b.order (suc t) →
    after ≡ row_with_product scaled 1 (vector_of_places value vector) b → HasValues b r vector.entries (suc t) after
next_value b r vector t value before scaled after h so_far scaled_is value_is after_is =
    let K = number_field b.order in
    let v = vector.entries in
    let x = prime_of b.order in
    let n = length b.rows in
    let rows = b.rows in
    let places = places_of_value (value_at b.order (suc t)) v in
    let field : scaled.order ≡ b.order = ap (λ (y : RowValue). y.order) scaled_is ∙ so_far.field in
    let terms = λ (o : Order) (y : List ℕ) (w : List ℕ). row_with_terms (number_field o) b.cols y 1 w rows 0 n in
    record {
      field = ap (λ (y : RowValue). y.order) after_is ∙ field;
      entries =
          ap (λ (y : RowValue). y.entries) after_is
          ∙ ap (λ (o : Order). terms o scaled.entries (places_of_value value v)) field
          ∙ ap (λ (k : ℕ). terms b.order scaled.entries (places_of_value k v)) value_is
          ∙ ap (λ (y : RowValue). terms b.order y.entries places) scaled_is
          ∙ ap (λ (o : Order). terms b.order (multiple (number_field o) x before.entries) places) so_far.field
          ∙ ap (λ (y : List ℕ). terms b.order (multiple K x y) places) so_far.entries
          ∙ horner_row K b.cols x (power_of_x b.order t) r (weighted b.order t v) places (weighted b.order (suc t) v) rows n
          (element-below b.order x (prime_is_element b.order h.not_prime))
          (element-below b.order _ (power-element b.order t h.not_prime)) (elements-below b.order r h.row)
          (elements-below b.order _ (weighted-elements b.order t v h.not_prime)) (elements-below b.order _ (places-elements b.order (value_at b.order (suc t)) v))
          (entries-below b.order b h.matrix refl) h.columns_fit (λ e below. weighted-next b.order t v e (omega (arith, h.inner_fit)))
          ∙ ap (λ p. terms b.order (multiple K p r) (weighted b.order (suc t) v)) (power-next b.order t);
    }

weighted-all : (o : Order) (v : List ℕ) → degree_of o ≢ 1 → All (IsElement o) v → weighted o (order_number o - 1) v ≡ v
unfolding weighted
weighted-all o v h over =
    let k = order_number o - 1 in
    ext_get_or 0 (map (weight o k) v) v (length-map v (weight o k)) (λ e below.
    let inside : e < length v = omega (arith, length-map v (weight o k)) in
    get_or-map (weight o k) v e 0 0 inside ∙ weight-all o (get_or v e 0) h (over e 0 inside))

-- all values were looked at
pub all_values : (b : MatrixValue) (first vector : RowValue) (t : ℕ) (row : RowValue) → first.order ≡ b.order → AreHighOver b first.entries vector.entries →
    HasValues b first.entries vector.entries t row → t ≡ order_number b.order - 1 → row ≡ row_with_product first 1 vector b
all_values b first vector t row field h all last =
    let r = first.entries in
    let v = vector.entries in
    let terms = λ (o : Order) (y : List ℕ) (w : List ℕ). row_with_terms (number_field o) b.cols y 1 w b.rows 0 (length b.rows) in
    same_row row (row_with_product first 1 vector b) (all.field ∙ sym field)
    (all.entries
    ∙ ap (λ k. terms b.order (multiple (number_field b.order) (power_of_x b.order k) r) (weighted b.order k v)) last
    ∙ ap₂ (λ p w. terms b.order (multiple (number_field b.order) p r) w) (power-all b.order h.not_prime) (weighted-all b.order v h.not_prime h.vector)
    ∙ ap (λ (y : List ℕ). terms b.order y v) (times_one b.order r h.row)
    ∙ ap (λ (o : Order). terms o r v) (sym field))

pub length-places : (value : ℕ) (v : List ℕ) → length (places_of_value value v) ≡ length v
unfolding places_of_value
length-places value v = length-map v (λ a. cond (eqb a value) 1 0)

pub first_value : (o : Order) → 1 ≡ value_at o 0
unfolding value_at
first_value o = refl

-- the next value is the one before, divided by x
pub value_at-next : (o p : Order) (t value inverse next x : ℕ) → p ≡ o → x ≡ prime_of p → value ≡ value_at o t → inverse ≡ field_inv p x →
    next ≡ field_mul p value inverse → next ≡ value_at o (suc t)
unfolding value_at
value_at-next o p t value inverse next x field x_is value_is inverse_is next_is =
    next_is
    ∙ ap₂ (field_mul p) value_is (inverse_is ∙ ap (field_inv p) x_is)
    ∙ ap (λ (q : Order). field_mul q (value_at o t) (field_inv q (prime_of q))) field

-- Sums of products of elements, as weighted sums of sums of products over the prime field.
use Rattle.std.proofs.Common.{◌≡◌, ℕ, zero, suc, ◌<◌, List, length, refl, sym, ap, ap₂, ◌∙◌, arith}
use Rattle.std.proofs.lemmas.Nat.{mod_below}
use Rattle.axe_algebra.specs.Bridge.{field_of, element}
use Rattle.axe_algebra.specs.Field.{Field}
use Rattle.axe_algebra.specs.Lists.{entry}
use Rattle.axe_algebra.specs.ListArithmetic.{number_sum, product_entry}
use Rattle.axe_algebra.specs.NumberField.{NumberField}
use Rattle.axe_algebra.proofs.ElementNumbers.{element_mul, element_number_sum, same_number}
use Rattle.axe_algebra.proofs.ElementNumbers.{number_sum-below, number_sum_same}
use Rattle.axe_algebra.proofs.Sums.{mul-sum, sum_same, sum_swap}
use Rattle.axe_field.specs.Order.{Order, order_number, prime_of, IsElement}
use Rattle.axe_field.specs.CheckedLaws.{order_number-above}
use Rattle.axe_field.specs.Forms.{prime_order, form_value, term_at, AreProductTerms}
use Rattle.axe_field.specs.NumberFields.{number_field}
use Rattle.axe_field.specs.declared.forms.ProductTerm.{ProductTerm}
use Rattle.axe_field.proofs.FormLaws.{prime_element, prime_order-number, prime_sum}

-- ---- the terms of a sum of products

-- the product in the prime field of the values that the form of term k takes at a and b
abbrev value_product : Order → List ProductTerm → ℕ → ℕ → ℕ → ℕ
value_product o terms k a b =
    (number_field (prime_order o)).mul (form_value o (term_at terms k).form a) (form_value o (term_at terms k).form b)

-- ---- sums over a field of numbers

module _ (K : NumberField) where
  abbrev F : Field
  F = field_of K

  -- a multiple of a sum of elements is the sum of their multiples
  times_sum : (c : ℕ) (f : ℕ → ℕ) (n : ℕ) → c < K.order → ((t : ℕ) → t < n → f t < K.order) →
      K.mul c (number_sum K f n) ≡ number_sum K (λ t. K.mul c (f t)) n
  times_sum c f n c_small small =
      let total : number_sum K f n < K.order = number_sum-below K n f small in
      let multiples : (t : ℕ) → t < n → K.mul c (f t) < K.order =
      λ t inside. K.mul-below c (f t) c_small (small t inside) in
      same_number K _ _ (K.mul-below c _ c_small total) (number_sum-below K n (λ t. K.mul c (f t)) multiples)
      (element_mul K c _ c_small total
      ∙ ap (F.mul (element K c)) (element_number_sum K n f small)
      ∙ mul-sum F (element K c) n (λ t. element K (f t))
      ∙ sum_same F n _ _ (λ t inside. sym (element_mul K c (f t) c_small (small t inside)))
      ∙ sym (element_number_sum K n (λ t. K.mul c (f t)) multiples))

  -- the sum of the sums of the rows is that of the sums of the columns
  sums_swapped : (f : ℕ → ℕ → ℕ) (m n : ℕ) → ((s t : ℕ) → s < m → t < n → f s t < K.order) →
      number_sum K (λ s. number_sum K (λ t. f s t) n) m ≡ number_sum K (λ t. number_sum K (λ s. f s t) m) n
  sums_swapped f m n small =
      let rows : (s : ℕ) → s < m → number_sum K (λ t. f s t) n < K.order =
      λ s above. number_sum-below K n (λ t. f s t) (λ t inside. small s t above inside) in
      let columns : (t : ℕ) → t < n → number_sum K (λ s. f s t) m < K.order =
      λ t inside. number_sum-below K m (λ s. f s t) (λ s above. small s t above inside) in
      same_number K _ _ (number_sum-below K m (λ s. number_sum K (λ t. f s t) n) rows)
      (number_sum-below K n (λ t. number_sum K (λ s. f s t) m) columns)
      (element_number_sum K m (λ s. number_sum K (λ t. f s t) n) rows
      ∙ sum_same F m _ _ (λ s above. element_number_sum K n (λ t. f s t) (λ t inside. small s t above inside))
      ∙ sum_swap F m n (λ s t. element K (f s t))
      ∙ sum_same F n _ _ (λ t inside. sym (element_number_sum K m (λ s. f s t) (λ s above. small s t above inside)))
      ∙ sym (element_number_sum K n (λ t. number_sum K (λ s. f s t) m) columns))

-- ---- values, and sums of elements of the prime field

-- the value of a form is an element of the prime field
pub form_value-below : (o : Order) (form : List ℕ) (a : ℕ) → IsElement (prime_order o) (form_value o form a)
form_value-below o form a =
    let above : 1 < order_number (prime_order o) = order_number-above (prime_order o) in
    rw (prime_order-number o) (mod_below _ (prime_of o) (omega (arith, prime_order-number o)))

-- a sum of elements of the prime field is the same number in the field and in the prime field
pub prime_sums : (o : Order) (f : ℕ → ℕ) (n : ℕ) → ((t : ℕ) → t < n → IsElement (prime_order o) (f t)) →
    number_sum (number_field o) f n ≡ number_sum (number_field (prime_order o)) f n
unfolding number_sum number_field
prime_sums o f zero small = refl
prime_sums o f (suc n) small =
    let before : (t : ℕ) → t < n → IsElement (prime_order o) (f t) = λ t inside. small t (omega arith) in
    ap (λ x. (number_field o).add x (f n)) (prime_sums o f n before)
    ∙ prime_sum o (number_sum (number_field (prime_order o)) f n) (f n)
    (number_sum-below (number_field (prime_order o)) n f before) (small n (omega arith))

-- the product of two values is an element of the prime field
value_product-below : (o : Order) (terms : List ProductTerm) (k a b : ℕ) →
    IsElement (prime_order o) (value_product o terms k a b)
unfolding number_field
value_product-below o terms k a b =
    (number_field (prime_order o)).mul-below _ _ (form_value-below o (term_at terms k).form a)
    (form_value-below o (term_at terms k).form b)

-- ---- the sum of products by terms

-- the sum of products of elements is the sum over the terms of their weights times the sums of products of values
pub sum_by_terms : (o : Order) (terms : List ProductTerm) → AreProductTerms o terms → (x y : ℕ → ℕ) (n : ℕ) →
    ((t : ℕ) → t < n → IsElement o (x t)) → ((t : ℕ) → t < n → IsElement o (y t)) →
    number_sum (number_field o) (λ t. (number_field o).mul (x t) (y t)) n
    ≡ number_sum (number_field o) (λ k. (number_field o).mul (term_at terms k).weight
    (number_sum (number_field (prime_order o)) (λ t. (number_field (prime_order o)).mul
    (form_value o (term_at terms k).form (x t)) (form_value o (term_at terms k).form (y t))) n)) (length terms)
unfolding number_field
sum_by_terms o terms are x y n hx hy =
    let K : NumberField = number_field o in
    let inner : ℕ → ℕ → ℕ = λ k t. value_product o terms k (x t) (y t) in
    let prime : (k t : ℕ) → IsElement (prime_order o) (inner k t) = λ k t. value_product-below o terms k (x t) (y t) in
    let small : (k t : ℕ) → IsElement o (inner k t) = λ k t. prime_element o (inner k t) (prime k t) in
    number_sum_same K n _ (λ t. number_sum K (λ k. K.mul (term_at terms k).weight (inner k t)) (length terms))
    (λ t inside. are.products (x t) (y t) (hx t inside) (hy t inside))
    ∙ sums_swapped K (λ t k. K.mul (term_at terms k).weight (inner k t)) n (length terms)
    (λ t k inside among. K.mul-below _ _ (are.weights k among) (small k t))
    ∙ number_sum_same K (length terms) _ _ (λ k among.
    sym (times_sum K (term_at terms k).weight (inner k) n (are.weights k among) (λ t inside. small k t))
    ∙ ap (K.mul (term_at terms k).weight) (prime_sums o (inner k) n (λ t inside. prime k t)))

-- an entry of the product of a and b is the sum over the terms of their weights times the entry of the product of the
-- matrices of the values of a and b
pub product_entry_by_terms : (o : Order) (terms : List ProductTerm) → AreProductTerms o terms →
    (a b : List (List ℕ)) (va vb : ℕ → List (List ℕ)) (n i j : ℕ) →
    ((t : ℕ) → t < n → IsElement o (entry a i t)) → ((t : ℕ) → t < n → IsElement o (entry b t j)) →
    ((k t : ℕ) → t < n → entry (va k) i t ≡ form_value o (term_at terms k).form (entry a i t)) →
    ((k t : ℕ) → t < n → entry (vb k) t j ≡ form_value o (term_at terms k).form (entry b t j)) →
    product_entry (number_field o) a b n i j
    ≡ number_sum (number_field o) (λ k. (number_field o).mul (term_at terms k).weight
    (product_entry (number_field (prime_order o)) (va k) (vb k) n i j)) (length terms)
unfolding product_entry
product_entry_by_terms o terms are a b va vb n i j ha hb a_values b_values =
    let K : NumberField = number_field o in
    let P : NumberField = number_field (prime_order o) in
    sum_by_terms o terms are (λ t. entry a i t) (λ t. entry b t j) n ha hb
    ∙ number_sum_same K (length terms) _ _ (λ k among. ap (K.mul (term_at terms k).weight)
    (number_sum_same P n _ _ (λ t inside. sym (ap₂ P.mul (a_values k t inside) (b_values k t inside)))))

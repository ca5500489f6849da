-- Horner's rule for products of a row vector and a matrix: a row with some terms, times x, plus further terms.
use Rattle.std.proofs.Common.{◌≡◌, ℕ, ◌+◌, ◌<◌, List, length, get_or, sym, ap, ap₂, ◌∙◌, arith}
use Rattle.axe_algebra.specs.Field.{Field}
use Rattle.axe_algebra.specs.Lists.{entry, AreElements}
use Rattle.axe_algebra.specs.ListArithmetic.{number_sum}
use Rattle.axe_algebra.specs.Bridge.{field_of, element}
use Rattle.axe_algebra.specs.NumberField.{NumberField}
use Rattle.axe_algebra.proofs.ElementNumbers.{element_add, element_number_sum, same_number, number_sum_same, entry-below}
use Rattle.axe_algebra.proofs.Sums.{sum-add, sum_same}
use Rattle.axe_row.specs.Operations.{multiple}
use Rattle.axe_row.proofs.OperationLaws.{get_or-multiple}
use Rattle.axe_matrix.specs.Products.{row_with_terms}
use Rattle.axe_matrix.proofs.BlockLaws.{HasElements, length-row_with_terms, get_or-row_with_terms, is_row_with_terms, terms}
use Rattle.axe_matrix.proofs.TermSums.{one-mul, sum-below, mul-number_sum}

module _ (K : NumberField) where
  abbrev F : Field
  F = field_of K

  -- a sum of sums
  pub number_sum-add : (f g : ℕ → ℕ) (n : ℕ) → ((t : ℕ) → f t < K.order) → ((t : ℕ) → g t < K.order) →
      number_sum K (λ t. K.add (f t) (g t)) n ≡ K.add (number_sum K f n) (number_sum K g n)
  number_sum-add f g n f_small g_small =
      let first = sum-below K f n f_small in
      let second = sum-below K g n g_small in
      let both = λ (t : ℕ). K.add-below (f t) (g t) (f_small t) (g_small t) in
      same_number K _ _ (sum-below K (λ t. K.add (f t) (g t)) n both) (K.add-below _ _ first second)
      (element_number_sum K n (λ t. K.add (f t) (g t)) (λ t _. both t)
      ∙ sum_same F n _ _ (λ t _. element_add K (f t) (g t) (f_small t) (g_small t))
      ∙ sum-add F n (λ t. element K (f t)) (λ t. element K (g t))
      ∙ ap₂ F.add (sym (element_number_sum K n f (λ t _. f_small t))) (sym (element_number_sum K n g (λ t _. g_small t)))
      ∙ sym (element_add K _ _ first second))

  pub add-mul : (a b c : ℕ) → a < K.order → b < K.order → c < K.order → K.mul (K.add a b) c ≡ K.add (K.mul a c) (K.mul b c)
  add-mul a b c ha hb hc =
      K.mul_comm (K.add a b) c (K.add-below a b ha hb) hc ∙ K.mul-add c a b hc ha hb ∙ ap₂ K.add (K.mul_comm c a hc ha) (K.mul_comm c b hc hb)

  -- one entry
  horner_entry : (x p r : ℕ) (f g h : ℕ → ℕ) (n : ℕ) → x < K.order → p < K.order → r < K.order → ((t : ℕ) → f t < K.order) →
      ((t : ℕ) → g t < K.order) → ((t : ℕ) → t < n → h t ≡ K.add (K.mul x (f t)) (g t)) →
      K.add (K.mul x (K.add (K.mul p r) (K.mul 1 (number_sum K f n)))) (K.mul 1 (number_sum K g n))
      ≡ K.add (K.mul (K.mul x p) r) (K.mul 1 (number_sum K h n))
  horner_entry x p r f g h n hx hp hr f_small g_small same =
      let first = number_sum K f n in
      let second = number_sum K g n in
      let first_small : first < K.order = sum-below K f n f_small in
      let second_small : second < K.order = sum-below K g n g_small in
      let scaled_small = λ (t : ℕ). K.mul-below x (f t) hx (f_small t) in
      let front = K.mul-below p r hp hr in
      let front_too = K.mul-below (K.mul x p) r (K.mul-below x p hx hp) hr in
      let both = λ (t : ℕ). K.add (K.mul x (f t)) (g t) in
      ap₂ (λ s u. K.add (K.mul x (K.add (K.mul p r) s)) u) (one-mul K first first_small) (one-mul K second second_small)
      ∙ ap (λ s. K.add s second)
      (K.mul-add x (K.mul p r) first hx front first_small ∙ ap (λ s. K.add s (K.mul x first)) (sym (K.mul_assoc x p r hx hp hr)))
      ∙ K.add_assoc _ _ _ front_too (K.mul-below x first hx first_small) second_small
      ∙ ap (K.add (K.mul (K.mul x p) r))
      (ap (λ s. K.add s second) (mul-number_sum K x f n hx f_small)
      ∙ sym (number_sum-add (λ t. K.mul x (f t)) g n scaled_small g_small)
      ∙ sym (one-mul K (number_sum K both n) (sum-below K both n (λ t. K.add-below _ _ (scaled_small t) (g_small t))))
      ∙ ap (K.mul 1) (number_sum_same K n both h (λ t below. sym (same t below))))

  -- a product of a row with entries that are sums
  pub horner_row : (columns x p : ℕ) (r u w v : List ℕ) (b : List (List ℕ)) (n : ℕ) → x < K.order → p < K.order → AreElements K r →
      AreElements K u → AreElements K w → HasElements K b → length r ≡ columns →
      ((t : ℕ) → t < n → get_or v t 0 ≡ K.add (K.mul x (get_or u t 0)) (get_or w t 0)) →
      row_with_terms K columns (multiple K x (row_with_terms K columns (multiple K p r) 1 u b 0 n)) 1 w b 0 n
      ≡ row_with_terms K columns (multiple K (K.mul x p) r) 1 v b 0 n
  unfolding terms
  horner_row columns x p r u w v b n hx hp over_r over_u over_w over_b long same =
      let before = row_with_terms K columns (multiple K p r) 1 u b 0 n in
      let term = λ (y : List ℕ) (j t : ℕ). K.mul (get_or y (0 + t) 0) (entry b (0 + t) j) in
      is_row_with_terms K columns (multiple K (K.mul x p) r) 1 v b 0 n _ (length-row_with_terms K columns (multiple K x before) 1 w b 0 n) (λ j below.
      let inside : j < length r = omega (arith, long) in
      let within : j < length before = omega (arith, length-row_with_terms K columns (multiple K p r) 1 u b 0 n) in
      get_or-row_with_terms K columns (multiple K x before) 1 w b 0 n j below
      ∙ ap (λ s. K.add s (K.mul 1 (number_sum K (term w j) n)))
      (get_or-multiple K x before j within
      ∙ ap (K.mul x) (get_or-row_with_terms K columns (multiple K p r) 1 u b 0 n j below
      ∙ ap (λ s. K.add s (K.mul 1 (number_sum K (term u j) n))) (get_or-multiple K p r j inside)))
      ∙ horner_entry x p (get_or r j 0) (term u j) (term w j) (term v j) n hx hp (entry-below K r j over_r)
      (λ t. K.mul-below _ _ (entry-below K u (0 + t) over_u) (over_b (0 + t) j))
      (λ t. K.mul-below _ _ (entry-below K w (0 + t) over_w) (over_b (0 + t) j))
      (λ t below_n.
      let a = get_or u (0 + t) 0 in
      let c = get_or w (0 + t) 0 in
      let e = entry b (0 + t) j in
      let ha = entry-below K u (0 + t) over_u in
      ap (λ s. K.mul s e) (same (0 + t) (omega arith))
      ∙ add-mul (K.mul x a) c e (K.mul-below x a hx ha) (entry-below K w (0 + t) over_w) (over_b (0 + t) j)
      ∙ ap (λ s. K.add s (K.mul c e)) (K.mul_assoc x a e hx ha (over_b (0 + t) j)))
      ∙ ap (λ s. K.add s (K.mul 1 (number_sum K (term v j) n))) (sym (get_or-multiple K (K.mul x p) r j inside)))

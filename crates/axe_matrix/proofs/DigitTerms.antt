-- The terms of the product of a row vector and a matrix that are added digit by digit: those of the entries below a digit,
-- and then those of the entries that are the digit.
use Rattle.std.proofs.Common.{◌≡◌, ◌≢◌, ℕ, zero, suc, ◌+◌, ◌<◌, ◌≤◌, Bool, true, false, List, length, get_or, map, cond, eqb, ltb, refl, sym, ap, ap₂, ◌∙◌, arith}
use Rattle.std.specs.List.{All}
use Rattle.std.proofs.lemmas.Bool.{lt-ltb, le-ltb, eq-eqb, ne_eqb}
use Rattle.std.proofs.lemmas.List.{get_or-map, length-map, ext_get_or}
use Rattle.std.proofs.lemmas.List.Elements.{All-map}
use native.Mathlib.Decide.{dec_lt}
use Rattle.axe_algebra.specs.Lists.{entry, AreElements}
use Rattle.axe_algebra.specs.ListArithmetic.{number_sum}
use Rattle.axe_algebra.specs.NumberField.{NumberField}
use Rattle.axe_algebra.proofs.ElementNumbers.{number_sum_same, entry-below, zero-below}
use Rattle.axe_field.specs.NumberFields.{number_field}
use Rattle.axe_field.specs.Order.{Order, order_number, IsElement}
use Rattle.axe_field.proofs.Orders.{zero_is_element, one_is_element}
use Rattle.axe_row.specs.Rows.{RowValue}
use Rattle.axe_row.proofs.RowLaws.{same_row}
use Rattle.axe_matrix.specs.Matrices.{MatrixValue, IsMatrix}
use Rattle.axe_matrix.specs.Products.{row_with_terms, row_with_product}
use Rattle.axe_matrix.specs.ValueTerms.{places_of_value, vector_of_places}
use Rattle.axe_matrix.proofs.BlockLaws.{HasElements, length-row_with_terms, get_or-row_with_terms, is_row_with_terms, terms}
use Rattle.axe_matrix.proofs.BlockRows.{element-below, elements-below, entries-below}
use Rattle.axe_matrix.proofs.DirectRows.{so_many_terms, no_terms, zero_terms}
use Rattle.axe_matrix.proofs.HornerTerms.{number_sum-add, add-mul}
use Rattle.axe_matrix.proofs.TermSums.{mul-zero, zero-add, one-mul, sum-below, mul-number_sum}
use Rattle.axe_matrix.proofs.ValuePowers.{places-elements}

module _ (K : NumberField) where
  -- one entry with the terms of two vectors
  both_entry : (x c : ℕ) (f g h : ℕ → ℕ) (n : ℕ) → x < K.order → c < K.order → ((t : ℕ) → f t < K.order) → ((t : ℕ) → g t < K.order) →
      ((t : ℕ) → t < n → h t ≡ K.add (f t) (K.mul c (g t))) →
      K.add (K.add x (K.mul 1 (number_sum K f n))) (K.mul c (number_sum K g n)) ≡ K.add x (K.mul 1 (number_sum K h n))
  both_entry x c f g h n hx hc f_small g_small same =
      let first = number_sum K f n in
      let first_small : first < K.order = sum-below K f n f_small in
      let scaled = λ (t : ℕ). K.mul c (g t) in
      let scaled_small = λ (t : ℕ). K.mul-below c (g t) hc (g_small t) in
      let both = λ (t : ℕ). K.add (f t) (K.mul c (g t)) in
      ap₂ (λ s u. K.add (K.add x s) u) (one-mul K first first_small) (mul-number_sum K c g n hc g_small)
      ∙ K.add_assoc x first (number_sum K scaled n) hx first_small (sum-below K scaled n scaled_small)
      ∙ ap (K.add x)
      (sym (number_sum-add K f scaled n f_small scaled_small)
      ∙ sym (one-mul K (number_sum K both n) (sum-below K both n (λ t. K.add-below _ _ (f_small t) (scaled_small t))))
      ∙ ap (K.mul 1) (number_sum_same K n both h (λ t below. sym (same t below))))

  -- the terms of one vector, and then c times those of another, are the terms of the first plus c times the other
  row_with_both : (columns c : ℕ) (r u w v : List ℕ) (b : List (List ℕ)) (n : ℕ) → c < K.order → AreElements K r → AreElements K u →
      AreElements K w → HasElements K b → ((t : ℕ) → t < n → get_or v t 0 ≡ K.add (get_or u t 0) (K.mul c (get_or w t 0))) →
      row_with_terms K columns (row_with_terms K columns r 1 u b 0 n) c w b 0 n ≡ row_with_terms K columns r 1 v b 0 n
  unfolding terms
  row_with_both columns c r u w v b n hc over_r over_u over_w over_b same =
      let before = row_with_terms K columns r 1 u b 0 n in
      let term = λ (y : List ℕ) (j t : ℕ). K.mul (get_or y (0 + t) 0) (entry b (0 + t) j) in
      is_row_with_terms K columns r 1 v b 0 n _ (length-row_with_terms K columns before c w b 0 n) (λ j below.
      get_or-row_with_terms K columns before c w b 0 n j below
      ∙ ap (λ s. K.add s (K.mul c (number_sum K (term w j) n))) (get_or-row_with_terms K columns r 1 u b 0 n j below)
      ∙ both_entry (get_or r j 0) c (term u j) (term w j) (term v j) n (entry-below K r j over_r) hc
      (λ t. K.mul-below _ _ (entry-below K u (0 + t) over_u) (over_b (0 + t) j))
      (λ t. K.mul-below _ _ (entry-below K w (0 + t) over_w) (over_b (0 + t) j))
      (λ t below_n.
      let a = get_or u (0 + t) 0 in
      let d = get_or w (0 + t) 0 in
      let e = entry b (0 + t) j in
      let hd = entry-below K w (0 + t) over_w in
      ap (λ s. K.mul s e) (same (0 + t) (omega arith))
      ∙ add-mul K a (K.mul c d) e (entry-below K u (0 + t) over_u) (K.mul-below c d hc hd) (over_b (0 + t) j)
      ∙ ap (K.add (K.mul a e)) (K.mul_assoc c d e hc hd (over_b (0 + t) j))))

  -- an entry that is at most a digit is below it, or it is the digit
  next_entry : (t a : ℕ) → t < K.order → a < K.order → cond (ltb a (t + 1)) a 0 ≡ K.add (cond (ltb a t) a 0) (K.mul t (cond (eqb a t) 1 0))
  next_entry t a ht ha = elim (dec_lt a t) [
    | yes less ↦
        let other : a ≢ t = λ same. absurd (omega (arith, less, same)) in
        ap (λ (b : Bool). cond b a 0) (lt-ltb a (t + 1) (omega (arith, less)))
        ∙ sym (ap₂ (λ (b c : Bool). K.add (cond b a 0) (K.mul t (cond c 1 0))) (lt-ltb a t less) (ne_eqb a t other)
        ∙ ap (K.add a) (mul-zero K t ht) ∙ K.add-zero a ha)
    | no more ↦
        elim (dec_lt t a) [
          | yes above ↦
              let other : a ≢ t = λ same. absurd (omega (arith, above, same)) in
              ap (λ (b : Bool). cond b a 0) (le-ltb a (t + 1) (omega (arith, above)))
              ∙ sym (ap₂ (λ (b c : Bool). K.add (cond b a 0) (K.mul t (cond c 1 0))) (le-ltb a t (omega (arith, above))) (ne_eqb a t other)
              ∙ ap (K.add 0) (mul-zero K t ht) ∙ K.add-zero 0 (zero-below K))
          | no at_most ↦
              let same : a ≡ t = omega (arith, more, at_most) in
              ap (λ (b : Bool). cond b a 0) (lt-ltb a (t + 1) (omega (arith, same)))
              ∙ sym (ap₂ (λ (b c : Bool). K.add (cond b a 0) (K.mul t (cond c 1 0))) (le-ltb a t (omega (arith, same))) (eq-eqb a t same)
              ∙ ap (K.add 0) (K.mul-one t ht) ∙ zero-add K t ht ∙ sym same)
        ]
  ]

-- ---- the vector of the entries below a digit, with 0 in the place of all others

unfoldable pub digits_below : ℕ → List ℕ → List ℕ
digits_below t entries = map (λ a. cond (ltb a t) a 0) entries

-- the row when the terms of the entries below a digit were added
pub record HasDigits (b : MatrixValue) (r v : List ℕ) (t : ℕ) (row : RowValue) : Type 0 where
  pub field : row.order ≡ b.order
  pub entries : row.entries ≡ so_many_terms b r 1 (digits_below t v) (length b.rows)

element_or_none : (o : Order) (b : Bool) (a : ℕ) → IsElement o a → IsElement o (cond b a 0)
element_or_none o true a ha = ha
element_or_none o false a ha = zero_is_element o

digits-elements : (o : Order) (t : ℕ) (v : List ℕ) → All (IsElement o) v → All (IsElement o) (digits_below t v)
unfolding digits_below
digits-elements o t v over =
    All-map (IsElement o) (λ a. cond (ltb a t) a 0) v (λ i d inside. element_or_none o (ltb (get_or v i d) t) (get_or v i d) (over i d inside))

below_one : (a : ℕ) → cond (ltb a 1) a 0 ≡ 0
below_one zero = refl
below_one (suc a) = ap (λ (b : Bool). cond b (suc a) 0) (le-ltb (suc a) 1 (omega arith))

-- no digit was looked at
pub no_digits : (b : MatrixValue) (r v : List ℕ) (row : RowValue) → IsMatrix b → All (IsElement b.order) r → All (IsElement b.order) v →
    length r ≡ b.cols → length v ≡ length b.rows → row.order ≡ b.order → row.entries ≡ r → HasDigits b r v 1 row
unfolding digits_below
no_digits b r v row hb over_r over_v columns_fit inner_fit field same = record {
  field = field;
  entries =
      same
      ∙ no_terms b r 1 (digits_below 1 v) (one_is_element b.order) over_r columns_fit
      ∙ zero_terms b r 1 (digits_below 1 v) 0 (length b.rows) hb (digits-elements b.order 1 v over_v) (omega arith) (λ t _ below.
      get_or-map (λ a. cond (ltb a 1) a 0) v t 0 0 (omega (arith, inner_fit)) ∙ below_one (get_or v t 0));
}

digits-next : (o : Order) (t : ℕ) (v : List ℕ) (e : ℕ) → IsElement o t → All (IsElement o) v → e < length v →
    get_or (digits_below (t + 1) v) e 0 ≡ (number_field o).add (get_or (digits_below t v) e 0) ((number_field o).mul t (get_or (places_of_value t v) e 0))
unfolding digits_below places_of_value
digits-next o t v e ht over inside =
    let K = number_field o in
    get_or-map (λ a. cond (ltb a (t + 1)) a 0) v e 0 0 inside
    ∙ next_entry K t (get_or v e 0) (element-below o t ht) (element-below o (get_or v e 0) (over e 0 inside))
    ∙ ap₂ (λ x y. K.add x (K.mul t y)) (sym (get_or-map (λ a. cond (ltb a t) a 0) v e 0 0 inside))
    (sym (get_or-map (λ a. cond (eqb a t) 1 0) v e 0 0 inside))

-- one more digit was looked at
pub next_digit : (b : MatrixValue) (r : List ℕ) (vector : RowValue) (t : ℕ) (before after : RowValue) → IsMatrix b → All (IsElement b.order) r →
    All (IsElement b.order) vector.entries → length vector.entries ≡ length b.rows → IsElement b.order t → HasDigits b r vector.entries t before →
    after ≡ row_with_product before t (vector_of_places t vector) b → HasDigits b r vector.entries (t + 1) after
next_digit b r vector t before after hb over_r over_v inner_fit ht so_far after_is =
    let o = b.order in
    let v = vector.entries in
    let n = length b.rows in
    let places = places_of_value t v in
    let terms_of = λ (p : Order) (y : List ℕ). row_with_terms (number_field p) b.cols y t places b.rows 0 n in
    record {
      field = ap (λ (y : RowValue). y.order) after_is ∙ so_far.field;
      entries =
          ap (λ (y : RowValue). y.entries) after_is
          ∙ ap (λ (p : Order). terms_of p before.entries) so_far.field
          ∙ ap (terms_of o) so_far.entries
          ∙ row_with_both (number_field o) b.cols t r (digits_below t v) places (digits_below (t + 1) v) b.rows n (element-below o t ht)
          (elements-below o r over_r) (elements-below o _ (digits-elements o t v over_v)) (elements-below o _ (places-elements o t v))
          (entries-below o b hb refl) (λ e below. digits-next o t v e ht over_v (omega (arith, inner_fit)));
    }

digits-all : (o : Order) (t : ℕ) (v : List ℕ) → order_number o ≤ t → All (IsElement o) v → digits_below t v ≡ v
unfolding digits_below
digits-all o t v past over =
    ext_get_or 0 (map (λ a. cond (ltb a t) a 0) v) v (length-map v (λ a. cond (ltb a t) a 0)) (λ e below.
    let inside : e < length v = omega (arith, length-map v (λ a. cond (ltb a t) a 0)) in
    get_or-map (λ a. cond (ltb a t) a 0) v e 0 0 inside
    ∙ ap (λ (b : Bool). cond b (get_or v e 0) 0) (lt-ltb (get_or v e 0) t (omega (arith, past, over e 0 inside))))

-- all digits were looked at
pub all_digits : (b : MatrixValue) (first vector : RowValue) (t : ℕ) (row : RowValue) → first.order ≡ b.order → All (IsElement b.order) vector.entries →
    HasDigits b first.entries vector.entries t row → order_number b.order ≤ t → row ≡ row_with_product first 1 vector b
all_digits b first vector t row field over_v all past =
    let r = first.entries in
    same_row row (row_with_product first 1 vector b) (all.field ∙ sym field)
    (all.entries
    ∙ ap (λ (w : List ℕ). so_many_terms b r 1 w (length b.rows)) (digits-all b.order t vector.entries past over_v)
    ∙ ap (λ (o : Order). row_with_terms (number_field o) b.cols r 1 vector.entries b.rows 0 (length b.rows)) (sym field))

-- The rows of a matrix to which a product is added row by row.
use Rattle.std.proofs.Common.{◌≡◌, ℕ, ◌+◌, ◌<◌, ◌≤◌, List, [], length, get_or, replicate, refl, ap, ◌∙◌, subst, arith}
use Rattle.std.specs.List.{All}
use Rattle.axe_field.specs.Arithmetic.{field_mul}
use Rattle.axe_field.specs.NumberFields.{number_field}
use Rattle.axe_field.specs.Order.{Order, IsElement}
use Rattle.axe_row.specs.Operations.{sum_with_multiple}
use Rattle.axe_row.specs.Rows.{RowValue}
use Rattle.axe_matrix.specs.Matrices.{MatrixValue, IsMatrix, row_of, vector_product}
use Rattle.axe_matrix.specs.Products.{row_with_terms, row_with_product}
use Rattle.axe_matrix.proofs.BlockLaws.{row_with_no_terms, row_with_next_term, row_with_zero_terms, zeros_with_terms}
use Rattle.axe_matrix.proofs.BlockRows.{element-below, elements-below, entries-below}

field_mul-is : (o : Order) (a b : ℕ) → field_mul o a b ≡ (number_field o).mul a b
unfolding number_field
field_mul-is o a b = refl

-- the row with n terms from number `at` on of its sum with c times a product
abbrev pub terms_from : MatrixValue → List ℕ → ℕ → List ℕ → ℕ → ℕ → List ℕ
terms_from b r c v at n = row_with_terms (number_field b.order) b.cols r c v b.rows at n

module _ (b : MatrixValue) (r : List ℕ) (c : ℕ) (v : List ℕ) (at : ℕ) (hb : IsMatrix b) (over_v : All (IsElement b.order) v) where
  pub no_terms_from : IsElement b.order c → All (IsElement b.order) r → length r ≡ b.cols → r ≡ terms_from b r c v at 0
  no_terms_from small over_r long =
      row_with_no_terms (number_field b.order) b.cols r c v b.rows at (element-below b.order c small) (elements-below b.order r over_r) long

  -- a multiple of row k of the matrix was added
  pub one_more_from : (n k factor : ℕ) (before row : RowValue) → at + n ≡ k → IsElement b.order c → All (IsElement b.order) r →
      before.order ≡ b.order → before.entries ≡ terms_from b r c v at n → factor ≡ field_mul b.order c (get_or v k 0) → row ≡ row_of b k →
      sum_with_multiple (number_field before.order) before.entries factor row.entries ≡ terms_from b r c v at (n + 1)
  one_more_from n k factor before row is small over_r order so_far factor_is row_is =
      ap (λ o. sum_with_multiple (number_field o) before.entries factor row.entries) order
      ∙ ap (λ xs. sum_with_multiple (number_field b.order) xs factor row.entries) so_far
      ∙ ap (λ x. sum_with_multiple (number_field b.order) (terms_from b r c v at n) x row.entries) (factor_is ∙ field_mul-is b.order c (get_or v k 0))
      ∙ ap (λ (x : RowValue). sum_with_multiple (number_field b.order) (terms_from b r c v at n) ((number_field b.order).mul c (get_or v k 0)) x.entries) row_is
      ∙ row_with_next_term (number_field b.order) b.cols r c v b.rows at n k is (element-below b.order c small)
      (elements-below b.order r over_r) (elements-below b.order v over_v) (entries-below b.order b hb refl)

  -- entries of the vector that are 0
  pub zeros_from : (m n : ℕ) → m ≤ n → ((t : ℕ) → m ≤ t → t < n → get_or v (at + t) 0 ≡ 0) → terms_from b r c v at m ≡ terms_from b r c v at n
  zeros_from m n more zeros =
      row_with_zero_terms (number_field b.order) b.cols r c v b.rows at m n more (elements-below b.order v over_v) (entries-below b.order b hb refl) zeros

-- the row with the first n terms of its sum with c times a product
abbrev pub so_many_terms : MatrixValue → List ℕ → ℕ → List ℕ → ℕ → List ℕ
so_many_terms b r c v n = terms_from b r c v 0 n

pub no_terms : (b : MatrixValue) (r : List ℕ) (c : ℕ) (v : List ℕ) → IsElement b.order c → All (IsElement b.order) r → length r ≡ b.cols → r ≡ so_many_terms b r c v 0
no_terms b r c v small over_r long =
    row_with_no_terms (number_field b.order) b.cols r c v b.rows 0 (element-below b.order c small) (elements-below b.order r over_r) long

at_first : (n : ℕ) → 0 + n ≡ n
at_first n = omega arith

-- a multiple of row n of the matrix was added
pub one_more_term : (b : MatrixValue) (r : List ℕ) (c : ℕ) (v : List ℕ) (n factor : ℕ) (before row : RowValue) → IsMatrix b → IsElement b.order c →
    All (IsElement b.order) r → All (IsElement b.order) v → before.order ≡ b.order → before.entries ≡ so_many_terms b r c v n →
    factor ≡ field_mul b.order c (get_or v n 0) → row ≡ row_of b n →
    sum_with_multiple (number_field before.order) before.entries factor row.entries ≡ so_many_terms b r c v (n + 1)
one_more_term b r c v n factor before row hb small over_r over_v = one_more_from b r c v 0 hb over_v n n factor before row (at_first n) small over_r

-- entries of the vector from n on that are 0
pub zero_terms : (b : MatrixValue) (r : List ℕ) (c : ℕ) (v : List ℕ) (n m : ℕ) → IsMatrix b → All (IsElement b.order) v → n ≤ m →
    ((t : ℕ) → n ≤ t → t < m → get_or v t 0 ≡ 0) → so_many_terms b r c v n ≡ so_many_terms b r c v m
zero_terms b r c v n m hb over_v more zeros =
    zeros_from b r c v 0 hb over_v n m more (λ t past below. ap (λ k. get_or v k 0) (at_first t) ∙ zeros t past below)

-- zeros plus 1 times a product
pub zeros_with_product : (o : Order) (n : ℕ) (v : RowValue) (b : MatrixValue) → IsMatrix b → o ≡ b.order → n ≡ b.cols → v.order ≡ b.order → All (IsElement v.order) v.entries →
    row_with_product (record { order = o; entries = replicate n 0 }) 1 v b ≡ vector_product v b
zeros_with_product o n v b hb field columns v_field over_v =
    ap (λ p. row_with_product (record { order = p; entries = replicate n 0 }) 1 v b) field
    ∙ ap (λ k. row_with_product (record { order = b.order; entries = replicate k 0 }) 1 v b) columns
    ∙ ap (λ xs. record { order = b.order; entries = xs })
    (zeros_with_terms (number_field b.order) b.cols v.entries b.rows
    (elements-below b.order v.entries (subst (λ p. All (IsElement p) v.entries) v_field over_v)) (entries-below b.order b hb refl))

-- the row of a matrix when a product was added, by the row as it was at first
pub row_of_product : (d a b m : MatrixValue) (i c : ℕ) (vector : RowValue) → m.order ≡ d.order → b.cols ≡ d.cols → get_or m.rows i [] ≡ get_or d.rows i [] →
    vector ≡ row_of a i →
    (row_with_product (row_of m i) c vector b).entries
    ≡ row_with_terms (number_field d.order) d.cols (get_or d.rows i []) c (get_or a.rows i []) b.rows 0 (length b.rows)
row_of_product d a b m i c vector order columns kept vector_is =
    ap (λ o. row_with_terms (number_field o) b.cols (get_or m.rows i []) c vector.entries b.rows 0 (length b.rows)) order
    ∙ ap (λ n. row_with_terms (number_field d.order) n (get_or m.rows i []) c vector.entries b.rows 0 (length b.rows)) columns
    ∙ ap (λ r. row_with_terms (number_field d.order) d.cols r c vector.entries b.rows 0 (length b.rows)) kept
    ∙ ap (λ (v : RowValue). row_with_terms (number_field d.order) d.cols (get_or d.rows i []) c v.entries b.rows 0 (length b.rows)) vector_is

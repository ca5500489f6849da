-- The terms of the product of a row vector and a matrix that belong to the entries of the vector from an index on.
use Rattle.std.proofs.Common.{◌≡◌, ℕ, ◌+◌, ◌-◌, ◌≤◌, List, length, get_or, refl, sym, ap, ◌∙◌, arith}
use Rattle.std.specs.List.{All}
use Rattle.axe_field.specs.NumberFields.{number_field}
use Rattle.axe_field.specs.Order.{Order, IsElement}
use Rattle.axe_field.proofs.Laws.{field_one-mul}
use Rattle.axe_field.proofs.Orders.{one_is_element}
use Rattle.axe_lane.specs.Entries.{AreZerosFrom, IsNextNonzero}
use Rattle.axe_row.specs.Operations.{sum_with_multiple}
use Rattle.axe_row.specs.Rows.{RowValue}
use Rattle.axe_matrix.specs.Matrices.{MatrixValue, IsMatrix, row_of}
use Rattle.axe_matrix.specs.Products.{row_with_terms}
use Rattle.axe_matrix.specs.VectorTerms.{row_with_terms_between}
use Rattle.axe_matrix.proofs.BlockLaws.{row_with_more_terms}
use Rattle.axe_matrix.proofs.BlockRows.{element-below, elements-below, entries-below}
use Rattle.axe_matrix.proofs.DirectRows.{no_terms_from, one_more_from, so_many_terms, terms_from, zeros_from}
use Rattle.axe_matrix.proofs.FourTerms.{AreOverField}

module _ (b : MatrixValue) (r v : List ℕ) (start : ℕ) (over : AreOverField b r v) where
  -- none yet
  pub none_from : length r ≡ b.cols → r ≡ terms_from b r 1 v start (start - start)
  none_from long =
      let none : 0 ≡ start - start = omega arith in
      no_terms_from b r 1 v start over.matrix over.vector (one_is_element b.order) over.row long ∙ ap (terms_from b r 1 v start) none

  -- an entry is found, and its row added
  pub found_from : (place i factor : ℕ) (before row : RowValue) → start ≤ place → before.order ≡ b.order →
      before.entries ≡ terms_from b r 1 v start (place - start) → IsNextNonzero v place i → factor ≡ get_or v i 0 → row ≡ row_of b i →
      sum_with_multiple (number_field before.order) before.entries factor row.entries ≡ terms_from b r 1 v start (i + 1 - start)
  found_from place i factor before row begun order so_far next factor_is row_is =
      let there : start + (i - start) ≡ i = omega (arith, begun, next.not_before) in
      let all : i - start + 1 ≡ i + 1 - start = omega (arith, begun, next.not_before) in
      let zeros = zeros_from b r 1 v start over.matrix over.vector (place - start) (i - start) (omega (arith, begun, next.not_before)) (λ t past below.
      next.zeros_between (start + t) (omega (arith, past)) (omega (arith, below))) in
      one_more_from b r 1 v start over.matrix over.vector (i - start) i factor before row there (one_is_element b.order) over.row order (so_far ∙ zeros)
      (factor_is ∙ sym (field_one-mul b.order (get_or v i 0) (over.vector i 0 next.within))) row_is
      ∙ ap (terms_from b r 1 v start) all

  -- none is left
  pub all_from : (place : ℕ) (after : List ℕ) → start ≤ place → place ≤ length v → after ≡ terms_from b r 1 v start (place - start) →
      AreZerosFrom v place → after ≡ terms_from b r 1 v start (length v - start)
  all_from place after begun fits so_far zeros =
      so_far
      ∙ zeros_from b r 1 v start over.matrix over.vector (place - start) (length v - start) (omega (arith, begun, fits)) (λ t past below.
      zeros (start + t) (omega (arith, past)))

-- to a row with the first terms those before another were added
pub further_terms : (b : MatrixValue) (r : List ℕ) (c : ℕ) (vector : RowValue) (at end : ℕ) (before after : RowValue) → IsMatrix b →
    IsElement b.order c → All (IsElement b.order) r → All (IsElement b.order) vector.entries → at ≤ end → before.order ≡ b.order →
    before.entries ≡ so_many_terms b r c vector.entries at → after ≡ row_with_terms_between before c vector b at end →
    after.entries ≡ so_many_terms b r c vector.entries end
further_terms b r c vector at end before after hb small over_r over_v fits order so_far is =
    let n = end - at in
    let v = vector.entries in
    let all : at + n ≡ end = omega (arith, fits) in
    let first : at ≡ 0 + at = omega arith in
    ap (λ (x : RowValue). x.entries) is
    ∙ ap (λ (o : Order). row_with_terms (number_field o) b.cols before.entries c v b.rows at n) order
    ∙ ap (λ (xs : List ℕ). row_with_terms (number_field b.order) b.cols xs c v b.rows at n) so_far
    ∙ ap (λ j. row_with_terms (number_field b.order) b.cols (so_many_terms b r c v at) c v b.rows j n) first
    ∙ row_with_more_terms (number_field b.order) b.cols r c v b.rows 0 at n (element-below b.order c small) (elements-below b.order r over_r)
    (elements-below b.order v over_v) (entries-below b.order b hb refl)
    ∙ ap (so_many_terms b r c v) all

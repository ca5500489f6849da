-- The columns that are no pivots: with their unit vectors the rows of a span span everything.
use Rattle.std.specs.Prelude.{◌≡◌, ◌≢◌, ℕ, ◌<◌, ◌≤◌, ◌+◌, ◌-◌, ◌⊎◌}
use Rattle.axe_algebra.specs.Field.{Field}
use Rattle.axe_algebra.specs.Vectors.{Vector, Matrix, HasLength, HasRowsOfLength, zero_vector, unit_matrix, add_vectors, subtract, times}
use Rattle.axe_algebra.specs.Spans.{InSpan, IsIndependent, SpansAll, IsInverse}
use Rattle.axe_algebra.specs.Reduced.{IsPivot, IsAscendingListOf, IsReducedBasis, IsZeroAtPivots, IsRepresentative}
use Rattle.axe_algebra.specs.Actions.{IsFree, unit_vectors}
use Rattle.axe_algebra.proofs.FieldLaws.{zero-add, neg_is, same_of_difference}
use Rattle.axe_algebra.proofs.ProductLaws.{times_same, times_identity, unit_is_matrix, unit_length}
use Rattle.axe_algebra.proofs.Spanning.{span_zero, span_same, span_add, span_subtract, span_length}
use Rattle.axe_algebra.proofs.Exchange.{exchange, span_of_same_rows}
use Rattle.axe_algebra.proofs.SquareMatrices.{left_inverse, left_inverse_is_matrix, left_inverse_inverts, left_two_sided, rows_of_invertible}
use Rattle.axe_algebra.proofs.ReducedBases.{place_or_none, reduced_basis, zero_at_pivots_is_zero, representative}
use Rattle.axe_algebra.proofs.Spaces.{stacked, stacked_first, stacked_second, each_stacked, first_in_stacked, second_in_stacked}
use Rattle.axe_algebra.proofs.Flags.{times_split}
use Rattle.axe_algebra.proofs.Isomorphisms.{unit_rows_independent}
use Rattle.axe_algebra.proofs.Cutting.{cut_same, cut_matrix, cut_is_matrix, cut_matrix_row}
use Rattle.axe_algebra.proofs.Quotients.{unit_combination_at, unit_combination_off}
use mathlib.Core.Logic.{inl, inr}
use mathlib.Core.Path.{refl, sym, ◌∙◌, ap, ap₂, subst, fun_ext}
use native.Mathlib.Omega.{arith}
use native.Mathlib.Decide.{dec_lt}

module _ (F : Field) where
  -- whether a column is a pivot is decidable
  pub pivot_or_not : (n k : ℕ) (v : Matrix F) → HasRowsOfLength F n v → (j : ℕ) → Dec (IsPivot F k v j)
  pivot_or_not n k v rows j = by_basis (reduced_basis F n k v rows)
    where
      by_basis : (r : ℕ) × (w : Matrix F) × HasRowsOfLength F n w × IsReducedBasis F k v r w → Dec (IsPivot F k v j)
      by_basis (r, w, lengths, basis) = by_place (place_or_none r basis.pivots j)
        where
          by_place : ((t : ℕ) × (t < r) × (basis.pivots t ≡ j)) ⊎ ((t : ℕ) → t < r → basis.pivots t ≢ j) → Dec (IsPivot F k v j)
          by_place (inl (t, below, e)) = yes (subst (IsPivot F k v) e (basis.are_pivots.each t below))
          by_place (inr none) = no λ pivot. missing (basis.are_pivots.all j pivot)
            where
              missing : (t : ℕ) × (t < r) × (basis.pivots t ≡ j) → ⊥
              missing (t, below, e) = none t below e

  -- a vector that is zero at the pivots is the combination of the unit vectors of the free columns with its entries
  pub by_free_columns : (n k : ℕ) (v : Matrix F) → HasRowsOfLength F n v → (m : ℕ) (columns : ℕ → ℕ) → IsAscendingListOf (IsFree F n k v) m columns →
      (y : Vector F) → HasLength F n y → IsZeroAtPivots F k v y → y ≡ times F m (λ s. y (columns s)) (unit_vectors F columns)
  by_free_columns n k v rows m columns free y long zeros = fun_ext λ j. at j (place_or_none m columns j)
    where
      outside : (j : ℕ) → ((t : ℕ) → t < m → columns t ≢ j) → Dec (j < n) → Dec (IsPivot F k v j) → y j ≡ F.zero
      outside j none (no past) _ = long j (omega arith)
      outside j none (yes below) (yes pivot) = zeros j pivot
      outside j none (yes below) (no free_column) = absurd (missing (free.all j (record { below = below; no_pivot = free_column })))
        where
          missing : (t : ℕ) × (t < m) × (columns t ≡ j) → ⊥
          missing (t, inside, e) = none t inside e

      at : (j : ℕ) → ((t : ℕ) × (t < m) × (columns t ≡ j)) ⊎ ((t : ℕ) → t < m → columns t ≢ j) →
          y j ≡ times F m (λ s. y (columns s)) (unit_vectors F columns) j
      at j (inl (t, below, e)) =
          ap y (sym e) ∙ sym (unit_combination_at F (IsFree F n k v) m columns free (λ s. y (columns s)) t below)
          ∙ ap (times F m (λ s. y (columns s)) (unit_vectors F columns)) e
      at j (inr none) =
          outside j none (dec_lt j n) (pivot_or_not n k v rows j) ∙ sym (unit_combination_off F m columns (λ s. y (columns s)) j none)

  -- the rows of a span, and the unit vectors of its free columns, span everything
  pub extended_spans_all : (n k : ℕ) (v : Matrix F) → HasRowsOfLength F n v → (m : ℕ) (columns : ℕ → ℕ) → IsAscendingListOf (IsFree F n k v) m columns →
      SpansAll F n (k + m) (stacked F k v (unit_vectors F columns))
  extended_spans_all n k v rows m columns free x long = from (representative F n k v x rows)
    where
      from : (y : Vector F) × IsRepresentative F k v x y → InSpan F (k + m) (stacked F k v (unit_vectors F columns)) x
      from (y, is) =
          span_same F (k + m) all_rows x (add_vectors F (subtract F x y) y)
          (fun_ext λ j. sym (F.add_assoc (x j) (F.neg (y j)) (y j) ∙ ap (F.add (x j)) (F.add_comm (F.neg (y j)) (y j) ∙ F.add-neg (y j)) ∙ F.add-zero (x j)))
          (span_add F (k + m) all_rows (subtract F x y) y (first_in_stacked F k m v (unit_vectors F columns) (subtract F x y) is.in_coset)
          (second_in_stacked F k m v (unit_vectors F columns) y (record {
            coefficients = λ s. y (columns s);
            combines = by_free_columns n k v rows m columns free y length is.at_pivots;
          })))
        where
          all_rows : Matrix F
          all_rows = stacked F k v (unit_vectors F columns)

          -- y = x - (x - y) has length n
          length : HasLength F n y
          length j past =
              sym (same_of_difference F (x j) (y j) (span_length F n k v (subtract F x y) rows is.in_coset j past)) ∙ long j past

  -- n rows of length n that span everything are independent
  pub spanning_rows_independent : (n : ℕ) (v : Matrix F) → HasRowsOfLength F n v → SpansAll F n n v → IsIndependent F n v
  spanning_rows_independent n v rows all = record {
    only_zero = λ c vanishes. independent.only_zero c
        (times_same F n c c v' v (λ t below. refl) same ∙ vanishes);
  }
    where
      v' : Matrix F
      v' = cut_matrix F n n v

      same : (t : ℕ) → t < n → v' t ≡ v t
      same t below = cut_matrix_row F n n v t below ∙ cut_same F n (v t) (rows t)

      all' : SpansAll F n n v'
      all' x long = span_of_same_rows F n v v' x (λ t below. sym (same t below)) (all x long)

      inverts : IsInverse F n v' (left_inverse F n v' all')
      inverts = left_two_sided F n v' (left_inverse F n v' all') (cut_is_matrix F n n v) (left_inverse_is_matrix F n v' all') (left_inverse_inverts F n v' all')

      independent : IsIndependent F n v'
      independent = rows_of_invertible F n v' (record { inverse = left_inverse F n v' all'; inverts = inverts })

  -- independent rows stay independent with the unit vectors of the free columns
  pub extended_independent : (n k : ℕ) (v : Matrix F) → HasRowsOfLength F n v → (m : ℕ) (columns : ℕ → ℕ) → IsAscendingListOf (IsFree F n k v) m columns →
      IsIndependent F k v → IsIndependent F (k + m) (stacked F k v (unit_vectors F columns))
  extended_independent n k v rows m columns free independent = record { only_zero = λ c vanishes t below. at c vanishes t below (dec_lt t k) }
    where
      e : Matrix F
      e = unit_vectors F columns

      split : (c : Vector F) → times F (k + m) c (stacked F k v e) ≡ add_vectors F (times F k c v) (times F m (λ s. c (k + s)) e)
      split c =
          times_split F k m c (stacked F k v e)
          ∙ ap₂ (add_vectors F) (times_same F k c c (stacked F k v e) v (λ t below. refl) (stacked_first F k v e))
          (times_same F m (λ s. c (k + s)) (λ s. c (k + s)) (λ s. stacked F k v e (k + s)) e (λ t below. refl) (λ t below. stacked_second F k v e t))

      -- the part of the unit vectors is in the span, and zero at the pivots
      unit_part : (c : Vector F) → times F (k + m) c (stacked F k v e) ≡ zero_vector F → times F m (λ s. c (k + s)) e ≡ zero_vector F
      unit_part c vanishes =
          zero_at_pivots_is_zero F n k v (times F m (λ s. c (k + s)) e) rows
          (span_same F k v _ (subtract F (zero_vector F) (times F k c v))
          (fun_ext λ j. neg_is F (times F k c v j) (times F m (λ s. c (k + s)) e j) (ap (λ (x : Vector F). x j) (sym (split c) ∙ vanishes))
          ∙ sym (zero-add F (F.neg (times F k c v j))))
          (span_subtract F k v (zero_vector F) (times F k c v) (span_zero F k v) (record { coefficients = c; combines = refl })))
          (λ j pivot. unit_combination_off F m columns (λ s. c (k + s)) j
          (λ t below same. (free.each t below).no_pivot (subst (IsPivot F k v) (sym same) pivot)))

      row_part : (c : Vector F) → times F (k + m) c (stacked F k v e) ≡ zero_vector F → times F k c v ≡ zero_vector F
      row_part c vanishes = fun_ext λ j.
          sym (F.add-zero (times F k c v j)) ∙ ap (F.add (times F k c v j)) (sym (ap (λ (x : Vector F). x j) (unit_part c vanishes)))
          ∙ ap (λ (x : Vector F). x j) (sym (split c) ∙ vanishes)

      at : (c : Vector F) → times F (k + m) c (stacked F k v e) ≡ zero_vector F → (t : ℕ) → t < k + m → Dec (t < k) → c t ≡ F.zero
      at c vanishes t below (yes first) = independent.only_zero c (row_part c vanishes) t first
      at c vanishes t below (no past) =
          let place : k + (t - k) ≡ t = omega arith in
          ap c (sym place) ∙ sym (unit_combination_at F (IsFree F n k v) m columns free (λ s. c (k + s)) (t - k) (omega arith))
          ∙ ap (λ (x : Vector F). x (columns (t - k))) (unit_part c vanishes)

  -- so there are as many free columns as rows are missing
  pub free_columns_count : (n k : ℕ) (v : Matrix F) → HasRowsOfLength F n v → (m : ℕ) (columns : ℕ → ℕ) → IsAscendingListOf (IsFree F n k v) m columns →
      IsIndependent F k v → k + m ≡ n
  free_columns_count n k v rows m columns free independent = omega (arith, at_most, at_least)
    where
      e : Matrix F
      e = unit_vectors F columns

      lengths : (t : ℕ) → t < k + m → HasLength F n (stacked F k v e t)
      lengths = each_stacked F (HasLength F n) k m v e (λ t below. rows t) (λ t below. unit_length F n (columns t) (free.each t below).below)

      at_most : k + m ≤ n
      at_most = exchange F (k + m) (stacked F k v e) n (unit_matrix F n) (extended_independent n k v rows m columns free independent)
          (λ t below. record { coefficients = stacked F k v e t; combines = sym (times_identity F n (stacked F k v e t) (lengths t below)) })

      at_least : n ≤ k + m
      at_least = exchange F n (unit_matrix F n) (k + m) (stacked F k v e) (unit_rows_independent F n)
          (λ t below. extended_spans_all n k v rows m columns free (unit_matrix F n t) ((unit_is_matrix F n).columns t))

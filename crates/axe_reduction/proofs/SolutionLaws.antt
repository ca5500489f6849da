-- The rows of a matrix beside the unit vectors, and reduced rows of one span with them.
use Rattle.std.specs.Prelude.{◌≡◌, ◌≢◌, ℕ, ◌+◌, ◌<◌, ◌≤◌, ◌⊎◌}
use Rattle.axe_algebra.specs.Field.{Field}
use Rattle.axe_algebra.specs.Vectors.{Vector, Matrix, HasRowsOfLength, unit_vector, times}
use Rattle.axe_algebra.specs.Spans.{InSpan, IsIndependent, SpanWithin, IsInvertible}
use Rattle.axe_algebra.proofs.FieldLaws.{zero-mul, mul-zero}
use Rattle.axe_algebra.proofs.Sums.{sum_same, sum_zeros, sum_one, sum_split}
use Rattle.axe_algebra.proofs.ReducedBases.{place_or_none}
use Rattle.axe_algebra.proofs.ProductLaws.{times-at, times_same, times_length, unit_at, unit_off, unit_length}
use Rattle.axe_algebra.proofs.Exchange.{cut, cut_below, cut_length, exchange, square_rows_span}
use Rattle.axe_algebra.proofs.SquareMatrices.{rows_of_invertible}
use mathlib.Core.Logic.{inl, inr}
use mathlib.Core.Path.{refl, sym, ◌∙◌, ap, ap₂, fun_ext}
use native.Mathlib.Decide.{dec_lt, ℕ_discrete}
use native.Mathlib.Omega.{arith}

module _ (F : Field) where
  open F use {Element, zero as 𝟘, one as 𝟙, add as ◌⊕◌, mul as ◌⊗◌}

  infixl 60 ◌⊕◌
  infixl 70 ◌⊗◌
  -- row i of a is row i of x, of length m, and then the unit vector of i
  pub record AreBesideUnits (n m : ℕ) (x a : Matrix F) : Type 0 where
    pub lengths : HasRowsOfLength F m x
    pub left : (i j : ℕ) → i < n → j < m → a i j ≡ x i j
    pub right : (i j : ℕ) → i < n → a i (m + j) ≡ unit_vector F i j

  -- the first k of k + l rows are 1 at their pivots, at which all others are 0; the last l are 0 before column m
  pub record AreReducedBefore (m k l : ℕ) (s : Matrix F) (p : ℕ → ℕ) : Type 0 where
    pub pivots : (t : ℕ) → t < k → p t < m
    pub one : (t : ℕ) → t < k → s t (p t) ≡ 𝟙
    pub zero : (i t : ℕ) → i < k → t < k → i ≢ t → s i (p t) ≡ 𝟘
    pub rest : (t j : ℕ) → t < l → j < m → s (k + t) j ≡ 𝟘

  -- the right part of a combination is its coefficients
  pub right_of_combination : (n m : ℕ) (x a : Matrix F) (c : Vector F) → AreBesideUnits n m x a → (j : ℕ) → j < n → times F n c a (m + j) ≡ c j
  right_of_combination n m x a c beside j below =
      times-at F n c a (m + j)
      ∙ sum_one F n j (λ t. c t ⊗ a t (m + j)) below
      (λ t inside other. ap (λ y. c t ⊗ y) (beside.right t j inside ∙ unit_off F t j other) ∙ mul-zero F (c t))
      ∙ ap (λ y. c j ⊗ y) (beside.right j j below ∙ unit_at F j) ∙ F.mul-one (c j)

  -- its left part is the product of its coefficients with x
  pub left_of_combination : (n m : ℕ) (x a : Matrix F) (c : Vector F) → AreBesideUnits n m x a → (j : ℕ) → j < m →
      times F n c a j ≡ times F n c x j
  left_of_combination n m x a c beside j inside =
      times-at F n c a j
      ∙ sum_same F n (λ t. c t ⊗ a t j) (λ t. c t ⊗ x t j) (λ t below. ap (λ y. c t ⊗ y) (beside.left t j below inside))
      ∙ sym (times-at F n c x j)

  -- so the left part of a vector of the span is its right part times x
  pub left_of_right : (n m : ℕ) (x a : Matrix F) (v w : Vector F) → AreBesideUnits n m x a → InSpan F n a v →
      ((j : ℕ) → j < n → w j ≡ v (m + j)) → (j : ℕ) → j < m → times F n w x j ≡ v j
  left_of_right n m x a v w beside in_span right j inside =
      ap (λ (y : Vector F). y j) (times_same F n w in_span.coefficients x x
      (λ t below. right t below ∙ ap (λ (y : Vector F). y (m + t)) in_span.combines ∙ right_of_combination n m x a in_span.coefficients beside t below)
      (λ t below. refl))
      ∙ sym (left_of_combination n m x a in_span.coefficients beside j inside) ∙ sym (ap (λ (y : Vector F). y j) in_span.combines)

  -- a combination of k + l rows, in two
  pub times_in_two : (k l : ℕ) (d : Vector F) (s : Matrix F) (j : ℕ) →
      times F (k + l) d s j ≡ times F k d s j ⊕ times F l (λ t. d (k + t)) (λ t. s (k + t)) j
  times_in_two k l d s j =
      times-at F (k + l) d s j ∙ sum_split F k l (λ t. d t ⊗ s t j)
      ∙ ap₂ ◌⊕◌ (sym (times-at F k d s j)) (sym (times-at F l (λ t. d (k + t)) (λ t. s (k + t)) j))

  -- before column m the last rows do not count
  pub times_before : (m k l : ℕ) (d : Vector F) (s : Matrix F) (p : ℕ → ℕ) → AreReducedBefore m k l s p → (j : ℕ) → j < m →
      times F (k + l) d s j ≡ times F k d s j
  times_before m k l d s p reduced j inside =
      times_in_two k l d s j
      ∙ ap (λ y. times F k d s j ⊕ y)
      (times-at F l (λ t. d (k + t)) (λ t. s (k + t)) j
      ∙ sum_zeros F l (λ t. d (k + t) ⊗ s (k + t) j)
      (λ t below. ap (λ y. d (k + t) ⊗ y) (reduced.rest t j below inside) ∙ mul-zero F (d (k + t))))
      ∙ F.add-zero (times F k d s j)

  -- at a pivot a combination is the coefficient there
  pub times_at_pivot : (m k l : ℕ) (d : Vector F) (s : Matrix F) (p : ℕ → ℕ) → AreReducedBefore m k l s p → (t : ℕ) → t < k →
      times F k d s (p t) ≡ d t
  times_at_pivot m k l d s p reduced t below =
      times-at F k d s (p t)
      ∙ sum_one F k t (λ i. d i ⊗ s i (p t)) below
      (λ i inside other. ap (λ y. d i ⊗ y) (reduced.zero i t inside below other) ∙ mul-zero F (d i))
      ∙ ap (λ y. d t ⊗ y) (reduced.one t below) ∙ F.mul-one (d t)

  -- the left parts of the first k rows
  pub left_parts : ℕ → Matrix F → Matrix F
  left_parts m s t = cut F m (s t)

  pub times_left_parts : (m k : ℕ) (d : Vector F) (s : Matrix F) (j : ℕ) → j < m → times F k d (left_parts m s) j ≡ times F k d s j
  unfolding left_parts
  times_left_parts m k d s j inside =
      times-at F k d (left_parts m s) j
      ∙ sum_same F k (λ t. d t ⊗ left_parts m s t j) (λ t. d t ⊗ s t j) (λ t below. ap (λ y. d t ⊗ y) (cut_below F m (s t) j inside))
      ∙ sym (times-at F k d s j)

  pub left_parts_length : (m : ℕ) (s : Matrix F) → HasRowsOfLength F m (left_parts m s)
  unfolding left_parts
  left_parts_length m s t = cut_length F m (s t)

  -- they span the rows of x
  pub left_parts_span : (n m k l : ℕ) (x a s : Matrix F) (p : ℕ → ℕ) → AreBesideUnits n m x a → AreReducedBefore m k l s p →
      SpanWithin F n a (k + l) s → SpanWithin F n x k (left_parts m s)
  left_parts_span n m k l x a s p beside reduced within i below = record {
    coefficients = d;
    combines = fun_ext λ j. at j (dec_lt j m);
  }
    where
      d : Vector F
      d = (within i below).coefficients

      at : (j : ℕ) → Dec (j < m) → x i j ≡ times F k d (left_parts m s) j
      at j (yes inside) =
          sym (beside.left i j below inside) ∙ ap (λ (y : Vector F). y j) (within i below).combines
          ∙ times_before m k l d s p reduced j inside ∙ sym (times_left_parts m k d s j inside)
      at j (no past) = beside.lengths i j (omega arith) ∙ sym (times_length F k m d (left_parts m s) (left_parts_length m s) j (omega arith))

  -- an invertible matrix has as many pivots as rows
  pub pivots_of_invertible : (n k l : ℕ) (x a s : Matrix F) (p : ℕ → ℕ) → AreBesideUnits n n x a → AreReducedBefore n k l s p →
      SpanWithin F n a (k + l) s → IsInvertible F n x → n ≤ k
  pivots_of_invertible n k l x a s p beside reduced within invertible =
      exchange F n x k (left_parts n s) (rows_of_invertible F n x invertible) (left_parts_span n n k l x a s p beside reduced within)

  -- n pivots before column n are all of these columns
  pub every_pivot : (n l : ℕ) (s : Matrix F) (p : ℕ → ℕ) (j : ℕ) → AreReducedBefore n n l s p → j < n → (t : ℕ) × (t < n) × (p t ≡ j)
  every_pivot n l s p j reduced below = cases (place_or_none n p j)
    where
      at_pivot : (d : Vector F) (t : ℕ) → t < n → times F n d (left_parts n s) (p t) ≡ d t
      at_pivot d t inside = times_left_parts n n d s (p t) (reduced.pivots t inside) ∙ times_at_pivot n n l d s p reduced t inside

      independent : IsIndependent F n (left_parts n s)
      independent = record {
        only_zero = λ c vanishes t inside. sym (at_pivot c t inside) ∙ ap (λ (y : Vector F). y (p t)) vanishes;
      }

      unit : InSpan F n (left_parts n s) (unit_vector F j)
      unit = square_rows_span F n (left_parts n s) (left_parts_length n s) independent (unit_vector F j) (unit_length F n j below)

      none_vanishes : ((t : ℕ) → t < n → p t ≢ j) → 𝟙 ≡ 𝟘
      none_vanishes none =
          sym (unit_at F j) ∙ ap (λ (y : Vector F). y j) unit.combines ∙ times-at F n unit.coefficients (left_parts n s) j
          ∙ sum_zeros F n (λ t. unit.coefficients t ⊗ left_parts n s t j)
          (λ t inside. ap (λ y. y ⊗ left_parts n s t j)
          (sym (at_pivot unit.coefficients t inside) ∙ sym (ap (λ (y : Vector F). y (p t)) unit.combines)
          ∙ unit_off F j (p t) (λ e. none t inside (sym e)))
          ∙ zero-mul F (left_parts n s t j))

      cases : ((t : ℕ) × (t < n) × (p t ≡ j)) ⊎ ((t : ℕ) → t < n → p t ≢ j) → (t : ℕ) × (t < n) × (p t ≡ j)
      cases (inl found) = found
      cases (inr none) = absurd (F.one-not-zero (none_vanishes none))

  -- where every column is a pivot the right part of the row with pivot j has as its product with x the unit vector of j
  pub right_is_inverse : (n l : ℕ) (x a s : Matrix F) (p : ℕ → ℕ) (t : ℕ) (w : Vector F) → AreBesideUnits n n x a → AreReducedBefore n n l s p →
      t < n → InSpan F n a (s t) → ((j : ℕ) → j < n → w j ≡ s t (n + j)) → times F n w x ≡ unit_vector F (p t)
  right_is_inverse n l x a s p t w beside reduced below in_span right = fun_ext λ j. at j (dec_lt j n)
    where
      at_pivot : (j i : ℕ) → i < n → p i ≡ j → Dec (t ≡ i) → s t j ≡ unit_vector F (p t) j
      at_pivot j i inside e (yes same) =
          ap (s t) (sym e ∙ ap p (sym same)) ∙ reduced.one t below ∙ sym (unit_at F (p t)) ∙ ap (unit_vector F (p t)) (ap p same ∙ e)
      at_pivot j i inside e (no other) =
          ap (s t) (sym e) ∙ reduced.zero t i below inside other
          ∙ sym (unit_off F (p t) (p i) (λ same. F.one-not-zero (sym (reduced.one t below) ∙ ap (s t) same ∙ reduced.zero t i below inside other)))
          ∙ ap (unit_vector F (p t)) e

      by_pivot : (j : ℕ) → (i : ℕ) × (i < n) × (p i ≡ j) → s t j ≡ unit_vector F (p t) j
      by_pivot j (i, inside, e) = at_pivot j i inside e (ℕ_discrete t i)

      at : (j : ℕ) → Dec (j < n) → times F n w x j ≡ unit_vector F (p t) j
      at j (yes inside) = left_of_right n n x a (s t) w beside in_span right j inside ∙ by_pivot j (every_pivot n l s p j reduced inside)
      at j (no past) = times_length F n n w x beside.lengths j (omega arith) ∙ sym (unit_length F n (p t) (reduced.pivots t below) j (omega arith))

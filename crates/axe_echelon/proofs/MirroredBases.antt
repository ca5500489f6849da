-- The reduced basis of all vectors that are orthogonal to some rows when they are read from the last entry to the first.
use Rattle.std.specs.Prelude.{◌≡◌, ◌≢◌, ℕ, zero, suc, ◌+◌, ◌-◌, ◌<◌, ◌≤◌}
use Rattle.axe_algebra.specs.Field.{Field}
use Rattle.axe_algebra.specs.Vectors.{Vector, Matrix, HasLength, HasRowsOfLength, unit_vector}
use Rattle.axe_algebra.specs.Spans.{InSpan}
use Rattle.axe_algebra.specs.Reduced.{IsPivot, IsReducedBasisOf}
use Rattle.axe_algebra.specs.Irreducible.{InAnnihilator}
use Rattle.axe_algebra.proofs.FieldLaws.{zero-mul, mul-zero, other_factor}
use Rattle.axe_algebra.proofs.Sums.{sum_one}
use Rattle.axe_algebra.proofs.ProductLaws.{dot-at, unit_at, unit_off}
use Rattle.axe_algebra.proofs.Spanning.{span_row, same_refl}
use Rattle.axe_algebra.proofs.Spaces.{space_has_span, span_is_space}
use Rattle.axe_algebra.proofs.Annihilators.{annihilator_of_span}
use Rattle.axe_algebra.proofs.Reducing.{IsReducedList}
use Rattle.axe_algebra.proofs.ReducedBases.{basis_of_list}
use Rattle.axe_algebra.proofs.FreeColumns.{pivot_or_not}
use Rattle.axe_echelon.specs.Mirrored.{mirrored, IsOrthogonalMirrored}
use Rattle.axe_echelon.proofs.MirroredLaws.{mirrored_at, mirrored_twice, mirrored_is_space, orthogonal_mirrored_is_space}
use Rattle.axe_echelon.proofs.OrthogonalLaws.{IsReached, orthogonal_spanned}
use mathlib.Core.Path.{sym, ◌∙◌, ap, subst}
use native.Mathlib.Omega.{arith}
use native.Mathlib.Decide.{ℕ_discrete, dec_lt}

-- x is orthogonal to r rows of w, 1 at a column, and 0 at all other columns that are no pivots of them
pub record IsUnitOrthogonal (F : Field) (n r : ℕ) (w : Matrix F) (column : ℕ) (x : Vector F) : Type 0 where
  pub within : InAnnihilator F n r w x
  pub one : x column ≡ F.one
  pub zeros : (j : ℕ) → ¬ (IsPivot F r w j) → j ≢ column → x j ≡ F.zero

-- columns 0 to s - 1 are those before n that are no pivots of w, from the last to the first
pub record AreFreeDescending (F : Field) (n r : ℕ) (w : Matrix F) (s : ℕ) (columns : ℕ → ℕ) : Type 0 where
  pub descending : (i j : ℕ) → i < j → j < s → columns j < columns i
  pub inside : (t : ℕ) → t < s → columns t < n
  pub free : (t : ℕ) → t < s → ¬ (IsPivot F r w (columns t))
  pub all : (j : ℕ) → j < n → ¬ (IsPivot F r w j) → (t : ℕ) × (t < s) × (columns t ≡ j)

module _ (F : Field) (n r : ℕ) (w : Matrix F) (rows : HasRowsOfLength F n w) where
  -- the last entry other than 0 of a vector that is orthogonal to rows is at no pivot of them
  pub last_at_no_pivot : (x : Vector F) (p : ℕ) → InAnnihilator F n r w x → IsPivot F r w p → ((i : ℕ) → p < i → x i ≡ F.zero) → x p ≡ F.zero
  last_at_no_pivot x p within pivot after = at (dec_lt p n)
    where
      b : Vector F
      b = pivot.vector

      term : (i : ℕ) → i < n → i ≢ p → F.mul (b i) (x i) ≡ F.zero
      term i below other = by_side (dec_lt i p)
        where
          by_side : Dec (i < p) → F.mul (b i) (x i) ≡ F.zero
          by_side (yes before) = ap (λ y. F.mul y (x i)) (pivot.leads.before i before) ∙ zero-mul F (x i)
          by_side (no later) = ap (F.mul (b i)) (after i (omega (arith, other))) ∙ mul-zero F (b i)

      at : Dec (p < n) → x p ≡ F.zero
      at (no past) = within.length p (omega arith)
      at (yes inside) = other_factor F (b p) (x p)
          (sym (sum_one F n p (λ i. F.mul (b i) (x i)) inside term) ∙ sym (dot-at F n b x) ∙ annihilator_of_span F n r w x within b pivot.in_span)
          pivot.leads.nonzero

  -- so such a vector that is 0 at all columns but one that are no pivots is 0 after it
  pub zero_after : (column : ℕ) (x : Vector F) → IsUnitOrthogonal F n r w column x → (d p : ℕ) → n ≤ d + p → column < p → x p ≡ F.zero
  zero_after column x unit zero p past above = unit.within.length p (omega arith)
  zero_after column x unit (suc d) p far above =
      by_pivot (pivot_or_not F n r w rows p) (λ i later. zero_after column x unit d i (omega arith) (omega arith))
    where
      by_pivot : Dec (IsPivot F r w p) → ((i : ℕ) → p < i → x i ≡ F.zero) → x p ≡ F.zero
      by_pivot (yes pivot) after = last_at_no_pivot x p unit.within pivot after
      by_pivot (no free) after = unit.zeros p free (λ same. omega (arith, same, above))

  module _ (s : ℕ) (y : Matrix F) (columns : ℕ → ℕ) (free : AreFreeDescending F n r w s columns)
      (lengths : (t : ℕ) → t < s → HasLength F n (y t))
      (units : (t : ℕ) → t < s → IsUnitOrthogonal F n r w (columns t) (mirrored F n (y t))) where
    abbrev p : ℕ → ℕ
    p t = n - 1 - columns t

    at_place : (t j : ℕ) → j < n → y t (n - 1 - j) ≡ mirrored F n (y t) j
    at_place t j below = sym (mirrored_at F n (y t) j below)

    apart : (i j : ℕ) → i < s → j < s → i ≢ j → columns i ≢ columns j
    apart i j first second other same = by_order (dec_lt i j)
      where
        by_order : Dec (i < j) → ⊥
        by_order (yes before) = omega (arith, same, free.descending i j before second)
        by_order (no after) = omega (arith, same, free.descending j i (omega (arith, other)) first)

    reduced_list : IsReducedList F s y p
    reduced_list = record {
      ascending = λ i j before below. omega (arith, free.descending i j before below, free.inside i (omega (arith, before, below)));
      one = λ t below. at_place t (columns t) (free.inside t below) ∙ (units t below).one;
      zero = λ i t first below other. at_place t (columns i) (free.inside i first)
          ∙ (units t below).zeros (columns i) (free.free i first) (apart i t first below other);
      before = λ t i below ahead.
          let inside : i < n = omega (arith, ahead) in
          ap (y t) (let back : i ≡ n - 1 - (n - 1 - i) = omega (arith, inside) in back)
          ∙ at_place t (n - 1 - i) (omega (arith, inside))
          ∙ zero_after (columns t) (mirrored F n (y t)) (units t below) n (n - 1 - i) (omega arith)
          (omega (arith, ahead, free.inside t below));
    }

    -- the vectors themselves, read so, span all that are orthogonal to the rows
    abbrev z : Matrix F
    z = λ t. mirrored F n (y t)

    reached : (j : ℕ) → j < n → ¬ (IsPivot F r w j) → IsReached F r w s z j
    reached j below none = by_column (free.all j below none)
      where
        by_column : (t : ℕ) × (t < s) × (columns t ≡ j) → IsReached F r w s z j
        by_column (t, inside, found) = record {
          vector = z t;
          in_span = span_row F s z t inside;
          free = λ i free_column. at i free_column (ℕ_discrete i j);
        }
          where
            at : (i : ℕ) → ¬ (IsPivot F r w i) → Dec (i ≡ j) → z t i ≡ unit_vector F j i
            at i free_column (yes same) = ap (z t) (same ∙ sym found) ∙ (units t inside).one ∙ sym (ap (unit_vector F j) same ∙ unit_at F j)
            at i free_column (no other) =
                (units t inside).zeros i free_column (λ same. other (same ∙ found)) ∙ sym (unit_off F j i (λ same. other (sym same)))

    pub mirrored_basis : IsReducedBasisOf F (IsOrthogonalMirrored F n r w) s y
    mirrored_basis = record {
      forth = λ x in_span. space_has_span F (IsOrthogonalMirrored F n r w) (orthogonal_mirrored_is_space F n r w) s y
          (λ t below. record { length = lengths t below; orthogonal = (units t below).within }) x in_span;
      back = λ x given. subst (InSpan F s y) (mirrored_twice F n x given.length)
          (space_has_span F (λ v. InSpan F s y (mirrored F n v)) (mirrored_is_space F n (InSpan F s y) (span_is_space F s y)) s z
          (λ t below. subst (InSpan F s y) (sym (mirrored_twice F n (y t) (lengths t below))) (span_row F s y t below))
          (mirrored F n x)
          (orthogonal_spanned F n r w rows s z (λ t below. (units t below).within) reached (mirrored F n x) given.orthogonal));
      reduced = basis_of_list F s y s y p reduced_list (same_refl F s y);
    }

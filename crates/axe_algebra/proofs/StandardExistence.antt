-- A nonzero vector has a standard basis: found row by row, and for each row generator by generator.
use Rattle.std.specs.Prelude.{◌≡◌, ◌≢◌, ℕ, zero, suc, ◌<◌, ◌≤◌, ◌+◌, ◌⊎◌}
use Rattle.axe_algebra.specs.Field.{Field}
use Rattle.axe_algebra.specs.Vectors.{Vector, Matrix, HasLength, HasRowsOfLength, zero_vector, unit_vector}
use Rattle.axe_algebra.specs.Spans.{InSpan, IsIndependent}
use Rattle.axe_algebra.specs.Modules.{Module, HasSquareMatrices, image}
use Rattle.axe_algebra.specs.Standard.{Precedes, InSpanUpTo, IsStandardBasis}
use Rattle.axe_algebra.proofs.ProductLaws.{times_none, times_unit, times_length, times_longer, times_same, unit_off}
use Rattle.axe_algebra.proofs.Skipping.{skip_before, put_in, put_in_at, put_in_skip}
use Rattle.axe_algebra.proofs.Spaces.{independent_at_most}
use Rattle.axe_algebra.proofs.Exchange.{cut, cut_below, cut_length, times_cut, with_row, with_row_at, with_row_before, with_row_length, spanned_or_independent}
use Rattle.axe_algebra.proofs.PairOrder.{precedes_trans, never_precedes_itself, precedes_or_is, precedes_later}
use mathlib.Core.Logic.{inl, inr}
use mathlib.Core.Path.{refl, sym, ◌∙◌, ap, ap₂, subst, subst₂}
use native.Mathlib.Omega.{arith}
use native.Mathlib.Decide.{dec_lt, ℕ_discrete}

-- what holds at m and before m holds up to m
up_to_last : (P : ℕ → Type 0) (m : ℕ) → P m → ((t : ℕ) → t < m → P t) → (t : ℕ) → t < suc m → P t
up_to_last P m last before t below = by_place (ℕ_discrete t m)
  where
    by_place : Dec (t ≡ m) → P t
    by_place (yes e) = subst P (sym e) last
    by_place (no other) = before t (omega arith)

put_in_before : (k x : ℕ) (f : ℕ → ℕ) (t : ℕ) → t < k → put_in k x f t ≡ f t
put_in_before k x f t below = ap (put_in k x f) (sym (skip_before k t below)) ∙ put_in_skip k x f t

-- the rows found when the images up to the pair (r, i) were looked at
record Found (F : Field) (M : Module F) (v : Vector F) (r i : ℕ) : Type 0 where
  size : ℕ
  basis : Matrix F
  rows : ℕ → ℕ
  generators : ℕ → ℕ
  reach : r < size
  first : basis 0 ≡ v
  lengths : HasRowsOfLength F M.dimension basis
  independent : IsIndependent F size basis
  earlier : (t : ℕ) → 0 < t → t < size → rows t < t
  generator-below : (t : ℕ) → 0 < t → t < size → generators t < M.count
  ascending : (s t : ℕ) → 0 < s → s < t → t < size → Precedes (rows s) (generators s) (rows t) (generators t)
  equals : (t : ℕ) → 0 < t → t < size → basis t ≡ image F M (basis (rows t)) (generators t)
  before : (t : ℕ) → 0 < t → t < size → Precedes (rows t) (generators t) r i
  images : (s j : ℕ) → s < size → j < M.count → Precedes s j r i →
      InSpanUpTo F size basis rows generators s j (image F M (basis s) j)

module _ (F : Field) (M : Module F) (v : Vector F) where
  -- the next image is in the span of the rows found
  keep_rows : (r i : ℕ) (found : Found F M v r i) → InSpan F found.size found.basis (image F M (found.basis r) i) → Found F M v r (suc i)
  keep_rows r i found within = record {
    size = found.size;
    basis = found.basis;
    rows = found.rows;
    generators = found.generators;
    reach = found.reach;
    first = found.first;
    lengths = found.lengths;
    independent = found.independent;
    earlier = found.earlier;
    generator-below = found.generator-below;
    ascending = found.ascending;
    equals = found.equals;
    before = λ t positive below. precedes_later (found.rows t) (found.generators t) r i (found.before t positive below);
    images = λ s j below inside precedes. by_place s j below inside (precedes_or_is s j r i precedes);
  }
    where
      here : InSpanUpTo F found.size found.basis found.rows found.generators r i (image F M (found.basis r) i)
      here = record {
        coefficients = within.coefficients;
        combines = within.combines;
        later = λ t positive below precedes. absurd (never_precedes_itself r i
            (precedes_trans r i (found.rows t) (found.generators t) r i precedes (found.before t positive below)));
      }

      by_place : (s j : ℕ) → s < found.size → j < M.count → Precedes s j r i ⊎ ((s ≡ r) × (j ≡ i)) →
          InSpanUpTo F found.size found.basis found.rows found.generators s j (image F M (found.basis s) j)
      by_place s j below inside (inl earlier) = found.images s j below inside earlier
      by_place s j below inside (inr same) =
          subst₂ (λ s j. InSpanUpTo F found.size found.basis found.rows found.generators s j (image F M (found.basis s) j)) (sym same.0) (sym same.1) here

  -- the next image is a new row
  module _ (r i : ℕ) (found : Found F M v r i) where
    new_basis : Matrix F
    new_basis = with_row F found.size found.basis (image F M (found.basis r) i)

    new_rows : ℕ → ℕ
    new_rows = put_in found.size r found.rows

    new_generators : ℕ → ℕ
    new_generators = put_in found.size i found.generators

    basis_before : (t : ℕ) → t < found.size → new_basis t ≡ found.basis t
    unfolding new_basis
    basis_before = with_row_before F found.size found.basis (image F M (found.basis r) i)

    basis_last : new_basis found.size ≡ image F M (found.basis r) i
    unfolding new_basis
    basis_last = with_row_at F found.size found.basis (image F M (found.basis r) i)

    rows_before : (t : ℕ) → t < found.size → new_rows t ≡ found.rows t
    unfolding new_rows
    rows_before = put_in_before found.size r found.rows

    rows_last : new_rows found.size ≡ r
    unfolding new_rows
    rows_last = put_in_at found.size r found.rows

    generators_before : (t : ℕ) → t < found.size → new_generators t ≡ found.generators t
    unfolding new_generators
    generators_before = put_in_before found.size i found.generators

    generators_last : new_generators found.size ≡ i
    unfolding new_generators
    generators_last = put_in_at found.size i found.generators

    -- what holds of the pairs before the new one holds of them among all
    pair_before : (P : ℕ → ℕ → Type 0) (t : ℕ) → t < found.size → P (found.rows t) (found.generators t) → P (new_rows t) (new_generators t)
    pair_before P t below = subst₂ P (sym (rows_before t below)) (sym (generators_before t below))

    pair_last : (P : ℕ → ℕ → Type 0) → P r i → P (new_rows found.size) (new_generators found.size)
    pair_last P = subst₂ P (sym rows_last) (sym generators_last)

    new_equals : (t : ℕ) → 0 < t → t < suc found.size → new_basis t ≡ image F M (new_basis (new_rows t)) (new_generators t)
    new_equals t positive below =
        up_to_last (λ t. 0 < t → new_basis t ≡ image F M (new_basis (new_rows t)) (new_generators t)) found.size
        (λ positive. basis_last ∙ ap₂ (image F M) (sym (basis_before r found.reach) ∙ ap new_basis (sym rows_last)) (sym generators_last))
        (λ t under positive.
        let early = found.earlier t positive under in
        basis_before t under ∙ found.equals t positive under
        ∙ ap₂ (image F M) (sym (basis_before (found.rows t) (omega arith)) ∙ ap new_basis (sym (rows_before t under))) (sym (generators_before t under)))
        t below positive

    new_ascending : (s t : ℕ) → 0 < s → s < t → t < suc found.size → Precedes (new_rows s) (new_generators s) (new_rows t) (new_generators t)
    new_ascending s t positive order below =
        up_to_last (λ t. s < t → Precedes (new_rows s) (new_generators s) (new_rows t) (new_generators t)) found.size
        (λ order. pair_last (Precedes (new_rows s) (new_generators s))
        (pair_before (λ a b. Precedes a b r i) s order (found.before s positive order)))
        (λ t under order. pair_before (Precedes (new_rows s) (new_generators s)) t under
        (pair_before (λ a b. Precedes a b (found.rows t) (found.generators t)) s (omega arith) (found.ascending s t positive order under)))
        t below order

    -- an image in the span of the rows found
    old_image : (s j : ℕ) → s < found.size → InSpanUpTo F found.size found.basis found.rows found.generators s j (image F M (found.basis s) j) →
        InSpanUpTo F (suc found.size) new_basis new_rows new_generators s j (image F M (new_basis s) j)
    old_image s j below up_to = record {
      coefficients = cut F found.size up_to.coefficients;
      combines =
          ap (λ (x : Vector F). image F M x j) (basis_before s below) ∙ up_to.combines ∙ sym (times_cut F found.size up_to.coefficients found.basis)
          ∙ times_same F found.size (cut F found.size up_to.coefficients) (cut F found.size up_to.coefficients) found.basis new_basis
          (λ t under. refl) (λ t under. sym (basis_before t under))
          ∙ sym (times_longer F found.size (suc found.size) (cut F found.size up_to.coefficients) new_basis (omega arith)
          (λ t from under. cut_length F found.size up_to.coefficients t from));
      later = λ t positive under.
          up_to_last (λ t. 0 < t → Precedes s j (new_rows t) (new_generators t) → cut F found.size up_to.coefficients t ≡ F.zero) found.size
          (λ positive precedes. cut_length F found.size up_to.coefficients found.size (omega arith))
          (λ t inside positive precedes.
          cut_below F found.size up_to.coefficients t inside
          ∙ up_to.later t positive inside (subst₂ (Precedes s j) (rows_before t inside) (generators_before t inside) precedes))
          t under positive;
    }

    -- the new row itself
    new_image : InSpanUpTo F (suc found.size) new_basis new_rows new_generators r i (image F M (new_basis r) i)
    new_image = record {
      coefficients = unit_vector F found.size;
      combines =
          ap (λ (x : Vector F). image F M x i) (basis_before r found.reach) ∙ sym basis_last
          ∙ sym (times_unit F (suc found.size) found.size new_basis (omega arith));
      later = λ t positive under.
          up_to_last (λ t. 0 < t → Precedes r i (new_rows t) (new_generators t) → unit_vector F found.size t ≡ F.zero) found.size
          (λ positive precedes. absurd (never_precedes_itself r i (subst₂ (Precedes r i) rows_last generators_last precedes)))
          (λ t inside positive precedes. unit_off F found.size t (omega arith))
          t under positive;
    }

    new_images : (s j : ℕ) → s < suc found.size → j < M.count → Precedes s j r (suc i) →
        InSpanUpTo F (suc found.size) new_basis new_rows new_generators s j (image F M (new_basis s) j)
    new_images s j below inside precedes = by_place (precedes_or_is s j r i precedes)
      where
        by_place : Precedes s j r i ⊎ ((s ≡ r) × (j ≡ i)) →
            InSpanUpTo F (suc found.size) new_basis new_rows new_generators s j (image F M (new_basis s) j)
        by_place (inr same) =
            subst₂ (λ s j. InSpanUpTo F (suc found.size) new_basis new_rows new_generators s j (image F M (new_basis s) j)) (sym same.0) (sym same.1) new_image
        by_place (inl (inl p)) = let reach = found.reach in old_image s j (omega arith) (found.images s j (omega arith) inside (inl p))
        by_place (inl (inr (e, p))) = let reach = found.reach in old_image s j (omega arith) (found.images s j (omega arith) inside (inr (e, p)))

    add_row : HasSquareMatrices F M → i < M.count → IsIndependent F (suc found.size) new_basis → Found F M v r (suc i)
    unfolding new_basis
    add_row is inside independent = record {
      size = suc found.size;
      basis = new_basis;
      rows = new_rows;
      generators = new_generators;
      reach = let reach = found.reach in omega arith;
      first = let reach = found.reach in basis_before 0 (omega arith) ∙ found.first;
      lengths = with_row_length F M.dimension found.size found.basis (image F M (found.basis r) i) found.lengths
          (times_length F M.dimension M.dimension (found.basis r) (M.generator i) (is.square i inside).columns);
      independent = independent;
      earlier = λ t positive below. up_to_last (λ t. 0 < t → new_rows t < t) found.size
          (λ positive. subst (λ k. k < found.size) (sym rows_last) found.reach)
          (λ t under positive. subst (λ k. k < t) (sym (rows_before t under)) (found.earlier t positive under)) t below positive;
      generator-below = λ t positive below. up_to_last (λ t. 0 < t → new_generators t < M.count) found.size
          (λ positive. subst (λ k. k < M.count) (sym generators_last) inside)
          (λ t under positive. subst (λ k. k < M.count) (sym (generators_before t under)) (found.generator-below t positive under)) t below positive;
      ascending = new_ascending;
      equals = new_equals;
      before = λ t positive below. up_to_last (λ t. 0 < t → Precedes (new_rows t) (new_generators t) r (suc i)) found.size
          (λ positive. pair_last (λ a b. Precedes a b r (suc i)) (inr (refl, omega arith)))
          (λ t under positive. pair_before (λ a b. Precedes a b r (suc i)) t under
          (precedes_later (found.rows t) (found.generators t) r i (found.before t positive under))) t below positive;
      images = new_images;
    }

  -- the next image is looked at
  look_at : HasSquareMatrices F M → (r i : ℕ) → i < M.count → Found F M v r i → Found F M v r (suc i)
  unfolding new_basis
  look_at is r i inside found =
      decide (spanned_or_independent F M.dimension found.size found.basis (image F M (found.basis r) i) found.lengths
      (times_length F M.dimension M.dimension (found.basis r) (M.generator i) (is.square i inside).columns) found.independent)
    where
      decide : InSpan F found.size found.basis (image F M (found.basis r) i)
          ⊎ IsIndependent F (suc found.size) (with_row F found.size found.basis (image F M (found.basis r) i)) →
          Found F M v r (suc i)
      decide (inl within) = keep_rows r i found within
      decide (inr independent) = add_row r i found is inside independent

  -- the images of one row under the first i generators
  look_at_row : HasSquareMatrices F M → (r i : ℕ) → i ≤ M.count → Found F M v r 0 → Found F M v r i
  look_at_row is r zero within found = found
  look_at_row is r (suc i) within found = look_at is r i (omega arith) (look_at_row is r i (omega arith) found)

  -- a row whose images are all looked at is the last, or the next one is looked at
  next_row : (r : ℕ) (found : Found F M v r M.count) → suc r < found.size → Found F M v (suc r) 0
  next_row r found reach = record {
    size = found.size;
    basis = found.basis;
    rows = found.rows;
    generators = found.generators;
    reach = reach;
    first = found.first;
    lengths = found.lengths;
    independent = found.independent;
    earlier = found.earlier;
    generator-below = found.generator-below;
    ascending = found.ascending;
    equals = found.equals;
    before = λ t positive below. inl (below_next (found.rows t) (found.generators t) (found.before t positive below));
    images = λ s j below inside precedes. found.images s j below inside (earlier_row s j inside precedes);
  }
    where
      below_next : (a b : ℕ) → Precedes a b r M.count → a < suc r
      below_next a b (inl p) = omega arith
      below_next a b (inr (e, p)) = omega arith

      earlier_row : (s j : ℕ) → j < M.count → Precedes s j (suc r) 0 → Precedes s j r M.count
      earlier_row s j inside (inr (e, p)) = absurd (omega arith)
      earlier_row s j inside (inl p) = by_place (ℕ_discrete s r)
        where
          by_place : Dec (s ≡ r) → Precedes s j r M.count
          by_place (yes e) = inr (e, inside)
          by_place (no other) = inl (omega arith)

  all_found : (r : ℕ) (found : Found F M v r M.count) → ¬ (suc r < found.size) → IsStandardBasis F M v found.size found.basis
  all_found r found last = record {
    nonempty = let reach = found.reach in omega arith;
    first = found.first;
    independent = found.independent;
    rows = found.rows;
    generators = found.generators;
    earlier = found.earlier;
    generator-below = found.generator-below;
    ascending = found.ascending;
    equals = found.equals;
    images = λ s j below inside. found.images s j below inside (by_place s j below inside (ℕ_discrete s r));
  }
    where
      by_place : (s j : ℕ) → s < found.size → j < M.count → Dec (s ≡ r) → Precedes s j r M.count
      by_place s j below inside (yes e) = inr (e, inside)
      by_place s j below inside (no other) = inl (omega arith)

  -- row after row, at most as many as the dimension
  search_rows : HasSquareMatrices F M → (rounds r : ℕ) → M.dimension ≤ r + rounds → Found F M v r 0 →
      (m : ℕ) × (b : Matrix F) × HasRowsOfLength F M.dimension b × IsStandardBasis F M v m b
  search_rows is zero r within found =
      let most = independent_at_most F M.dimension found.size found.basis found.lengths found.independent in
      let reach = found.reach in
      absurd (omega arith)
  search_rows is (suc rounds) r within found = decide (search_rows is rounds (suc r) (omega arith)) (look_at_row is r M.count (omega arith) found)
    where
      decide : (Found F M v (suc r) 0 → (m : ℕ) × (b : Matrix F) × HasRowsOfLength F M.dimension b × IsStandardBasis F M v m b) → Found F M v r M.count →
          (m : ℕ) × (b : Matrix F) × HasRowsOfLength F M.dimension b × IsStandardBasis F M v m b
      decide more row = by_size (dec_lt (suc r) row.size)
        where
          by_size : Dec (suc r < row.size) → (m : ℕ) × (b : Matrix F) × HasRowsOfLength F M.dimension b × IsStandardBasis F M v m b
          by_size (yes reach) = more (next_row r row reach)
          by_size (no last) = (row.size, row.basis, row.lengths, all_found r row last)

  -- the vector alone
  start : IsIndependent F 1 (with_row F 0 (λ t. zero_vector F) v) → HasLength F M.dimension v → Found F M v 0 0
  start independent length = record {
    size = 1;
    basis = with_row F 0 (λ t. zero_vector F) v;
    rows = λ t. 0;
    generators = λ t. 0;
    reach = omega arith;
    first = with_row_at F 0 (λ t. zero_vector F) v;
    lengths = with_row_length F M.dimension 0 (λ t. zero_vector F) v (λ t j past. refl) length;
    independent = independent;
    earlier = λ t positive below. absurd (omega arith);
    generator-below = λ t positive below. absurd (omega arith);
    ascending = λ s t positive order below. absurd (omega arith);
    equals = λ t positive below. absurd (omega arith);
    before = λ t positive below. absurd (omega arith);
    images = λ s j below inside precedes. absurd (none s j precedes);
  }
    where
      none : (s j : ℕ) → ¬ (Precedes s j 0 0)
      none s j (inl p) = omega arith
      none s j (inr (e, p)) = omega arith

  -- a nonzero vector has a standard basis
  pub standard_basis_exists : HasSquareMatrices F M → HasLength F M.dimension v → v ≢ zero_vector F → (m : ℕ) × (b : Matrix F) × HasRowsOfLength F M.dimension b × IsStandardBasis F M v m b
  standard_basis_exists is length nonzero =
      decide (spanned_or_independent F M.dimension 0 (λ t. zero_vector F) v (λ t j past. refl) length
      (record { only_zero = λ c vanishes t below. absurd (omega arith) }))
    where
      decide : InSpan F 0 (λ t. zero_vector F) v ⊎ IsIndependent F 1 (with_row F 0 (λ t. zero_vector F) v) →
          (m : ℕ) × (b : Matrix F) × HasRowsOfLength F M.dimension b × IsStandardBasis F M v m b
      decide (inl within) = absurd (nonzero (within.combines ∙ times_none F within.coefficients (λ t. zero_vector F)))
      decide (inr independent) = search_rows is M.dimension 0 (omega arith) (start independent length)

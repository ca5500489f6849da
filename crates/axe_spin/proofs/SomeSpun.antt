-- Every seed that is not refused has rows that spinning gives.
use Rattle.std.specs.Prelude.{◌≡◌, ℕ, zero, suc, ◌<◌, ◌≤◌, ◌⊎◌, ◌==◌, List, [], length, get_or, Bool, true, false}
use Rattle.std.specs.List.{list_all}
use Rattle.std.proofs.lemmas.Bool.{true≢false}
use Rattle.axe_algebra.specs.NumberField.{NumberField}
use Rattle.axe_algebra.specs.Bridge.{field_of, matrix_of}
use Rattle.axe_algebra.specs.Lists.{IsVectorOver, IsMatrixOver, IsModuleOver}
use Rattle.axe_algebra.specs.ModulesOfLists.{IsGeneratedBasis, IsStandardBasis}
use Rattle.axe_algebra.proofs.ReducedBases.{reduced_independent}
use Rattle.axe_algebra.proofs.ListEntries.{row_over}
use Rattle.axe_algebra.proofs.ListSpans.{independent_rows_are_few}
use Rattle.axe_algebra.proofs.ListExistence.{standard_rows, generated_basis_list}
use Rattle.axe_field.specs.NumberFields.{number_field}
use Rattle.axe_row.specs.Operations.{IsZeroVector}
use Rattle.axe_matrix.specs.Limits.{most_columns}
use Rattle.axe_matrix.specs.Matrices.{MatrixValue, IsMatrix, has_only_zeros}
use Rattle.axe_matrix.proofs.OnlyZeros.{zeros_pass, passed_zeros, only_zeros}
use Rattle.axe_echelon.proofs.EliminationLaws.{zero_row_of_vector}
use Rattle.axe_echelon.proofs.SomeMatrix.{matrix_of_rows_over}
use Rattle.axe_spin.specs.Modules.{ModuleValue}
use Rattle.axe_spin.specs.Spinning.{IsFirstNonzeroRow, HasSpunRows}
use Rattle.axe_spin.proofs.SeedLaws.{IsSeed, vectors_over}
use mathlib.Core.Logic.{inl, inr}
use mathlib.Core.Path.{refl, sym, ◌∙◌, subst}
use native.Mathlib.Omega.{arith}
use native.Mathlib.Decide.{ℕ_discrete}

-- whether a row is zero is decided
pub zero_or_not : (v : List ℕ) → Dec (IsZeroVector v)
zero_or_not v = cases (list_all (λ number. number == 0) v) refl
  where
    cases : (passes : Bool) → list_all (λ number. number == 0) v ≡ passes → Dec (IsZeroVector v)
    cases true pass = yes (passed_zeros v pass)
    cases false fail = no (λ zeros. true≢false (sym (zeros_pass v zeros) ∙ fail))

-- a row that is not zero, and all rows before it zero
FirstBelow : List (List ℕ) → ℕ → Type 0
FirstBelow rows n =
    (i : ℕ) × (i < n) × (¬ (IsZeroVector (get_or rows i []))) × ((j : ℕ) → j < i → IsZeroVector (get_or rows j []))

first_below : (rows : List (List ℕ)) (n : ℕ) → ((j : ℕ) → j < n → IsZeroVector (get_or rows j [])) ⊎ FirstBelow rows n
unfolding FirstBelow
first_below rows zero = inl (λ j below. absurd (omega arith))
first_below rows (suc n) = cases (first_below rows n) (zero_or_not (get_or rows n []))
  where
    at : ((j : ℕ) → j < n → IsZeroVector (get_or rows j [])) → IsZeroVector (get_or rows n []) → (j : ℕ) → j < suc n → Dec (j ≡ n) →
        IsZeroVector (get_or rows j [])
    at before here j below (yes e) = subst (λ k. IsZeroVector (get_or rows k [])) (sym e) here
    at before here j below (no other) = before j (omega arith)

    later : (i : ℕ) × (i < n) × (¬ (IsZeroVector (get_or rows i []))) × ((j : ℕ) → j < i → IsZeroVector (get_or rows j [])) → FirstBelow rows (suc n)
    later (i, below, nonzero, before) = (i, omega arith, nonzero, before)

    cases : ((j : ℕ) → j < n → IsZeroVector (get_or rows j [])) ⊎ FirstBelow rows n → Dec (IsZeroVector (get_or rows n [])) →
        ((j : ℕ) → j < suc n → IsZeroVector (get_or rows j [])) ⊎ FirstBelow rows (suc n)
    cases (inl before) (yes here) = inl (λ j below. at before here j below (ℕ_discrete j n))
    cases (inl before) (no nonzero) = inr (n, omega arith, nonzero, before)
    cases (inr found) _ = inr (later found)

-- a matrix that has not only zeros has a first row that is not zero
pub first_nonzero_row : (m : MatrixValue) → has_only_zeros m.rows ≡ false → (i : ℕ) × IsFirstNonzeroRow m i
unfolding FirstBelow
first_nonzero_row m nonzero = cases (first_below m.rows (length m.rows))
  where
    cases : ((j : ℕ) → j < length m.rows → IsZeroVector (get_or m.rows j [])) ⊎ FirstBelow m.rows (length m.rows) → (i : ℕ) × IsFirstNonzeroRow m i
    cases (inl zeros) = absurd (true≢false (sym (only_zeros m.rows zeros) ∙ nonzero))
    cases (inr (i, below, other, before)) = (i, record { below = below; nonzero = other; zeros_before = before })

-- ---- the rows that spinning gives

pub some_spun_matrix : (standard : Bool) (m : ModuleValue) (seed : MatrixValue) → IsModuleOver (number_field m.order) m.dim m.generators → m.dim ≤ most_columns →
    IsMatrix seed → IsSeed m seed →
    (rows : MatrixValue) × (HasSpunRows standard m seed rows × IsMatrix rows)
some_spun_matrix false m seed is fits well taken =
    from (generated_basis_list K m.dim m.generators is.square seed.rows (vectors_over m seed taken.field taken.columns well))
  where
    K : NumberField
    K = number_field m.order

    from : (basis : List (List ℕ)) × IsMatrixOver K m.dim basis × IsGeneratedBasis K m.dim m.generators seed.rows basis →
        (rows : MatrixValue) × (HasSpunRows false m seed rows × IsMatrix rows)
    from (basis, over, generated) = (
      record { order = m.order; cols = m.dim; rows = basis },
      (
        record { field = refl; columns = refl; basis_of_generated = generated },
        matrix_of_rows_over m.order m.dim basis (omega (arith, is.positive)) (omega (arith, fits)) (omega (
          arith,
          fits,
          independent_rows_are_few K m.dim basis over
              (reduced_independent (field_of K) (length basis) (matrix_of K basis) (length basis) (matrix_of K basis) generated.reduced),
        )) over,
      ),
    )
some_spun_matrix true m seed is fits well taken = at (first_nonzero_row seed taken.nonzero)
  where
    K : NumberField
    K = number_field m.order

    at : (i : ℕ) × IsFirstNonzeroRow seed i → (rows : MatrixValue) × (HasSpunRows true m seed rows × IsMatrix rows)
    at (i, first) = from (standard_rows K m.dim m.generators is.square (get_or seed.rows i []) of_row.length_is
        (λ e. first.nonzero (zero_row_of_vector K m.dim (get_or seed.rows i []) of_row e)))
      where
        of_row : IsVectorOver K m.dim (get_or seed.rows i [])
        of_row = row_over K m.dim seed.rows i (vectors_over m seed taken.field taken.columns well) first.below

        from : (rows : List (List ℕ)) × IsMatrixOver K m.dim rows × IsStandardBasis K m.dim m.generators (get_or seed.rows i []) rows →
            (rows : MatrixValue) × (HasSpunRows true m seed rows × IsMatrix rows)
        from (rows, over, standard) = (
          record { order = m.order; cols = m.dim; rows = rows },
          (
            (i, first, record { field = refl; columns = refl; standard = standard }),
            matrix_of_rows_over m.order m.dim rows (omega (arith, is.positive)) (omega (arith, fits))
                (omega (arith, fits, independent_rows_are_few K m.dim rows over standard.independent)) over,
          ),
        )

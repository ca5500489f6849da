-- What spinning gives is a basis of a submodule.
use Rattle.std.specs.Prelude.{◌≡◌, ℕ, ◌<◌, List, [], length, get_or, Bool, true, false, None}
use Rattle.std.proofs.lemmas.Bool.{true≢false}
use Rattle.axe_algebra.specs.NumberField.{NumberField}
use Rattle.axe_algebra.specs.Field.{Field}
use Rattle.axe_algebra.specs.Bridge.{field_of, vector_of, matrix_of, module_of}
use Rattle.axe_algebra.specs.Lists.{IsMatrixOver}
use Rattle.axe_algebra.specs.SpansOfLists.{IsIndependent, IsSpanned}
use Rattle.axe_algebra.proofs.ListEntries.{row_over}
use Rattle.axe_algebra.proofs.ReducedBases.{reduced_independent}
use Rattle.axe_algebra.proofs.StandardBases.{standard_basis_is_invariant}
use Rattle.axe_algebra.proofs.ListGenerated.{seed_row_generated, generated_is_invariant_span}
use Rattle.axe_field.specs.NumberFields.{number_field}
use Rattle.axe_matrix.specs.Matrices.{MatrixValue, IsMatrix, has_only_zeros}
use Rattle.axe_matrix.proofs.OnlyZeros.{only_zeros, row_of_zeros}
use Rattle.axe_echelon.proofs.EliminationLaws.{zero_row_of_vector, vector_of_zero_row}
use Rattle.axe_spin.specs.Modules.{ModuleValue, HasSquareGenerators}
use Rattle.axe_spin.specs.Spinning.{seed_refusal, IsGeneratedMatrix, HasSpunRows, IsSubmoduleBasis}
use Rattle.axe_spin.proofs.ZeroRows.{spanned_by_zeros, false_if_absurd}
use Rattle.axe_spin.proofs.SeedLaws.{IsSeed, seed_if_not_refused, vectors_over}
use mathlib.Core.Path.{sym, ◌∙◌, subst}

-- a seed that is spanned by rows that are zero has only zeros
zero_seed : (K : NumberField) (n : ℕ) (seed rows : List (List ℕ)) → IsMatrixOver K n seed → has_only_zeros rows ≡ true →
    ((t : ℕ) → t < length seed → IsSpanned K rows (get_or seed t [])) → has_only_zeros seed ≡ true
zero_seed K n seed rows over zeros spanned =
    only_zeros seed (λ t below. spanned_by_zeros K n rows (get_or seed t []) zeros (row_over K n seed t over below) (spanned t below))

-- rows that a seed generates are a basis of a submodule
pub generated_is_submodule : (m : ModuleValue) (seed rows : MatrixValue) → HasSquareGenerators m → IsMatrix seed → IsSeed m seed → IsGeneratedMatrix m seed rows →
    IsSubmoduleBasis m rows
generated_is_submodule m seed rows square well taken generated = record {
  field = generated.field;
  columns = generated.columns;
  independent = subst (λ o. IsIndependent (number_field o) rows.rows) (sym generated.field)
      (reduced_independent F (length rows.rows) (matrix_of K rows.rows) (length rows.rows) (matrix_of K rows.rows) generated.basis_of_generated.reduced);
  invariant = generated_is_invariant_span K m.dim m.generators square seed.rows rows.rows
      (record { forth = generated.basis_of_generated.forth; back = generated.basis_of_generated.back });
  nonzero = false_if_absurd (has_only_zeros rows.rows) (λ zeros. true≢false (sym (zero_seed K m.dim seed.rows rows.rows over zeros
      (λ t below. generated.basis_of_generated.back (vector_of K (get_or seed.rows t [])) (seed_row_generated K m.dim m.generators seed.rows t over below)))
      ∙ taken.nonzero));
}
  where
    K : NumberField
    K = number_field m.order

    F : Field
    F = field_of K

    over : IsMatrixOver K m.dim seed.rows
    over = vectors_over m seed taken.field taken.columns well

-- and so are those of a standard basis
pub spun_is_submodule : (standard : Bool) (m : ModuleValue) (seed rows : MatrixValue) → HasSquareGenerators m → IsMatrix seed → seed_refusal m seed ≡ None →
    HasSpunRows standard m seed rows → IsSubmoduleBasis m rows
spun_is_submodule false m seed rows square well accepted generated =
    generated_is_submodule m seed rows square well (seed_if_not_refused m seed accepted) generated
spun_is_submodule true m seed rows square well accepted (i, first, standard) = record {
  field = standard.field;
  columns = standard.columns;
  independent = subst (λ o. IsIndependent (number_field o) rows.rows) (sym standard.field) standard.standard.independent;
  invariant = standard_basis_is_invariant F (module_of K m.dim m.generators) (vector_of K (get_or seed.rows i [])) (length rows.rows) (matrix_of K rows.rows)
      standard.standard;
  nonzero = false_if_absurd (has_only_zeros rows.rows) (λ zeros. first.nonzero (zero_row_of_vector K m.dim (get_or seed.rows i []) (row_over K m.dim seed.rows i over first.below)
      (sym standard.standard.first ∙ vector_of_zero_row K (get_or rows.rows 0 []) (row_of_zeros rows.rows 0 zeros standard.standard.nonempty))));
}
  where
    K : NumberField
    K = number_field m.order

    F : Field
    F = field_of K

    taken : IsSeed m seed
    taken = seed_if_not_refused m seed accepted

    over : IsMatrixOver K m.dim seed.rows
    over = vectors_over m seed taken.field taken.columns well

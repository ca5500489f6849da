-- When the standard basis of a point gives a form's matrices; what a match and no match show.
use Rattle.std.proofs.Common.{◌≡◌, ℕ, List, length, sym, subst, ◌∙◌}
use Rattle.axe_algebra.specs.Field.{Field}
use Rattle.axe_algebra.specs.NumberField.{NumberField}
use Rattle.axe_algebra.specs.Vectors.{HasLength}
use Rattle.axe_algebra.specs.Modules.{Module}
use Rattle.axe_algebra.specs.Actions
use Rattle.axe_algebra.specs.Standard
use Rattle.axe_algebra.specs.Standard.{AreStandardMatrices}
use Rattle.axe_algebra.specs.Bridge.{field_of, vector_of, matrix_of, module_of}
use Rattle.axe_algebra.specs.Lists.{IsMatrixOver, IsSquareOver}
use Rattle.axe_algebra.specs.ModulesOfLists.{IsStandardBasis, IsSubAction, IsIsomorphism}
use Rattle.axe_algebra.proofs.FormMatches.{standard_matrices_act}
use Rattle.axe_algebra.proofs.Isomorphisms.{standard_basis_is_isomorphism}
use Rattle.axe_algebra.proofs.StandardBases.{standard_basis_size_is_unique}
use Rattle.axe_algebra.proofs.ListEntries.{square_shape}
use Rattle.axe_algebra.proofs.ListModules.{module_shape}
use Rattle.std.specs.List.{All}

module _ (K : NumberField) (n : ℕ) (generators : List (List (List ℕ))) (v : List ℕ) (rows : List (List ℕ)) (dim : ℕ) (matrices : List (List (List ℕ)))
    (same : dim ≡ n) (standard : IsStandardBasis K n generators v rows) where
  abbrev F : Field
  F = field_of K

  abbrev N : Module F
  N = module_of K n generators

  -- a square standard basis on which the matrices act makes them the standard matrices
  pub standard_matrices_of_action : length rows ≡ n → IsSubAction K n generators rows matrices →
      AreStandardMatrices F N (vector_of K v) (module_of K dim matrices)
  standard_matrices_of_action square acts = record {
    size = length rows;
    basis = matrix_of K rows;
    standard = standard;
    acts = subst (λ k. Actions.IsSubAction F N (length rows) (matrix_of K rows) (module_of K k matrices)) (square ∙ sym same) acts;
  }

  -- and the other way round
  pub rows_of_standard_matrices : AreStandardMatrices F N (vector_of K v) (module_of K dim matrices) → length rows ≡ n
  rows_of_standard_matrices S = sym size ∙ sym S.acts.dimension ∙ same
    where
      size : S.size ≡ length rows
      size = standard_basis_size_is_unique F N (vector_of K v) S.size (length rows) S.basis (matrix_of K rows) S.standard standard

  pub action_of_standard_matrices : AreStandardMatrices F N (vector_of K v) (module_of K dim matrices) → IsSubAction K n generators rows matrices
  action_of_standard_matrices S =
      subst (λ k. Actions.IsSubAction F N (length rows) (matrix_of K rows) (module_of K k matrices)) (same ∙ sym (rows_of_standard_matrices S))
      (standard_matrices_act F N (module_of K dim matrices) (vector_of K v) (length rows) (matrix_of K rows) standard S)

  -- a match is an isomorphism
  pub isomorphism_of_action : All (IsSquareOver K n) generators → HasLength F n (vector_of K v) → IsMatrixOver K n rows → length rows ≡ n →
      IsSubAction K n generators rows matrices → IsIsomorphism K n matrices generators rows
  isomorphism_of_action squares long over square acts = record {
    square = is_square;
    isomorphism = standard_basis_is_isomorphism F N (vector_of K v) (module_shape K n generators squares) long (matrix_of K rows) (module_of K n matrices)
        (square_shape K n rows is_square)
        (subst (λ k. Standard.IsStandardBasis F N (vector_of K v) k (matrix_of K rows)) square standard)
        (subst (λ k. Actions.IsSubAction F N k (matrix_of K rows) (module_of K k matrices)) square acts);
  }
    where
      is_square : IsSquareOver K n rows
      is_square = record { length_is = square; matrix = over }

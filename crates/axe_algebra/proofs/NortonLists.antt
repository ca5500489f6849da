-- Null spaces of square lists and of their transposes, and the spaces that one vector generates, by their reduced bases.
use Rattle.std.specs.Prelude.{◌≡◌, ◌≢◌, ℕ, ◌<◌, List, [], ◌∷◌, length, ◌↔◌}
use Rattle.std.specs.List.{All}
use Rattle.std.proofs.lemmas.List.Elements.{All-nil, All-cons}
use Rattle.axe_algebra.specs.NumberField.{NumberField}
use Rattle.axe_algebra.specs.Field.{Field}
use Rattle.axe_algebra.specs.Vectors.{Vector, Matrix, HasLength, zero_vector, unit_vector, unit_matrix, times}
use Rattle.axe_algebra.specs.Spans
use Rattle.axe_algebra.specs.Modules
use Rattle.axe_algebra.specs.Modules.{Module}
use Rattle.axe_algebra.specs.Bridge.{field_of, vector_of, matrix_of, module_of}
use Rattle.axe_algebra.specs.Lists.{IsVectorOver, IsMatrixOver, IsSquareOver}
use Rattle.axe_algebra.specs.ListArithmetic.{transpose, transposed_generators}
use Rattle.axe_algebra.specs.SpansOfLists.{IsIndependent, IsNullSpaceBasis, IsAnnihilatorBasis}
use Rattle.axe_algebra.specs.ModulesOfLists.{IsInvariant, Generates, IsGeneratedBasis, GeneratesEverything}
use Rattle.axe_algebra.specs.NortonTheorems.{SpansAnnihilator}
use Rattle.axe_algebra.proofs.ProductLaws.{unit_is_matrix, unit_at, times_unit, times_none, times_zero_rows}
use Rattle.axe_algebra.proofs.Spanning.{span_row}
use Rattle.axe_algebra.proofs.Exchange.{exchange}
use Rattle.axe_algebra.proofs.SquareMatrices.{null_space_criterion}
use Rattle.axe_algebra.proofs.ReducedBases.{reduced_independent}
use Rattle.axe_algebra.proofs.Annihilators.{annihilator_rows_are_proper, annihilator_rows_are_nonzero}
use Rattle.axe_algebra.proofs.Duality.{annihilator_of_transposed_span}
use Rattle.axe_algebra.proofs.Isomorphisms.{unit_rows_independent}
use Rattle.axe_algebra.proofs.ListEntries.{rows_length, square_shape}
use Rattle.axe_algebra.proofs.ListProducts.{transpose_over}
use Rattle.axe_algebra.proofs.ListSpans.{independent_rows_are_few, enough_rows_span}
use Rattle.axe_algebra.proofs.ListModules.{module_shape, module_of_transposes}
use Rattle.axe_algebra.proofs.ListGenerated.{seed_row_generated, generated_is_invariant_span, generates_everything, everything_is_full}
use Rattle.axe_algebra.proofs.ListIrreducible.{transpose_length}
use mathlib.Core.Path.{sym, ◌∙◌, ap, subst}
use native.Mathlib.Omega.{arith}
use native.Mathlib.Decide.{dec_lt, ℕ_discrete}

module _ (K : NumberField) where
  abbrev F : Field
  F = field_of K

  -- independent rows are other than zero
  pub independent_row_is_nonzero : (rows : List (List ℕ)) (t : ℕ) → IsIndependent K rows → t < length rows → matrix_of K rows t ≢ zero_vector F
  independent_row_is_nonzero rows t independent below zero =
      F.one-not-zero (sym (unit_at F t)
      ∙ independent.only_zero (unit_vector F t) (times_unit F (length rows) t (matrix_of K rows) below ∙ zero) t below)

  -- no rows span zero alone
  spanned_by_none : (rows : List (List ℕ)) (x : Vector F) → length rows ≡ 0 → Spans.InSpan F (length rows) (matrix_of K rows) x → x ≡ zero_vector F
  spanned_by_none rows x none in_span =
      in_span.combines ∙ ap (λ k. times F k in_span.coefficients (matrix_of K rows)) none ∙ times_none F in_span.coefficients (matrix_of K rows)

  -- rows that span everything are n at least
  everything_needs_rows : (n : ℕ) (rows : List (List ℕ)) → ((x : Vector F) → HasLength F n x → Spans.InSpan F (length rows) (matrix_of K rows) x) →
      ¬ (length rows < n)
  everything_needs_rows n rows all few =
      let bound = exchange F n (unit_matrix F n) (length rows) (matrix_of K rows) (unit_rows_independent F n)
      (λ t below. all (unit_matrix F n t) ((unit_is_matrix F n).columns t)) in
      omega arith

  null_basis_independent : (x null : List (List ℕ)) → IsNullSpaceBasis K x null → IsIndependent K null
  null_basis_independent x null basis = reduced_independent F (length null) (matrix_of K null) (length null) (matrix_of K null) basis.reduced

  -- a square matrix is invertible exactly where the basis of its null space has no rows
  pub invertible_without_null_rows : (n : ℕ) (x null : List (List ℕ)) → IsSquareOver K n x → IsNullSpaceBasis K x null → length null ≡ 0 →
      Spans.IsInvertible F n (matrix_of K x)
  invertible_without_null_rows n x null square basis none =
      (null_space_criterion F n (matrix_of K x) (square_shape K n x square)).1
      (λ v is_null. spanned_by_none null v none (basis.back v (subst (λ k. Spans.IsNullVector F k (matrix_of K x) v) (sym square.length_is) is_null)))

  pub no_null_rows_of_invertible : (n : ℕ) (x null : List (List ℕ)) → IsSquareOver K n x → IsNullSpaceBasis K x null →
      Spans.IsInvertible F n (matrix_of K x) → length null ≡ 0
  no_null_rows_of_invertible n x null square basis invertible = by_size (ℕ_discrete (length null) 0)
    where
      by_size : Dec (length null ≡ 0) → length null ≡ 0
      by_size (yes none) = none
      by_size (no some) =
          let first : 0 < length null = omega arith in
          absurd (independent_row_is_nonzero null 0 (null_basis_independent x null basis) first
          ((null_space_criterion F n (matrix_of K x) (square_shape K n x square)).0 invertible (matrix_of K null 0)
          (subst (λ k. Spans.IsNullVector F k (matrix_of K x) (matrix_of K null 0)) square.length_is
          (basis.forth (matrix_of K null 0) (span_row F (length null) (matrix_of K null) 0 first)))))

  -- the transpose of a square matrix is square
  pub transpose_square : (n : ℕ) (x : List (List ℕ)) → IsSquareOver K n x → IsSquareOver K n (transpose n x)
  transpose_square n x square = record {
    length_is = transpose_length n x;
    matrix = subst (λ k. IsMatrixOver K k (transpose n x)) square.length_is (transpose_over K n x square.matrix);
  }

  -- the null space of the zero matrix is everything
  pub null_space_of_zero : (n : ℕ) (x null : List (List ℕ)) → IsSquareOver K n x → matrix_of K x ≡ (λ i j. F.zero) → IsMatrixOver K n null →
      IsNullSpaceBasis K x null → length null ≡ n
  null_space_of_zero n x null square is_zero over basis =
      let most = independent_rows_are_few K n null over (null_basis_independent x null basis) in
      let least = everything_needs_rows n null all in
      omega arith
    where
      all : (v : Vector F) → HasLength F n v → Spans.InSpan F (length null) (matrix_of K null) v
      all v long = basis.back v (record {
        length = subst (λ k. HasLength F k v) (sym square.length_is) long;
        vanishes = times_zero_rows F (length x) v (matrix_of K x) (λ t below. ap (λ (a : Matrix F). a t) is_zero);
      })

  module _ (n : ℕ) (generators : List (List (List ℕ))) where
    -- the rows are a basis of a nonzero space of vectors of the module that is invariant
    pub record IsSubmoduleBasis (rows : List (List ℕ)) : Type 0 where
      pub over : IsMatrixOver K n rows
      pub independent : IsIndependent K rows
      pub invariant : IsInvariant K n generators rows
      pub some : 0 < length rows

    generates_of_basis : (seed basis : List (List ℕ)) → IsGeneratedBasis K n generators seed basis → Generates K n generators seed basis
    generates_of_basis seed basis is = record { forth = is.forth; back = is.back }

    -- the basis of what a nonzero vector generates
    pub generated_submodule : All (IsSquareOver K n) generators → (v : List ℕ) (basis : List (List ℕ)) → IsVectorOver K n v → vector_of K v ≢ zero_vector F →
        IsMatrixOver K n basis → IsGeneratedBasis K n generators (v ∷ []) basis → IsSubmoduleBasis basis
    generated_submodule square v basis over_v nonzero over is = record {
      over = over;
      independent = reduced_independent F (length basis) (matrix_of K basis) (length basis) (matrix_of K basis) is.reduced;
      invariant = generated_is_invariant_span K n generators square (v ∷ []) basis (generates_of_basis (v ∷ []) basis is);
      some = by_size (dec_lt 0 (length basis));
    }
      where
        over_seed : IsMatrixOver K n (v ∷ [])
        over_seed = All-cons (IsVectorOver K n) v [] over_v (All-nil (IsVectorOver K n))

        by_size : Dec (0 < length basis) → 0 < length basis
        by_size (yes has) = has
        by_size (no has_none) =
            absurd (nonzero (spanned_by_none basis (vector_of K v) (omega arith)
            (is.back (vector_of K v) (seed_row_generated K n generators (v ∷ []) 0 over_seed (omega arith)))))

    -- it has n rows exactly where the vector generates everything
    pub generated_basis_is_full : (v : List ℕ) (basis : List (List ℕ)) → IsMatrixOver K n basis → IsGeneratedBasis K n generators (v ∷ []) basis →
        GeneratesEverything K n generators v ↔ (length basis ≡ n)
    generated_basis_is_full v basis over is =
        let independent = reduced_independent F (length basis) (matrix_of K basis) (length basis) (matrix_of K basis) is.reduced in
        let spans = generates_of_basis (v ∷ []) basis is in
        (everything_is_full K n generators v basis over spans independent, generates_everything K n generators v basis over spans independent)

    -- the annihilator of a proper nonzero invariant space of the transposed module is such a space of the module
    pub annihilator_submodule : All (IsSquareOver K n) generators → (space annihilator : List (List ℕ)) → IsMatrixOver K n space → IsIndependent K space →
        IsInvariant K n (transposed_generators n generators) space → 0 < length space → length space < n → IsMatrixOver K n annihilator →
        IsAnnihilatorBasis K n space annihilator → IsSubmoduleBasis annihilator × (length annihilator < n)
    annihilator_submodule square space annihilator over independent invariant some few over_annihilator is = (
      record {
        over = over_annihilator;
        independent = independent_annihilator;
        invariant = annihilator_of_transposed_span F (module_of K n generators) (module_shape K n generators square) (length space) (matrix_of K space)
            (subst (λ (N : Module F). Modules.IsInvariant F N (length space) (matrix_of K space)) (module_of_transposes K n generators square) invariant)
            (length annihilator) (matrix_of K annihilator) spans;
        some = by_some (dec_lt 0 (length annihilator));
      },
      by_size (dec_lt (length annihilator) n),
    )
      where
        spans : SpansAnnihilator F n (length space) (matrix_of K space) (length annihilator) (matrix_of K annihilator)
        spans = record { forth = is.forth; back = is.back }

        independent_annihilator : IsIndependent K annihilator
        independent_annihilator = reduced_independent F (length annihilator) (matrix_of K annihilator) (length annihilator) (matrix_of K annihilator) is.reduced

        by_some : Dec (0 < length annihilator) → 0 < length annihilator
        by_some (yes has) = has
        by_some (no has_none) =
            absurd (annihilator_rows_are_nonzero F n (length space) (matrix_of K space) (rows_length K n space over)
            (λ all. everything_needs_rows n space all few) (length annihilator) (matrix_of K annihilator) spans (λ t below. absurd (omega arith)))

        by_size : Dec (length annihilator < n) → length annihilator < n
        by_size (yes proper) = proper
        by_size (no many) =
            let most = independent_rows_are_few K n annihilator over_annihilator independent_annihilator in
            absurd (annihilator_rows_are_proper F n (length space) (matrix_of K space) (rows_length K n space over)
            (λ zeros. independent_row_is_nonzero space 0 independent some (zeros 0 some)) (length annihilator) (matrix_of K annihilator) spans
            (enough_rows_span K n annihilator over_annihilator independent_annihilator (omega arith)))

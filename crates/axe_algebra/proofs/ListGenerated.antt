-- Generated spaces of lists: what is in them, and the rows that span one.
use Rattle.std.specs.Prelude.{◌≡◌, ℕ, ◌<◌, List, [], ◌∷◌, length, get_or}
use Rattle.std.specs.List.{All}
use Rattle.axe_algebra.specs.NumberField.{NumberField}
use Rattle.axe_algebra.specs.Field.{Field}
use Rattle.axe_algebra.specs.Vectors.{Vector, Matrix, unit_matrix, times}
use Rattle.axe_algebra.specs.Modules.{Module, InGenerated, IsRowTimesProduct, path_product}
use Rattle.axe_algebra.specs.Bridge.{field_of, vector_of, matrix_of, module_of}
use Rattle.axe_algebra.specs.Lists.{IsVectorOver, IsMatrixOver, IsSquareOver}
use Rattle.axe_algebra.specs.ListArithmetic.{combination}
use Rattle.axe_algebra.specs.SpansOfLists.{IsSpanned, IsIndependent, HaveSameSpan, IsReducedBasis}
use Rattle.axe_algebra.specs.ModulesOfLists.{IsInvariant, IsGenerated, Generates, IsGeneratedBasis, GeneratesEverything}
use Rattle.axe_algebra.proofs.ProductLaws.{unit_is_matrix}
use Rattle.axe_algebra.proofs.Spanning.{span_within}
use Rattle.axe_algebra.proofs.Exchange.{exchange}
use Rattle.axe_algebra.proofs.ReducedBases.{reduced_of_span}
use Rattle.axe_algebra.proofs.Spaces.{IsSpace, space_has_span}
use Rattle.axe_algebra.proofs.Generated.{zero_in_generated, add_in_generated, scale_in_generated, image_in_generated, row_in_generated, spans_generated, spans_generated_is_invariant}
use Rattle.axe_algebra.proofs.Isomorphisms.{unit_rows_independent}
use Rattle.axe_algebra.proofs.ListEntries.{rows_length}
use Rattle.axe_algebra.proofs.ListSpans.{independent_rows_are_few, enough_rows_span}
use Rattle.axe_algebra.proofs.ListModules.{module_shape, vector_of_image}
use mathlib.Core.Path.{sym, ◌∙◌, ap, subst}
use native.Mathlib.Omega.{arith}

module _ (K : NumberField) where
  abbrev F : Field
  F = field_of K

  module _ (n : ℕ) (generators : List (List (List ℕ))) where
    abbrev M : Module F
    M = module_of K n generators

    -- a row of the seed is generated, and so are images and what generated rows span
    pub seed_row_generated : (seed : List (List ℕ)) (t : ℕ) → IsMatrixOver K n seed → t < length seed → IsGenerated K n generators seed (get_or seed t [])
    seed_row_generated seed t over below = row_in_generated F M (length seed) (matrix_of K seed) (rows_length K n seed over) t below

    pub image_generated : All (IsSquareOver K n) generators → (seed : List (List ℕ)) (v : List ℕ) (i : ℕ) → IsVectorOver K n v → i < length generators →
        IsGenerated K n generators seed v → IsGenerated K n generators seed (combination K n v (get_or generators i []))
    image_generated square seed v i over below generated =
        subst (InGenerated F M (length seed) (matrix_of K seed)) (sym (vector_of_image K n generators v i square below over))
        (image_in_generated F M (module_shape K n generators square) (length seed) (matrix_of K seed) (vector_of K v) i generated below)

    generated_is_space : (seed : List (List ℕ)) → IsSpace F (InGenerated F M (length seed) (matrix_of K seed))
    generated_is_space seed = record {
      zero = zero_in_generated F M (length seed) (matrix_of K seed);
      sums = add_in_generated F M (length seed) (matrix_of K seed);
      multiples = scale_in_generated F M (length seed) (matrix_of K seed);
    }

    pub spanned_generated : (seed rows : List (List ℕ)) (v : List ℕ) →
        ((t : ℕ) → t < length rows → IsGenerated K n generators seed (get_or rows t [])) → IsSpanned K rows v → IsGenerated K n generators seed v
    spanned_generated seed rows v each spanned =
        space_has_span F (InGenerated F M (length seed) (matrix_of K seed)) (generated_is_space seed) (length rows) (matrix_of K rows) each (vector_of K v) spanned

    -- rows with an invariant span that holds the seed, each of them generated, span the generated space
    pub generates : All (IsSquareOver K n) generators → (seed rows : List (List ℕ)) → IsMatrixOver K n seed → IsInvariant K n generators rows →
        ((t : ℕ) → t < length seed → IsSpanned K rows (get_or seed t [])) →
        ((t : ℕ) → t < length rows → IsGenerated K n generators seed (get_or rows t [])) → Generates K n generators seed rows
    generates square seed rows over invariant holds each =
        spans_generated F M (module_shape K n generators square) (length seed) (matrix_of K seed) (rows_length K n seed over)
        (length rows) (matrix_of K rows) invariant holds each

    pub generated_is_invariant_span : All (IsSquareOver K n) generators → (seed rows : List (List ℕ)) → Generates K n generators seed rows →
        IsInvariant K n generators rows
    generated_is_invariant_span square seed rows spans =
        spans_generated_is_invariant F M (module_shape K n generators square) (length seed) (matrix_of K seed) (length rows) (matrix_of K rows) spans

    pub generates_same_span : (seed rows others : List (List ℕ)) → HaveSameSpan K rows others → Generates K n generators seed rows → Generates K n generators seed others
    generates_same_span seed rows others same spans = record {
      forth = λ x in_span. spans.forth x (span_within F (length others) (matrix_of K others) (length rows) (matrix_of K rows) x same.back in_span);
      back = λ x generated. span_within F (length rows) (matrix_of K rows) (length others) (matrix_of K others) x same.forth (spans.back x generated);
    }

    -- the reduced basis of rows that span the generated space is its reduced basis
    pub generated_basis : (seed rows basis : List (List ℕ)) → IsMatrixOver K n rows → Generates K n generators seed rows → IsReducedBasis K rows basis →
        IsGeneratedBasis K n generators seed basis
    generated_basis seed rows basis over spans reduced =
        let own = reduced_of_span F n (length rows) (matrix_of K rows) (length basis) (matrix_of K basis) (rows_length K n rows over) reduced in
        record {
          forth = λ x in_span. spans.forth x (own.forth x in_span);
          back = λ x generated. own.back x (spans.back x generated);
          reduced = own.reduced;
        }

    -- seeds with the same rows generate the same
    generated_of_same_rows : (k : ℕ) (v w : Matrix F) → ((t : ℕ) → t < k → v t ≡ w t) → (x : Vector F) → InGenerated F M k v x → InGenerated F M k w x
    generated_of_same_rows k v w same x generated = record {
      size = generated.size;
      vectors = generated.vectors;
      each = λ s below. from (generated.vectors s) (generated.each s below);
      in_span = generated.in_span;
    }
      where
        from : (y : Vector F) → IsRowTimesProduct F M k v y → IsRowTimesProduct F M k w y
        from y is = record {
          row = is.row;
          row-below = is.row-below;
          path = is.path;
          generators = is.generators;
          equals = is.equals ∙ ap (λ (z : Vector F). times F n z (path_product F M is.path)) (same is.row is.row-below);
        }

    -- one vector as a seed
    only_row : (v : List ℕ) (t : ℕ) → t < 1 → matrix_of K (v ∷ []) t ≡ vector_of K v
    only_row v t below = ap (matrix_of K (v ∷ [])) (let e : t ≡ 0 = omega arith in e)

    -- a vector generates everything exactly where independent rows that span what it generates are n
    pub generates_everything : (v : List ℕ) (rows : List (List ℕ)) → IsMatrixOver K n rows → Generates K n generators (v ∷ []) rows → IsIndependent K rows →
        length rows ≡ n → GeneratesEverything K n generators v
    generates_everything v rows over spans independent full x length =
        generated_of_same_rows 1 (matrix_of K (v ∷ [])) (λ i. vector_of K v) (only_row v) x
        (spans.forth x (enough_rows_span K n rows over independent full x length))

    pub everything_is_full : (v : List ℕ) (rows : List (List ℕ)) → IsMatrixOver K n rows → Generates K n generators (v ∷ []) rows → IsIndependent K rows →
        GeneratesEverything K n generators v → length rows ≡ n
    everything_is_full v rows over spans independent all =
        omega (
          arith,
          independent_rows_are_few K n rows over independent,
          exchange F n (unit_matrix F n) (length rows) (matrix_of K rows) (unit_rows_independent F n) (λ t below.
              spans.back (unit_matrix F n t)
              (generated_of_same_rows 1 (λ i. vector_of K v) (matrix_of K (v ∷ [])) (λ s inside. sym (only_row v s inside)) (unit_matrix F n t)
              (all (unit_matrix F n t) ((unit_is_matrix F n).columns t)))),
        )

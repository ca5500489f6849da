-- A null vector that generates everything, and another one: where the dot products of vectors that it generates with the
-- null vectors of the transpose span all, it generates everything, too.
use Rattle.std.specs.Prelude.{◌≡◌, ◌≢◌, ℕ, ◌<◌, ◌⊎◌}
use Rattle.axe_algebra.specs.Field.{Field}
use Rattle.axe_algebra.specs.Vectors.{Vector, Matrix, HasLength, HasRowsOfLength, zero_vector, unit_vector, transposed, times, dot}
use Rattle.axe_algebra.specs.Spans.{InSpan, SpanWithin, IsNullVector, SpansZero, SpansAll}
use Rattle.axe_algebra.specs.Modules.{Module, HasSquareMatrices, transposed_module, IsInvariant, InGenerated, SpansGenerated, VectorGeneratesAll}
use Rattle.axe_algebra.specs.Irreducible.{InAnnihilator}
use Rattle.axe_algebra.specs.NortonTheorems.{SpansAnnihilator}
use Rattle.axe_algebra.specs.Standard.{IsStandardBasis}
use Rattle.axe_algebra.specs.Words.{Word, IsWordOf, word_value}
use Rattle.axe_algebra.proofs.ProductLaws.{dot_comm, dot_times, times_length, times_zero_coefficients, transposed_is_matrix, unit_length}
use Rattle.axe_algebra.proofs.Spaces.{space_has_span}
use Rattle.axe_algebra.proofs.Spanning.{span_row}
use Rattle.axe_algebra.proofs.Generated.{generated_is_least}
use Rattle.axe_algebra.proofs.WordValues.{HasNullVectorIn, IsOnto, null_vector_or_onto, word_value_is_matrix, word_value_within}
use Rattle.axe_algebra.proofs.Annihilators.{dot-unit, orthogonal_is_space, annihilator_of_span, annihilator_is_invariant, annihilator_rows_are_invariant, annihilator_rows_are_nonzero, null_of_transpose_is_orthogonal}
use Rattle.axe_algebra.proofs.NullSpaces.{annihilator_basis}
use Rattle.axe_algebra.proofs.NortonCriterion.{transposed_is_module}
use Rattle.axe_algebra.proofs.StandardBases.{standard_basis_is_invariant}
use Rattle.axe_algebra.proofs.StandardExistence.{standard_basis_exists}
use Rattle.axe_algebra.proofs.Duality.{spans_all_or_not, standard_basis_spans_generated}
use mathlib.Core.Logic.{inl, inr}
use mathlib.Core.Path.{sym, ◌∙◌, ap, fun_ext}
use native.Mathlib.Omega.{arith}
use native.Mathlib.Decide.{dec_lt}

-- a null vector of the transpose of x, other than zero, that is orthogonal to the span of k rows of v
record HasOrthogonal (F : Field) (n : ℕ) (x : Matrix F) (k : ℕ) (v : Matrix F) : Type 0 where
  pub vector : Vector F
  pub nonzero : vector ≢ zero_vector F
  pub vanishes : times F n vector (transposed F x) ≡ zero_vector F
  pub within : InAnnihilator F n k v vector

-- y has the dot products of a vector that v generates with rows
pub record HasProducts (F : Field) (M : Module F) (others : Matrix F) (v y : Vector F) : Type 0 where
  pub image : Vector F
  pub generated : InGenerated F M 1 (λ i. v) image
  pub products : y ≡ times F M.dimension image (transposed F others)

module _ (F : Field) (M : Module F) (is : HasSquareMatrices F M) where
  -- rows with an invariant span under the transposes are zero where a vector that generates everything is orthogonal to them
  zero_of_orthogonal : (r : ℕ) (w : Matrix F) → HasRowsOfLength F M.dimension w → IsInvariant F (transposed_module F M) r w → (z : Vector F) →
      InAnnihilator F M.dimension r w z → VectorGeneratesAll F M z → SpansZero F r w
  zero_of_orthogonal r w rows invariant z within generates t below = fun_ext λ j. at j (dec_lt j M.dimension)
    where
      everything : (x : Vector F) → HasLength F M.dimension x → InAnnihilator F M.dimension r w x
      everything x length =
          generated_is_least F M is (InAnnihilator F M.dimension r w)
          (annihilator_is_invariant F (transposed_module F M) (transposed_is_module F M is) r w invariant) 1 (λ s. z) (λ s. within.length)
          (λ s inside. within) x (generates x length)

      at : (j : ℕ) → Dec (j < M.dimension) → w t j ≡ F.zero
      at j (yes inside) =
          sym (dot-unit F M.dimension (w t) j inside) ∙ (everything (unit_vector F j) (unit_length F M.dimension j inside)).orthogonal t below
      at j (no past) = rows t j (omega arith)

  module _ (word : Word F) (of_module : IsWordOf F M word) where
    -- the transpose of a word's value keeps the annihilator of an invariant span
    transpose_within : (k : ℕ) (v : Matrix F) → HasRowsOfLength F M.dimension v → IsInvariant F M k v → (r : ℕ) (w : Matrix F) →
        SpansAnnihilator F M.dimension k v r w → SpanWithin F r (λ t. times F M.dimension (w t) (transposed F (word_value F M word))) r w
    transpose_within k v rows invariant r w spans t below =
        spans.back (times F M.dimension (w t) (transposed F (word_value F M word))) (record {
          length = times_length F M.dimension M.dimension (w t) (transposed F (word_value F M word))
              (transposed_is_matrix F M.dimension M.dimension (word_value F M word) (word_value_is_matrix F M is word of_module)).columns;
          orthogonal = λ s inside.
              sym (dot_times F M.dimension M.dimension (v s) (word_value F M word) (w t))
              ∙ annihilator_of_span F M.dimension k v (w t) (spans.forth (w t) (span_row F r w t below)) (times F M.dimension (v s) (word_value F M word))
              (word_value_within F M is word of_module k v rows invariant s inside);
        })

    module _ (z : Vector F) (null : IsNullVector F M.dimension (word_value F M word) z) (generates : VectorGeneratesAll F M z) where
      -- where some null vector generates everything, a proper invariant span has one
      orthogonal_null_vector : (k : ℕ) (v : Matrix F) → HasRowsOfLength F M.dimension v → IsInvariant F M k v → ¬ (SpansAll F M.dimension k v) →
          HasOrthogonal F M.dimension (word_value F M word) k v
      orthogonal_null_vector k v rows invariant proper = by_basis (annihilator_basis F M.dimension k v rows)
        where
          by_basis : (r : ℕ) × (w : Matrix F) × HasRowsOfLength F M.dimension w × SpansAnnihilator F M.dimension k v r w → HasOrthogonal F M.dimension (word_value F M word) k v
          by_basis (r, w, lengths, spans) =
              by_null (null_vector_or_onto F M.dimension r w (transposed F (word_value F M word)) lengths (transpose_within k v rows invariant r w spans))
            where
              by_null : HasNullVectorIn F M.dimension r w (transposed F (word_value F M word))
                  ⊎ ((y : Vector F) → InSpan F r w y → IsOnto F M.dimension r w (transposed F (word_value F M word)) y) → HasOrthogonal F M.dimension (word_value F M word) k v
              by_null (inl found) = record {
                vector = found.vector;
                nonzero = found.nonzero;
                vanishes = found.vanishes;
                within = spans.forth found.vector found.in_span;
              }
              -- else each vector of the annihilator is an image, so z is orthogonal to it
              by_null (inr onto) = absurd (annihilator_rows_are_nonzero F M.dimension k v rows proper r w spans
                  (zero_of_orthogonal r w lengths (annihilator_rows_are_invariant F M is k v invariant r w spans) z within generates))
                where
                  within : InAnnihilator F M.dimension r w z
                  within = record {
                    length = null.length;
                    orthogonal = λ t below.
                        let image_of = onto (w t) (span_row F r w t below) in
                        ap (λ (y : Vector F). dot F M.dimension y z) (sym image_of.maps)
                        ∙ null_of_transpose_is_orthogonal F M.dimension M.dimension (transposed F (word_value F M word)) z null.vanishes image_of.vector;
                  }

      module _ (r : ℕ) (others : Matrix F) (back : (w : Vector F) → IsNullVector F M.dimension (transposed F (word_value F M word)) w → InSpan F r others w) where
        -- where such dot products span all, v generates everything
        pub generates_by_products : (v : Vector F) → HasLength F M.dimension v → v ≢ zero_vector F → (s : ℕ) (p : Matrix F) →
            ((j : ℕ) → j < s → HasProducts F M others v (p j)) → SpansAll F r s p → VectorGeneratesAll F M v
        generates_by_products v long nonzero s p each all = by_basis (standard_basis_exists F M v is long nonzero)
          where
            by_basis : (m : ℕ) × (b : Matrix F) × HasRowsOfLength F M.dimension b × IsStandardBasis F M v m b → VectorGeneratesAll F M v
            by_basis (m, b, lengths, standard) = by_span (spans_all_or_not F M.dimension m b lengths)
              where
                spans : SpansGenerated F M 1 (λ i. v) m b
                spans = standard_basis_spans_generated F M is v long m b standard

                contradict : HasOrthogonal F M.dimension (word_value F M word) m b → ⊥
                contradict w = w.nonzero (in_span.combines ∙ times_zero_coefficients F r in_span.coefficients others zeros)
                  where
                    in_span : InSpan F r others w.vector
                    in_span = back w.vector (record { length = w.within.length; vanishes = w.vanishes })

                    orthogonal : (j : ℕ) → j < s → dot F r in_span.coefficients (p j) ≡ F.zero
                    orthogonal j below =
                        let found = each j below in
                        ap (dot F r in_span.coefficients) found.products
                        ∙ sym (dot_times F r M.dimension in_span.coefficients others found.image)
                        ∙ ap (λ (y : Vector F). dot F M.dimension y found.image) (sym in_span.combines)
                        ∙ dot_comm F M.dimension w.vector found.image
                        ∙ annihilator_of_span F M.dimension m b w.vector w.within found.image (spans.back found.image found.generated)

                    zeros : (i : ℕ) → i < r → in_span.coefficients i ≡ F.zero
                    zeros i below =
                        sym (dot-unit F r in_span.coefficients i below)
                        ∙ space_has_span F (λ (y : Vector F). dot F r in_span.coefficients y ≡ F.zero) (orthogonal_is_space F r in_span.coefficients) s p
                        orthogonal (unit_vector F i) (all (unit_vector F i) (unit_length F r i below))

                by_span : Dec (SpansAll F M.dimension m b) → VectorGeneratesAll F M v
                by_span (yes everything) = λ x length. spans.forth x (everything x length)
                by_span (no proper) =
                    absurd (contradict (orthogonal_null_vector m b lengths (standard_basis_is_invariant F M v m b standard) proper))

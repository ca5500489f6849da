-- Norton's criterion, and invariant spaces of the transposes.
use Rattle.std.specs.Prelude.{◌≡◌, ◌≢◌, ℕ, ◌<◌, ◌⊎◌}
use Rattle.axe_algebra.specs.Field.{Field}
use Rattle.axe_algebra.specs.Vectors.{Vector, Matrix, HasLength, HasRowsOfLength, zero_vector, unit_vector, transposed, times, dot}
use Rattle.axe_algebra.specs.Spans.{InSpan, SpanWithin, IsNullVector, SpansZero, SpansAll}
use Rattle.axe_algebra.specs.Modules.{Module, HasSquareMatrices, transposed_module, IsInvariant, VectorGeneratesAll}
use Rattle.axe_algebra.specs.Irreducible.{InAnnihilator, IsIrreducible}
use Rattle.axe_algebra.specs.Words.{Word, IsWordOf, word_value}
use Rattle.axe_algebra.proofs.ProductLaws.{transposed_is_matrix, unit_length}
use Rattle.axe_algebra.proofs.Spanning.{span_row, span_length}
use Rattle.axe_algebra.proofs.Generated.{generated_is_least, generated_within}
use Rattle.axe_algebra.proofs.WordValues.{IsOnto, HasNullVectorIn, null_vector_or_onto, word_value_within}
use Rattle.axe_algebra.proofs.Annihilators.{dot-unit, null_of_transpose_is_orthogonal, annihilator_is_invariant}
use mathlib.Core.Logic.{inl, inr}
use mathlib.Core.Path.{sym, ◌∙◌, ap, fun_ext}
use native.Mathlib.Omega.{arith}
use native.Mathlib.Decide.{dec_lt}

module _ (F : Field) (M : Module F) where
  -- the transposes are a module
  pub transposed_is_module : HasSquareMatrices F M → HasSquareMatrices F (transposed_module F M)
  transposed_is_module is = record {
    square = λ i below. transposed_is_matrix F M.dimension M.dimension (M.generator i) (is.square i below);
  }

  -- a vector that generates everything and is orthogonal to an invariant span makes it zero
  zero_of_orthogonal : HasSquareMatrices F M → (k : ℕ) (v : Matrix F) → HasRowsOfLength F M.dimension v → IsInvariant F M k v → (w : Vector F) →
      InAnnihilator F M.dimension k v w → VectorGeneratesAll F (transposed_module F M) w → SpansZero F k v
  zero_of_orthogonal is k v rows invariant w within generates t below = fun_ext λ j. at j (dec_lt j M.dimension)
    where
      everything : (x : Vector F) → HasLength F M.dimension x → InAnnihilator F M.dimension k v x
      everything x length =
          generated_is_least F (transposed_module F M) (transposed_is_module is) (InAnnihilator F M.dimension k v)
          (annihilator_is_invariant F M is k v invariant) 1 (λ s. w) (λ s. within.length) (λ s inside. within) x (generates x length)

      at : (j : ℕ) → Dec (j < M.dimension) → v t j ≡ F.zero
      at j (yes inside) =
          sym (dot-unit F M.dimension (v t) j inside) ∙ (everything (unit_vector F j) (unit_length F M.dimension j inside)).orthogonal t below
      at j (no past) = rows t j (omega arith)

  -- Norton's criterion for a matrix x that maps every list of rows with an invariant span into that span: where every nonzero
  -- null vector of x generates everything, and one null vector of its transpose does under the transposes
  pub norton_of_matrix : HasSquareMatrices F M → (x : Matrix F) →
      ((k : ℕ) (v : Matrix F) → HasRowsOfLength F M.dimension v → IsInvariant F M k v → SpanWithin F k (λ t. times F M.dimension (v t) x) k v) →
      ((y : Vector F) → y ≢ zero_vector F → IsNullVector F M.dimension x y → VectorGeneratesAll F M y) →
      (w : Vector F) → IsNullVector F M.dimension (transposed F x) w → VectorGeneratesAll F (transposed_module F M) w →
      IsIrreducible F M
  norton_of_matrix is x keeps each w null generates = record { spans = spans }
    where
      spans : (k : ℕ) (v : Matrix F) → HasRowsOfLength F M.dimension v → IsInvariant F M k v → SpansZero F k v ⊎ SpansAll F M.dimension k v
      spans k v rows invariant = by_null (null_vector_or_onto F M.dimension k v x rows (keeps k v rows invariant))
        where
          by_null : HasNullVectorIn F M.dimension k v x ⊎ ((y : Vector F) → InSpan F k v y → IsOnto F M.dimension k v x y) →
              SpansZero F k v ⊎ SpansAll F M.dimension k v
          -- a null vector in the span generates everything, within the span
          by_null (inl found) = inr λ y length.
              generated_within F M is 1 (λ s. found.vector) (λ s. long) k v invariant (λ s inside. found.in_span) y
              (each found.vector found.nonzero (record { length = long; vanishes = found.vanishes }) y length)
            where
              long : HasLength F M.dimension found.vector
              long = span_length F M.dimension k v found.vector rows found.in_span
          -- else each vector of the span is an image, so w is orthogonal to the span
          by_null (inr onto) = inl (zero_of_orthogonal is k v rows invariant w within generates)
            where
              within : InAnnihilator F M.dimension k v w
              within = record {
                length = null.length;
                orthogonal = λ t below.
                    let image_of = onto (v t) (span_row F k v t below) in
                    ap (λ (y : Vector F). dot F M.dimension y w) (sym image_of.maps)
                    ∙ null_of_transpose_is_orthogonal F M.dimension M.dimension x w null.vanishes image_of.vector;
              }

  -- Norton's criterion: where every nonzero null vector of a word's value generates everything, and one null vector of its
  -- transpose generates everything under the transposes, the module is irreducible
  pub norton : HasSquareMatrices F M → (word : Word F) → IsWordOf F M word →
      ((x : Vector F) → x ≢ zero_vector F → IsNullVector F M.dimension (word_value F M word) x → VectorGeneratesAll F M x) →
      (w : Vector F) → IsNullVector F M.dimension (transposed F (word_value F M word)) w → VectorGeneratesAll F (transposed_module F M) w →
      IsIrreducible F M
  norton is word all = norton_of_matrix is (word_value F M word) (word_value_within F M is word all)

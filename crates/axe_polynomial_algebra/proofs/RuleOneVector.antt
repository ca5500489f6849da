-- The one-vector rule: where an irreducible p fits the value x of a word, one nonzero null vector of p(x) stands for
-- all.
use Rattle.std.specs.Prelude.{◌≢◌, ℕ, zero, suc}
use Rattle.axe_algebra.specs.Field.{Field}
use Rattle.axe_algebra.specs.Vectors.{Vector, Matrix, HasLength, zero_vector, transposed}
use Rattle.axe_algebra.specs.Spans.{IsNullVector}
use Rattle.axe_algebra.specs.Modules.{Module, HasSquareMatrices, transposed_module, InGenerated, VectorGeneratesAll}
use Rattle.axe_algebra.specs.Words.{Word, IsWordOf, word_value}
use Rattle.axe_algebra.specs.Irreducible.{IsIrreducible}
use Rattle.axe_algebra.proofs.Spaces.{space_has_span}
use Rattle.axe_algebra.proofs.Generated.{generated_is_invariant, generated_is_least, row_in_generated}
use Rattle.axe_algebra.proofs.Generated.{invariant_set_is_space}
use Rattle.axe_algebra.proofs.WordValues.{word_value_is_matrix, invariant_set_has_word_images}
use Rattle.axe_algebra.proofs.NortonCriterion.{norton}
use Rattle.axe_polynomial_algebra.specs.Polynomials.{IsIrreduciblePolynomial}
use Rattle.axe_polynomial_algebra.specs.PolynomialValues.{polynomial_value, power_rows, Fits}
use Rattle.axe_polynomial_algebra.specs.PolynomialValueTheorems.{OneVectorRule}
use Rattle.axe_polynomial_algebra.proofs.ValuePowers.{power_rows_zero, power_rows_suc, power_rows_length}
use Rattle.axe_polynomial_algebra.proofs.ValueWords.{polynomial_word, polynomial_word_is_word, polynomial_word_value}
use Rattle.axe_polynomial_algebra.proofs.VectorRows.{null_rows_span}
use mathlib.Core.Path.{sym, subst}
use native.Mathlib.Omega.{arith}

module _ (F : Field) (M : Module F) (is : HasSquareMatrices F M) (word : Word F) (all : IsWordOf F M word) where
  -- what y generates has y x^k, for the value x of a word
  pub power_rows_are_generated : (y : Vector F) → HasLength F M.dimension y → (k : ℕ) →
      InGenerated F M 1 (λ i. y) (power_rows F M.dimension (word_value F M word) y k)
  power_rows_are_generated y length zero =
      subst (InGenerated F M 1 (λ i. y)) (sym (power_rows_zero F M.dimension (word_value F M word) y length))
      (row_in_generated F M 1 (λ i. y) (λ i. length) 0 (omega arith))
  power_rows_are_generated y length (suc k) =
      subst (InGenerated F M 1 (λ i. y)) (sym (power_rows_suc F M.dimension (word_value F M word) y k))
      (invariant_set_has_word_images F M is (InGenerated F M 1 (λ i. y)) (generated_is_invariant F M is 1 (λ i. y))
      word all (power_rows F M.dimension (word_value F M word) y k)
      (power_rows_length F M.dimension (word_value F M word) (word_value_is_matrix F M is word all) y k)
      (power_rows_are_generated y length k))

  module _ (d : ℕ) (p : Vector F) (irreducible : IsIrreduciblePolynomial F d p)
      (fits : Fits F M.dimension (word_value F M word) d p) where
    -- where one nonzero null vector of p(x) generates everything, so does each other
    pub each_null_vector_generates : (v : Vector F) →
        IsNullVector F M.dimension (polynomial_value F M.dimension (suc d) p (word_value F M word)) v →
        VectorGeneratesAll F M v → (y : Vector F) → y ≢ zero_vector F →
        IsNullVector F M.dimension (polynomial_value F M.dimension (suc d) p (word_value F M word)) y →
        VectorGeneratesAll F M y
    each_null_vector_generates v null generates y nonzero of_y z length =
        generated_is_least F M is (InGenerated F M 1 (λ i. y)) (generated_is_invariant F M is 1 (λ i. y)) 1 (λ i. v)
        (λ i. null.length) (λ i below. v_is_generated) z (generates z length)
      where
        v_is_generated : InGenerated F M 1 (λ i. y) v
        v_is_generated =
            space_has_span F (InGenerated F M 1 (λ i. y))
            (invariant_set_is_space F M (InGenerated F M 1 (λ i. y)) (generated_is_invariant F M is 1 (λ i. y))) d
            (power_rows F M.dimension (word_value F M word) y) (λ k below. power_rows_are_generated y of_y.length k) v
            (null_rows_span F M.dimension (word_value F M word) (word_value_is_matrix F M is word all) d p y irreducible
            nonzero of_y fits v null)

    pub rule_of_one_vector : (v : Vector F) →
        IsNullVector F M.dimension (polynomial_value F M.dimension (suc d) p (word_value F M word)) v →
        VectorGeneratesAll F M v → (w : Vector F) →
        IsNullVector F M.dimension (transposed F (polynomial_value F M.dimension (suc d) p (word_value F M word))) w →
        VectorGeneratesAll F (transposed_module F M) w → IsIrreducible F M
    rule_of_one_vector v null generates w of_w generates_transposed =
        norton F M is (polynomial_word F M word (suc d) p) (polynomial_word_is_word F M word all (suc d) p)
        (λ y nonzero of_y. each_null_vector_generates v null generates y nonzero
        (subst (λ (a : Matrix F). IsNullVector F M.dimension a y) (polynomial_word_value F M is word all (suc d) p)
        of_y))
        w
        (subst (λ (a : Matrix F). IsNullVector F M.dimension (transposed F a) w)
        (sym (polynomial_word_value F M is word all (suc d) p)) of_w)
        generates_transposed

module _ (F : Field) where
  pub one_vector_rule : OneVectorRule F
  one_vector_rule M is word all d p irreducible fits v nonzero null generates w of_w =
      rule_of_one_vector F M is word all d p irreducible fits v null generates w of_w

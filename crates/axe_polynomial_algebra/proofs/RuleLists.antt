-- The one-vector rule for modules, words and polynomials that are lists.
use Rattle.std.specs.Prelude.{◌≡◌, ◌≢◌, ℕ, suc, List, length}
use Rattle.std.specs.List.{All}
use Rattle.axe_algebra.specs.NumberField.{NumberField}
use Rattle.axe_algebra.specs.Field.{Field}
use Rattle.axe_algebra.specs.Vectors.{Matrix, zero_vector, transposed}
use Rattle.axe_algebra.specs.Spans
use Rattle.axe_algebra.specs.Modules.{Module, VectorGeneratesAll}
use Rattle.axe_algebra.specs.Words.{word_value}
use Rattle.axe_algebra.specs.Bridge.{field_of, vector_of, matrix_of, module_of, word_of}
use Rattle.axe_algebra.specs.Lists.{IsSquareOver}
use Rattle.axe_algebra.specs.ListArithmetic.{transpose, transposed_generators}
use Rattle.axe_algebra.specs.SpansOfLists.{IsNullVector}
use Rattle.axe_algebra.specs.ModulesOfLists.{GeneratesEverything, IsIrreducible}
use Rattle.axe_algebra.specs.WordsOfLists.{IsWordOver, IsWordValue}
use Rattle.axe_algebra.proofs.ListProducts.{matrix_of_transpose}
use Rattle.axe_algebra.proofs.ListModules.{module_shape, module_of_transposes}
use Rattle.axe_algebra.proofs.ListIrreducible.{transpose_length}
use Rattle.axe_algebra.proofs.ListWords.{is_word}
use Rattle.axe_polynomial_algebra.specs.PolynomialValues
use Rattle.axe_polynomial_algebra.specs.PolynomialValues.{polynomial_value}
use Rattle.axe_polynomial_algebra.specs.PolynomialsOfLists.{degree_of, IsIrreduciblePolynomial, IsPolynomialValue, Fits}
use Rattle.axe_polynomial_algebra.specs.PolynomialListTheorems.{ListOneVectorRule}
use Rattle.axe_polynomial_algebra.proofs.ValueLists.{value_square, value_equals}
use Rattle.axe_polynomial_algebra.proofs.RuleOneVector.{one_vector_rule}
use mathlib.Core.Path.{◌∙◌, ap, subst}
use native.Mathlib.Omega.{arith}

module _ (K : NumberField) where
  abbrev F : Field
  F = field_of K

  -- where an irreducible p fits the value x of a word, one nonzero null vector of p(x) generates everything, and one
  -- null vector of the transpose of p(x) generates everything under the transposes, the module is irreducible
  module _ (n : ℕ) (generators : List (List (List ℕ))) (square : All (IsSquareOver K n) generators)
      (terms : List (ℕ × List ℕ)) (over : IsWordOver K (length generators) terms) (x value : List (List ℕ)) (p : List ℕ)
      (is_x : IsWordValue K n generators terms x) (irreducible : IsIrreduciblePolynomial K p) (fits : Fits K x p)
      (is_value : IsPolynomialValue K p x value) where
    -- the value of the word
    abbrev value_x : Matrix F
    value_x = word_value F (module_of K n generators) (word_of K terms)

    fits_word : PolynomialValues.Fits F n value_x (degree_of p) (vector_of K p)
    fits_word =
        subst (λ (a : Matrix F). PolynomialValues.Fits F n a (degree_of p) (vector_of K p)) is_x.value
        (subst (λ m. PolynomialValues.Fits F m (matrix_of K x) (degree_of p) (vector_of K p)) is_x.square.length_is
        fits)

    value_of_word : matrix_of K value ≡ polynomial_value F n (suc (degree_of p)) (vector_of K p) value_x
    value_of_word =
        value_equals K n x is_x.square p value is_value
        ∙ (let coefficients : length p ≡ suc (degree_of p) = omega (arith, irreducible.over.positive) in
        ap (λ m. polynomial_value F n m (vector_of K p) (matrix_of K x)) coefficients)
        ∙ ap (polynomial_value F n (suc (degree_of p)) (vector_of K p)) is_x.value

    over_value : IsSquareOver K n value
    over_value = value_square K n x is_x.square p value is_value

    -- a null vector of the list of p(x), and one of its transpose
    null_here : (v : List ℕ) → IsNullVector K value v →
        Spans.IsNullVector F n (polynomial_value F n (suc (degree_of p)) (vector_of K p) value_x) (vector_of K v)
    null_here v null =
        subst (λ (a : Matrix F). Spans.IsNullVector F n a (vector_of K v)) value_of_word
        (subst (λ m. Spans.IsNullVector F m (matrix_of K value) (vector_of K v)) over_value.length_is null)

    null_of_transpose_here : (w : List ℕ) → IsNullVector K (transpose n value) w →
        Spans.IsNullVector F n (transposed F (polynomial_value F n (suc (degree_of p)) (vector_of K p) value_x))
        (vector_of K w)
    null_of_transpose_here w null =
        subst (λ (a : Matrix F). Spans.IsNullVector F n (transposed F a) (vector_of K w)) value_of_word
        (subst (λ (a : Matrix F). Spans.IsNullVector F n a (vector_of K w))
        (matrix_of_transpose K n value over_value.matrix)
        (subst (λ m. Spans.IsNullVector F m (matrix_of K (transpose n value)) (vector_of K w))
        (transpose_length n value) null))

    rule_here : (v : List ℕ) → vector_of K v ≢ zero_vector F → IsNullVector K value v →
        GeneratesEverything K n generators v → (w : List ℕ) → IsNullVector K (transpose n value) w →
        GeneratesEverything K n (transposed_generators n generators) w → IsIrreducible K n generators
    rule_here v nonzero null generates w of_w generates_transposed =
        one_vector_rule F (module_of K n generators) (module_shape K n generators square) (word_of K terms)
        (is_word K n generators terms over) (degree_of p) (vector_of K p) irreducible.irreducible fits_word
        (vector_of K v) nonzero (null_here v null) generates (vector_of K w) (null_of_transpose_here w of_w)
        (subst (λ (N : Module F). VectorGeneratesAll F N (vector_of K w)) (module_of_transposes K n generators square)
        generates_transposed)

  pub list_one_vector_rule : ListOneVectorRule K
  list_one_vector_rule n generators square terms over x value p is_x irreducible fits is_value =
      rule_here n generators square terms over x value p is_x irreducible fits is_value

-- A polynomial at a word is a word, and the same one for all modules over one field: its value in each of them is that of the polynomial at the
-- word's value there.
use Rattle.std.specs.Prelude.{◌≡◌, ℕ, zero, suc, List, [], ◌∷◌, ◌++◌}
use Rattle.axe_algebra.specs.Field.{Field}
use Rattle.axe_algebra.specs.Vectors.{Vector, Matrix, add_vectors, add_matrices, scale, unit_matrix, multiply}
use Rattle.axe_algebra.specs.Modules.{Module, HasSquareMatrices, AreGenerators, path_product}
use Rattle.axe_algebra.specs.Words.{Word, IsWordOf, word_value}
use Rattle.axe_algebra.proofs.FieldLaws.{one-mul}
use Rattle.axe_algebra.proofs.ProductLaws.{identity_multiply, multiply-add_right, multiply-add_left}
use Rattle.axe_algebra.proofs.ProductLaws.{times_zero, times-scale, times-scaled_rows, times_zero_rows, times_more, times_none}
use Rattle.axe_algebra.proofs.WordValues.{word_value_is_matrix}
use Rattle.axe_polynomial_algebra.specs.PolynomialValues.{matrix_power, polynomial_value}
use Rattle.axe_polynomial_algebra.proofs.ValueLaws.{value_row}
use Rattle.axe_polynomial_algebra.proofs.ValuePowers.{power_zero, power_suc}
use Rattle.axe_polynomial_algebra.proofs.ValueWords.{are_generators_append, path_product_append, is_word_append, word_value_append}
use mathlib.Core.Path.{refl, sym, ◌∙◌, ap, ap₂, fun_ext}

module _ (F : Field) where
  -- ---- the words: none of them looks into a module

  -- a term times a word, and the product of two words
  term_times : F.Element × List ℕ → Word F → Word F
  term_times term [] = []
  term_times term (other ∷ word) = (F.mul term.0 other.0, term.1 ++ other.1) ∷ term_times term word

  word_times : Word F → Word F → Word F
  word_times [] other = []
  word_times (term ∷ word) other = term_times term other ++ word_times word other

  -- the powers of a word, and the polynomial with m coefficients f at it
  word_power : Word F → ℕ → Word F
  word_power word zero = (F.one, []) ∷ []
  word_power word (suc k) = word_times (word_power word k) word

  pub polynomial_word : Word F → ℕ → Vector F → Word F
  polynomial_word word zero f = []
  polynomial_word word (suc m) f = polynomial_word word m f ++ term_times (f m, []) (word_power word m)

  module _ (M : Module F) where
    -- ---- they are words in the generators of each module in which the first is one

    term_times_is_word : (term : F.Element × List ℕ) (word : Word F) → AreGenerators F M term.1 → IsWordOf F M word → IsWordOf F M (term_times term word)
    unfolding term_times
    term_times_is_word term [] first all = tt
    term_times_is_word term (other ∷ word) first all = (are_generators_append F M term.1 other.1 first all.0, term_times_is_word term word first all.1)

    word_times_is_word : (word other : Word F) → IsWordOf F M word → IsWordOf F M other → IsWordOf F M (word_times word other)
    unfolding word_times
    word_times_is_word [] other first second = tt
    word_times_is_word (term ∷ word) other first second =
        is_word_append F M (term_times term other) (word_times word other) (term_times_is_word term other first.0 second)
        (word_times_is_word word other first.1 second)

    word_power_is_word : (word : Word F) → IsWordOf F M word → (k : ℕ) → IsWordOf F M (word_power word k)
    unfolding word_power
    word_power_is_word word all zero = (tt, tt)
    word_power_is_word word all (suc k) = word_times_is_word (word_power word k) word (word_power_is_word word all k) all

    pub polynomial_word_is_word : (word : Word F) → IsWordOf F M word → (m : ℕ) (f : Vector F) → IsWordOf F M (polynomial_word word m f)
    unfolding polynomial_word
    polynomial_word_is_word word all zero f = tt
    polynomial_word_is_word word all (suc m) f =
        is_word_append F M (polynomial_word word m f) (term_times (f m, []) (word_power word m)) (polynomial_word_is_word word all m f)
        (term_times_is_word (f m, []) (word_power word m) tt (word_power_is_word word all m))

    -- ---- their values there

    -- the value of a term
    term_value : F.Element × List ℕ → Matrix F
    term_value term = λ i. scale F term.0 (path_product F M term.1 i)

    scaled_product : (c d : F.Element) (a b : Matrix F) →
        multiply F M.dimension (λ i. scale F c (a i)) (λ i. scale F d (b i)) ≡ (λ i. scale F (F.mul c d) (multiply F M.dimension a b i))
    scaled_product c d a b = fun_ext λ i.
        times-scale F M.dimension c (a i) (λ i. scale F d (b i)) ∙ ap (scale F c) (times-scaled_rows F M.dimension d (a i) b)
        ∙ fun_ext λ j. sym (F.mul_assoc c d (multiply F M.dimension a b i j))

    module _ (is : HasSquareMatrices F M) where
      term_times_value : (term : F.Element × List ℕ) (word : Word F) → AreGenerators F M term.1 → IsWordOf F M word →
          word_value F M (term_times term word) ≡ multiply F M.dimension (term_value term) (word_value F M word)
      unfolding term_times word_value term_value
      term_times_value term [] first all = fun_ext λ i. sym (times_zero_rows F M.dimension (term_value term i) (λ i j. F.zero) (λ t below. refl))
      term_times_value term (other ∷ word) first all =
          ap₂ (add_matrices F)
          (ap (λ (a : Matrix F). λ i. scale F (F.mul term.0 other.0) (a i)) (path_product_append F M is term.1 other.1 first all.0)
          ∙ sym (scaled_product term.0 other.0 (path_product F M term.1) (path_product F M other.1)))
          (term_times_value term word first all.1)
          ∙ sym (multiply-add_right F M.dimension (term_value term) (term_value other) (word_value F M word))

      word_times_value : (word other : Word F) → IsWordOf F M word → IsWordOf F M other →
          word_value F M (word_times word other) ≡ multiply F M.dimension (word_value F M word) (word_value F M other)
      unfolding word_times word_value term_value
      word_times_value [] other first second = fun_ext λ i. sym (times_zero F M.dimension (word_value F M other))
      word_times_value (term ∷ word) other first second =
          word_value_append F M (term_times term other) (word_times word other)
          ∙ ap₂ (add_matrices F) (term_times_value term other first.0 second) (word_times_value word other first.1 second)
          ∙ sym (multiply-add_left F M.dimension (term_value term) (word_value F M word) (word_value F M other))

      one_value : word_value F M ((F.one, []) ∷ []) ≡ unit_matrix F M.dimension
      unfolding word_value path_product
      one_value = fun_ext λ i. fun_ext λ j. F.add-zero (F.mul F.one (unit_matrix F M.dimension i j)) ∙ one-mul F (unit_matrix F M.dimension i j)

      word_power_value : (word : Word F) → IsWordOf F M word → (k : ℕ) →
          word_value F M (word_power word k) ≡ matrix_power F M.dimension (word_value F M word) k
      unfolding word_power
      word_power_value word all zero = one_value ∙ sym (power_zero F M.dimension (word_value F M word))
      word_power_value word all (suc k) =
          word_times_value (word_power word k) word (word_power_is_word word all k) all
          ∙ ap (λ (a : Matrix F). multiply F M.dimension a (word_value F M word)) (word_power_value word all k)
          ∙ sym (power_suc F M.dimension (word_value F M word) k)

      scaled_value : (c : F.Element) (word : Word F) → IsWordOf F M word →
          word_value F M (term_times (c, []) word) ≡ (λ i. scale F c (word_value F M word i))
      unfolding term_value path_product
      scaled_value c word all =
          term_times_value (c, []) word tt all
          ∙ fun_ext λ i. times-scale F M.dimension c (unit_matrix F M.dimension i) (word_value F M word)
          ∙ ap (λ (a : Matrix F). scale F c (a i))
          (identity_multiply F M.dimension M.dimension (word_value F M word) (word_value_is_matrix F M is word all))

      pub polynomial_word_value : (word : Word F) → IsWordOf F M word → (m : ℕ) (f : Vector F) →
          word_value F M (polynomial_word word m f) ≡ polynomial_value F M.dimension m f (word_value F M word)
      unfolding polynomial_word word_value
      polynomial_word_value word all zero f = fun_ext λ i.
          sym
          (value_row F M.dimension (word_value F M word) 0 f i ∙ times_none F f (λ k. matrix_power F M.dimension (word_value F M word) k i))
      polynomial_word_value word all (suc m) f =
          word_value_append F M (polynomial_word word m f) (term_times (f m, []) (word_power word m))
          ∙ ap₂ (add_matrices F) (polynomial_word_value word all m f)
          (scaled_value (f m) (word_power word m) (word_power_is_word word all m)
          ∙ ap (λ (a : Matrix F). λ i. scale F (f m) (a i)) (word_power_value word all m))
          ∙ fun_ext λ i.
          ap (λ (y : Vector F). add_vectors F y (scale F (f m) (matrix_power F M.dimension (word_value F M word) m i)))
          (value_row F M.dimension (word_value F M word) m f i)
          ∙ sym (times_more F m f (λ k. matrix_power F M.dimension (word_value F M word) k i))
          ∙ sym (value_row F M.dimension (word_value F M word) (suc m) f i)

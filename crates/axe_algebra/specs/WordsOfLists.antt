-- Words in the generators of a module, and their values, as lists.
use Rattle.std.specs.Prelude.{◌≡◌, ℕ, ◌<◌, List}
use Rattle.std.specs.List.{All}
use Rattle.axe_algebra.specs.NumberField.{NumberField}
use Rattle.axe_algebra.specs.Bridge.{field_of, matrix_of, module_of, word_of}
use Rattle.axe_algebra.specs.Words
use Rattle.axe_algebra.specs.Lists.{IsSquareOver}

-- the terms, each a coefficient and a list of generator numbers, are a word in so many generators
pub record IsWordOver (K : NumberField) (count : ℕ) (terms : List (ℕ × List ℕ)) : Type 0 where
  pub coefficients : All (λ (term : ℕ × List ℕ). term.0 < K.order) terms
  pub generators : All (λ (term : ℕ × List ℕ). All (λ number. number < count) term.1) terms

-- `matrix`, square of n rows, is the value of the word with these terms
pub record IsWordValue (K : NumberField) (n : ℕ) (generators : List (List (List ℕ))) (terms : List (ℕ × List ℕ))
    (matrix : List (List ℕ)) : Type 0 where
  pub square : IsSquareOver K n matrix
  pub value : matrix_of K matrix ≡ Words.word_value (field_of K) (module_of K n generators) (word_of K terms)

-- Words in the generators of a module, and their values (Parker 1984).
use Rattle.std.specs.Prelude.{◌≡◌, ◌≢◌, ℕ, ◌<◌, ◌≤◌, List, All, length}
use Rattle.axe_algebra.specs.WordsOfLists.{IsWordOver, IsWordValue}
use Rattle.axe_field.specs.Order.{IsElement}
use Rattle.axe_field.specs.NumberFields.{number_field}
use Rattle.axe_matrix.specs.Matrices.{MatrixValue}
use Rattle.axe_spin.specs.Modules.{ModuleValue}
use Rattle.axe_word.specs.Limits.{most_terms, most_numbers}

-- a word: its terms, the first one first, each a coefficient and the numbers of its generators from left to right
abbrev pub WordValue : Type 0
WordValue = List (ℕ × List ℕ)

-- there are no more terms than the limit allows, each with a coefficient other than 0 and no more generator numbers
-- than the limit allows
pub record IsWord (word : WordValue) : Type 0 where
  pub terms_fit : length word ≤ most_terms
  pub coefficients : All (λ (term : ℕ × List ℕ). term.0 ≢ 0) word
  pub numbers_fit : All (λ (term : ℕ × List ℕ). length term.1 ≤ most_numbers) word

-- the word is one in the module's generators over its field: each coefficient is an element, and each number that of a
-- generator
pub record IsWordIn (m : ModuleValue) (word : WordValue) : Type 0 where
  pub over : IsWordOver (number_field m.order) (length m.generators) word

-- the same of one term
pub record IsTermIn (m : ModuleValue) (term : ℕ × List ℕ) : Type 0 where
  pub element : IsElement m.order term.0
  pub numbers : All (λ number. number < length m.generators) term.1

-- the square matrix is the value of the word in the module: the sum over the terms of the coefficient times the
-- product of the generators from left to right; the empty sum is zero, and the empty product the identity (Parker
-- 1984)
pub record IsValueOf (m : ModuleValue) (word : WordValue) (x : MatrixValue) : Type 0 where
  pub field : x.order ≡ m.order
  pub columns : x.cols ≡ m.dim
  pub value : IsWordValue (number_field m.order) m.dim m.generators word x.rows

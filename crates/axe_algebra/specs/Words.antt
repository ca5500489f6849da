-- Words in the generators of a module, and their values (Parker 1984).
use Rattle.std.specs.Prelude.{ℕ, List, [], ◌∷◌, ⊤}
use Rattle.axe_algebra.specs.Field.{Field}
use Rattle.axe_algebra.specs.Vectors.{Matrix, add_matrices, scale}
use Rattle.axe_algebra.specs.Modules.{Module, AreGenerators, path_product}

-- a word: a list of terms, each a coefficient and a list of generator numbers
abbrev pub Word : Field → Type 0
Word F = List (F.Element × List ℕ)

-- the numbers in each term are numbers of generators
abbrev pub IsWordOf : (F : Field) → Module F → Word F → Type 0
IsWordOf F M [] = ⊤
IsWordOf F M (term ∷ rest) = AreGenerators F M term.1 × IsWordOf F M rest

-- the value of a word: the sum of each coefficient times the product of its generators from left to right
unfoldable pub word_value : (F : Field) → Module F → Word F → Matrix F
word_value F M [] = λ i j. F.zero
word_value F M (term ∷ rest) = add_matrices F (λ i. scale F term.0 (path_product F M term.1 i)) (word_value F M rest)

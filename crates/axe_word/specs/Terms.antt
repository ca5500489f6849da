-- The terms that a word is made of.
use Rattle.std.specs.Prelude.{◌≢◌, ◌≤◌, List, length, map}
use Rattle.axe_word.specs.Limits.{most_numbers}
use Rattle.axe_word.specs.declared.word.Term.{Term}
use Rattle.axe_word.specs.Words.{WordValue}

-- the word with these terms
abbrev pub word_of_terms : List Term → WordValue
word_of_terms terms = map (λ (term : Term). (term.coefficient, term.gens.now)) terms

-- the term may stand in a word: its coefficient is not 0, and it has no more generator numbers than the limit allows
pub record IsTerm (term : Term) : Type 0 where
  pub nonzero : term.coefficient ≢ 0
  pub fits : length term.gens.now ≤ most_numbers

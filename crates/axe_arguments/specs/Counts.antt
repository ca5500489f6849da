-- How many generators a module may have, and how many words may be tried.
use Rattle.std.specs.Prelude.{ℕ, ◌≤◌}
use Rattle.axe_arguments.specs.Limits.{most_generators, most_words}

-- a number of generators that a module may have
pub record IsGeneratorCount (number : ℕ) : Type 0 where
  pub some : 1 ≤ number
  pub fits : number ≤ most_generators

-- a number of words that may be tried after word 0
pub record IsWordCount (number : ℕ) : Type 0 where
  pub fits : number ≤ most_words

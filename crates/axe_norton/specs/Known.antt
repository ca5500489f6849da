-- What is known of a module before words of a seed are asked of it.
use Rattle.std.specs.Prelude.{ℕ, ◌+◌, ◌<◌, ◌≤◌, List, length, get_or, All, IsTrue}
use Rattle.axe_matrix.specs.Matrices.{MatrixValue, IsMatrix}
use Rattle.axe_spin.specs.Modules.{ModuleValue}
use Rattle.axe_word.specs.Words.{IsValueOf}
use Rattle.axe_norton.specs.declared.known.Known.{Known}
use Rattle.axe_norton.specs.Spaces.{LastGenerates}
pub use Rattle.axe_norton.specs.Verdicts.{word_of_seed}

-- the most values of words that are kept for one module
abbrev pub most_values : ℕ
most_values = 8

-- the matrices are the values of words 1, 2 and so on of the seed in the module (Parker 1984), and few
pub record AreValuesOf (m : ModuleValue) (seed : ℕ) (values : List MatrixValue) : Type 0 where
  pub each : (i : ℕ) (other : MatrixValue) → i < length values → IsValueOf m (word_of_seed m seed (i + 1)) (get_or values i other)
  pub well_formed : All IsMatrix values
  pub few : length values ≤ most_values

-- what is known of the module for the seed is true of it
pub record IsKnownOf (m : ModuleValue) (seed : ℕ) (known : Known) : Type 0 where
  pub last : IsTrue known.last_generates → LastGenerates m
  pub values : AreValuesOf m seed known.values.items

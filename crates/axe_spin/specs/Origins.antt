-- Where the rows of a standard basis come from.
use Rattle.std.specs.Prelude.{◌≡◌, ℕ, ◌+◌, ◌<◌, ◌≤◌, List, [], length, get_or}
use Rattle.axe_spin.specs.Modules.{ModuleValue}
use Rattle.axe_spin.specs.Spun.{image_of_row}
use Rattle.axe_spin.specs.declared.spinning.Origin.{Origin}

-- row k + 1 is the image of an earlier row, the origin's source, under the origin's generator (Parker 1984)
pub record IsOriginOf (m : ModuleValue) (rows : List (List ℕ)) (k : ℕ) (origin : Origin) : Type 0 where
  pub earlier : origin.source ≤ k
  pub generator-below : origin.generator < length m.generators
  pub image : get_or rows (k + 1) [] ≡ image_of_row m rows origin.source origin.generator

-- origin k is that of row k + 1, and each row after the first has one
pub record HaveOrigins (m : ModuleValue) (rows : List (List ℕ)) (origins : List Origin) : Type 0 where
  pub count : length rows ≡ length origins + 1
  pub each : (k : ℕ) (other : Origin) → k < length origins → IsOriginOf m rows k (get_or origins k other)

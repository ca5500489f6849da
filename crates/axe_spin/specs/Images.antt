-- Images of rows of a module that were made before they are taken.
use Rattle.std.specs.Prelude.{◌≡◌, ℕ, ◌+◌, ◌<◌, List, [], length, get_or}
use Rattle.axe_matrix.specs.Matrices.{MatrixValue}
use Rattle.axe_spin.specs.Modules.{ModuleValue}
use Rattle.axe_spin.specs.Spun.{image_of_row}

-- matrix i, one for each generator, has as its row at `index` the image of row `source` under generator i
pub record AreImagesAt (m : ModuleValue) (rows : List (List ℕ)) (source index : ℕ) (images : List MatrixValue) : Type 0 where
  pub count : length images ≡ length m.generators
  pub field : (i : ℕ) (other : MatrixValue) → i < length images → (get_or images i other).order ≡ m.order
  pub below : (i : ℕ) (other : MatrixValue) → i < length images → index < length (get_or images i other).rows
  pub image : (i : ℕ) (other : MatrixValue) → i < length images →
      get_or (get_or images i other).rows index [] ≡ image_of_row m rows source i

-- the same for so many rows from row `source` on, whose images stand in this order
abbrev pub AreImagesOfBlock : ModuleValue → List (List ℕ) → ℕ → ℕ → List MatrixValue → Type 0
AreImagesOfBlock m rows source count images = (index : ℕ) → index < count → AreImagesAt m rows (source + index) index images

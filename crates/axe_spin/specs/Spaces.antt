-- Subspaces of a module, enlarged by images of their vectors until they are invariant.
use Rattle.std.specs.Prelude.{◌≡◌, ℕ, ◌<◌, ◌≤◌, List, [], length, get_or}
use Rattle.axe_algebra.specs.SpansOfLists.{IsSpanned}
use Rattle.axe_algebra.specs.ModulesOfLists.{IsGenerated}
use Rattle.axe_field.specs.NumberFields.{number_field}
use Rattle.axe_echelon.specs.Echelons.{EchelonValue, IsEchelon}
use Rattle.axe_echelon.specs.Subspaces.{BeginWith}
use Rattle.axe_spin.specs.Modules.{ModuleValue}
use Rattle.axe_spin.specs.Spun.{image_of_row}

-- it is a space of vectors of the module
pub record IsSubspaceOf (m : ModuleValue) (space : EchelonValue) : Type 0 where
  pub field : space.order ≡ m.order
  pub columns : space.cols ≡ m.dim
  pub well_formed : IsEchelon space

-- a space of vectors of the module was enlarged: the new rows begin with the old ones, which generate them
pub record IsEnlarged (m : ModuleValue) (old new : EchelonValue) : Type 0 where
  pub subspace : IsSubspaceOf m new
  pub grown : length old.rows ≤ length new.rows
  pub begins : BeginWith old.rows new.rows
  pub generated : (t : ℕ) → t < length new.rows →
      IsGenerated (number_field m.order) m.dim m.generators old.rows (get_or new.rows t [])

-- the images of row r under the first generators, so many of them, are in the rows' span
abbrev pub AreImagesSpanned : ModuleValue → List (List ℕ) → ℕ → ℕ → Type 0
AreImagesSpanned m rows r count = (i : ℕ) → i < count → IsSpanned (number_field m.order) rows (image_of_row m rows r i)

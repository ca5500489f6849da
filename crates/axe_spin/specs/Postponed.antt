-- Images of rows that are postponed: of each row at most one.
use Rattle.std.specs.Prelude.{◌≡◌, ℕ, ◌<◌, List, Option, Some, None, length, slice_index_or}
use Rattle.axe_algebra.specs.SpansOfLists.{IsSpanned}
use Rattle.axe_field.specs.NumberFields.{number_field}
use Rattle.axe_spin.specs.Modules.{ModuleValue}
use Rattle.axe_spin.specs.Spun.{image_of_row}

-- the images of row r under the first generators, so many of them, are in the rows' span, but for the postponed one
abbrev pub AreImagesSpannedBut : ModuleValue → List (List ℕ) → Option ℕ → ℕ → ℕ → Type 0
AreImagesSpannedBut m rows postponed r count =
    (i : ℕ) → i < count → ¬ (postponed ≡ Some i) → IsSpanned (number_field m.order) rows (image_of_row m rows r i)

-- those of the first rows, for each of which the list has the generator whose image is postponed, or that none is
abbrev pub AreTakenBut : ModuleValue → List (List ℕ) → List (Option ℕ) → Type 0
AreTakenBut m rows postponed =
    (r : ℕ) → r < length postponed → AreImagesSpannedBut m rows (slice_index_or postponed r None) r (length m.generators)

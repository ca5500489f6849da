-- Products of two generators of a module that are kept, and products of generators by these.
use Rattle.std.specs.Prelude.{◌≡◌, ℕ, ◌+◌, ◌≤◌, List, [], ◌∷◌, All, length, take, drop}
use Rattle.axe_matrix.specs.Matrices.{MatrixValue, IsMatrix}
use Rattle.axe_matrix.specs.Multiples.{matrix_with_multiple}
use Rattle.axe_spin.specs.Modules.{ModuleValue}
use Rattle.axe_word.specs.declared.products.Kept.{Kept}
use Rattle.axe_word.specs.Products.{IsProductOf}

-- the product of the two generators with its numbers
pub record IsKeptOf (m : ModuleValue) (kept : Kept) : Type 0 where
  pub product : IsProductOf m (kept.first ∷ kept.second ∷ []) kept.product
  pub well_formed : IsMatrix kept.product

-- each is the product of two generators of the module
abbrev pub AreProductsOf : ModuleValue → List Kept → Type 0
AreProductsOf m = All (IsKeptOf m)

-- the matrix is the product of `len` generators with numbers from an index on, one or more
pub record IsFactorAt (m : ModuleValue) (numbers : List ℕ) (index len : ℕ) (x : MatrixValue) : Type 0 where
  pub some : 1 ≤ len
  pub within : index + len ≤ length numbers
  pub product : IsProductOf m (take len (drop index numbers)) x

-- the matrix after is the one before plus c times the product of the generators with these numbers
pub record IsMultipleAdded (m : ModuleValue) (c : ℕ) (numbers : List ℕ) (before after : MatrixValue) : Type 0 where
  pub matrix : MatrixValue
  pub product : IsProductOf m numbers matrix
  pub sum : after ≡ matrix_with_multiple before c matrix

-- What a header says.
use Rattle.std.specs.Prelude.{◌≡◌, ℕ, List}
use Rattle.axe_field.specs.Order.{Order}
use Rattle.axe_file.specs.Packed.{header_order, header_rows, header_columns}
use Rattle.axe_file.specs.PackedModules.{header_generators, header_dimension}

-- the bytes begin with a header that names the order o, r rows and c columns
pub record SaysShape (bytes : List ℕ) (o : Order) (r c : ℕ) : Type 0 where
  pub order : header_order bytes ≡ o
  pub rows : header_rows bytes ≡ r
  pub columns : header_columns bytes ≡ c

-- the bytes begin with the header of a module that names the order o, g generators and the dimension n
pub record SaysModule (bytes : List ℕ) (o : Order) (g n : ℕ) : Type 0 where
  pub order : header_order bytes ≡ o
  pub count : header_generators bytes ≡ g
  pub dimension : header_dimension bytes ≡ n

-- Rows and planes that may be added to others.
use Rattle.std.specs.Prelude.{◌≡◌, length}
use Rattle.axe_plane.specs.Addends.{IsAddend}
use Rattle.axe_row.specs.Rows.{RowValue}
use Rattle.axe_row.specs.declared.higher.Higher.{Higher}

-- it is over the same field, and of the other's length
pub record IsRowAddend (row other : RowValue) : Type 0 where
  pub field : other.order ≡ row.order
  pub fits : length other.entries ≡ length row.entries

-- each plane of the others may be added to that of the same power of x
pub record AreAddends (planes others : Higher) : Type 0 where
  pub linear : IsAddend planes.linear others.linear
  pub quadratic : IsAddend planes.quadratic others.quadratic

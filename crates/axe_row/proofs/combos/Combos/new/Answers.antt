use Rattle.std.proofs.Common.{ℕ, List, ap}
use Rattle.axe_row.proofs.TablePlanes.{AreZeroTables-made, IsTableOfRows-of_planes, zero_rows, zero_tables}
use Rattle.axe_row.proofs.combos.Combos.new.Goals as goal

pub invariant_of-result : goal.invariant_of-result
invariant_of-result c =
    zero_tables _ _ _ _ _ _ (AreZeroTables-made _ _ _ _ _ _ _ _ _ _ c.requires.size c.prime-prime.ensures c.table_rows-count.ensures
    c.digits_in_plane.ensures c.digits_in_plane-2.ensures c.in_ok-constant.ensures c.in_ok-linear.ensures c.in_ok-quadratic.ensures)

pub returns-clause-zeros : goal.returns-clause-zeros
returns-clause-zeros c =
    ap (λ (rows : List (List ℕ)). record { order = c.args.field; size = c.args.size; len = c.args.len; rows = rows })
    (zero_rows _ _ _ _ _ _ (AreZeroTables-made _ _ _ _ _ _ _ _ _ _ c.requires.size c.prime-prime.ensures c.table_rows-count.ensures
    c.digits_in_plane.ensures c.digits_in_plane-2.ensures c.in_ok-constant.ensures c.in_ok-linear.ensures c.in_ok-quadratic.ensures))

pub returns-clause-well_formed : goal.returns-clause-well_formed
returns-clause-well_formed c = IsTableOfRows-of_planes _ _ _ _ _ _ (invariant_of-result c)
